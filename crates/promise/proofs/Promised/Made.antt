-- After making: no writer, no page, every record emptied.
use Rattle.std.proofs.Common.{◌≡◌, ℕ, ◌*◌, ◌≤◌, [], length, get_or, sym, refl, ap, ◌∙◌, subst, ⊎_elim, arith}
use Rattle.std.proofs.lemmas.Bool.{cases_eq, cases_lt}
use Rattle.cells.specs.declared.refusal.Refusal.TheVariants.{RingLength, MemorySize, ArrayLength}
use Rattle.filters.specs.declared.filter.Filter.{Ghosts}
use Rattle.rules.specs.declared.table.Phase.TheVariants.{Idle}
use Rattle.rules.specs.declared.table.TaskRecord.{TaskRecord}
use Rattle.rules.specs.Book.{opening}
use Rattle.rules.specs.Lists.{At}
use Rattle.rules.specs.Making.{Makes}
use Rattle.rules.specs.State.{State, Fits}
use Rattle.rules.specs.Steps.{owes}
use Rattle.promise.proofs.Promised.Counting.{sum_none}
use Rattle.promise.proofs.Promised.Invariant.{Inv, owes_idle}
use Rattle.promise.proofs.Promised.Tasks.{idle≢open, idle≢committed}
use Rattle.promise.proofs.Promised.Turns.{at_none}

module _ {F C : Type 0} (Φ : Ghosts F) (asked s : State F C) (makes : Makes Φ asked s) where
  -- The ring has two slots or more.
  many_slots : 2 ≤ s.slots
  many_slots =
      ⊎_elim
      (λ few. absurd (makes.accepts RingLength (λ between. omega (arith, between.least))))
      (λ enough. omega (arith, ap (λ (z : State F C). z.slots) makes.after))
      (cases_lt asked.slots 2)

  -- The size is within its limit.
  small_size : s.size ≤ 65536
  small_size =
      ⊎_elim
      (λ large. absurd (makes.accepts MemorySize (λ between. omega (arith, between.most))))
      (λ small. omega (arith, ap (λ (z : State F C). z.size) makes.after))
      (cases_lt 65536 asked.size)

  -- Each length that was checked is right.
  checked_length : (m n : ℕ) → (Fits asked → m ≡ n) → m ≡ n
  checked_length m n says = ⊎_elim (λ same. same) (λ other. absurd (makes.accepts ArrayLength (λ fits. other (says fits)))) (cases_eq m n)

  -- All lengths are right.
  right_lengths : Fits s
  right_lengths = subst Fits (sym makes.after) (record {
    ring = makes.ring_length ∙ checked_length (length asked.ring) asked.slots (λ fits. fits.ring);
    table = makes.table_length ∙ checked_length (length asked.table) asked.tasks (λ fits. fits.table);
    addresses = checked_length (length asked.addresses) (asked.tasks * asked.pairs) (λ fits. fits.addresses);
    cells = checked_length (length asked.cells) (asked.tasks * asked.pairs) (λ fits. fits.cells);
    memory = checked_length (length asked.memory) asked.size (λ fits. fits.memory);
  })

  -- What holds after every call holds after making.
  pub made_holds : Inv Φ s (opening asked.memory)
  made_holds =
      let idle : (t : ℕ) (r : TaskRecord F) → At s.table t r → r.phase ≡ Idle = λ t r here. (makes.emptied t r here).phase_is in
      record {
        log = λ _. [];
        debts = λ _. 0;
        fits = right_lengths;
        small = small_size;
        count = sym makes.index;
        core = record {
          memory_length = right_lengths.memory;
          origin_length = sym makes.size;
          placed = λ i k x here. absurd (at_none here);
          inside = λ i k a c here. absurd (at_none here);
          once = λ i k j a c d here. absurd (at_none here);
          ordered = λ q i j k a c d before here. absurd (at_none here);
          holds = λ a. record {
            upto = 0;
            low = omega arith;
            is = λ d. ap (λ (z : State F C). get_or z.memory a d) makes.after;
            among = λ i k c here. absurd (at_none here);
            all = λ i k c here. absurd (at_none here);
          };
        };
        ring = record {
          some = many_slots;
          full = right_lengths.ring;
          marked = λ i e present. absurd (omega (arith, present.counted, present.stamped, (makes.vacant _ e present.there).stamp));
          owing = λ i owing. absurd (omega arith);
        };
        order = λ q i before known owing. owing;
        tied = λ i counted. refl;
        snaps = λ k p here. absurd (at_none here);
        owners = λ k place n p here. absurd (at_none here);
        balanced = sum_none owes s.table (λ t r here. owes_idle r (idle t r here));
        tasks = λ t r here. record { opened = λ is. absurd (idle≢open (sym (idle t r here) ∙ is)); committed = λ is. absurd (idle≢committed (sym (idle t r here) ∙ is)) };
        alone = λ t u r x here there is. absurd (idle≢committed (sym (idle t r here) ∙ is));
        backed = λ i owing. absurd (omega arith);
      }
