-- An Open record is emptied: its page stays as it is.
use Rattle.std.proofs.Common.{◌≡◌, ℕ, sym, refl, ap, ◌∙◌, subst, arith}
use Rattle.std.proofs.lemmas.List.{length-set}
use Rattle.std.proofs.lemmas.List.Sums.{sum_by-set}
use Rattle.filters.specs.declared.filter.Filter.{Ghosts}
use Rattle.rules.specs.declared.table.Phase.TheVariants.{Idle, Open, Committed}
use Rattle.rules.specs.declared.table.TaskRecord.{TaskRecord}
use Rattle.rules.specs.Book.{Book}
use Rattle.rules.specs.Lists.{At}
use Rattle.rules.specs.Records.{Emptied}
use Rattle.rules.specs.State.{State, with_record}
use Rattle.rules.specs.Steps.{owes, Empties}
use Rattle.promise.proofs.Promised.Invariant.{Inv, owes_idle, owes_open}
use Rattle.promise.proofs.Promised.Pages.{owners_table}
use Rattle.promise.proofs.Promised.Tasks.{idle≢open, idle≢committed, open≢committed, tasks_turned, alone_turned, backed_turned}
use Rattle.promise.proofs.Promised.Turns.{at_read, turned_set}

module _ {F C : Type 0} (Φ : Ghosts F) {s : State F C} {b : Book C} (inv : Inv Φ s b) (t : ℕ) (r : TaskRecord F) (there : At s.table t r) (opened : r.phase ≡ Open) where
  -- What holds, holds with the emptied record.
  emptied_record : (x : TaskRecord F) → Emptied Φ x → Inv Φ (with_record s t x) b
  emptied_record x emptied =
      let turned = turned_set s.table t x there.within in
      let free : r.phase ≡ Committed → ⊥ = λ committed. open≢committed (sym opened ∙ committed) in
      let idle : x.phase ≡ Idle = emptied.phase_is in
      let fits = inv.fits in
      record {
        log = inv.log;
        debts = inv.debts;
        fits = record { ring = fits.ring; table = length-set s.table t x ∙ fits.table; addresses = fits.addresses; cells = fits.cells; memory = fits.memory };
        small = inv.small;
        count = inv.count;
        core = inv.core;
        ring = inv.ring;
        order = inv.order;
        tied = inv.tied;
        snaps = inv.snaps;
        owners = owners_table inv.owners there free turned;
        balanced = omega (
          arith,
          inv.balanced,
          sum_by-set owes s.table t x r there.within,
          ap owes (at_read there r),
          owes_idle x idle,
          owes_open r opened,
        );
        tasks = tasks_turned Φ s.pairs s.size inv.tasks turned
            (record { opened = λ is. absurd (idle≢open (sym idle ∙ is)); committed = λ is. absurd (idle≢committed (sym idle ∙ is)) })
            (λ u apart. record {
              newest = λ k p newest. (k, newest);
              addresses = λ k short. refl;
              cells = λ k c short here. here;
              log = λ i low. refl;
              debts = λ i low none. none;
              count = omega arith;
            })
            (λ u y apart here committed. refl);
        alone = alone_turned inv.alone turned (λ u y apart here committed is same. idle≢committed (sym idle ∙ is));
        backed = λ i owing. backed_turned (inv.backed i owing) there turned (λ committed. absurd (free committed));
      }

  -- A call that empties an Open record keeps what holds.
  pub empties : (s' : State F C) → Empties Φ s t s' → Inv Φ s' b
  empties s' step = subst (λ (z : State F C). Inv Φ z b) (sym step.after) (emptied_record step.task step.emptied)
