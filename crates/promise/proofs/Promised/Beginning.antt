-- A task begins: a new page, and an Open record that starts where nothing at or below is unfinished.
use Rattle.std.proofs.Common.{◌≡◌, ℕ, zero, suc, eqb, [], ◌∷◌, sym, refl, ap, ◌∙◌, subst, arith}
use Rattle.std.proofs.lemmas.List.{length-set}
use Rattle.std.proofs.lemmas.List.Sums.{sum_by-set, sum_by-cons}
use Rattle.std.proofs.lemmas.Bool.{ne_eqb, cond-false}
use Rattle.filters.specs.declared.filter.Filter.{Ghosts}
use Rattle.rules.specs.declared.table.Phase.TheVariants.{Idle, Open, Committed}
use Rattle.rules.specs.declared.table.TaskRecord.{TaskRecord}
use Rattle.rules.specs.Book.{Page, Book, new_page, with_pages, log_in, owed}
use Rattle.rules.specs.Calls.{begin}
use Rattle.rules.specs.Lists.{At}
use Rattle.rules.specs.Records.{Opened}
use Rattle.rules.specs.Places.{Settled}
use Rattle.rules.specs.State.{State, with_record}
use Rattle.rules.specs.Steps.{owes, Begins}
use Rattle.promise.proofs.Promised.Accepting.{known_task, begin_idle}
use Rattle.promise.proofs.Promised.Invariant.{Inv, scene, owes_idle, owes_open}
use Rattle.promise.proofs.Promised.Pages.{in_none, newest_cons, newest_new, snaps_cons, owners_cons}
use Rattle.promise.proofs.Promised.Order.{start_settled}
use Rattle.promise.proofs.Promised.Tasks.{OpenFacts, idle≢committed, open≢committed, tasks_turned, alone_turned, backed_turned}
use Rattle.promise.proofs.Promised.Turns.{at_none, at_some, at_read, turned_set}

module _ {F C : Type 0} (Φ : Ghosts F) {s : State F C} {b : Book C} (inv : Inv Φ s b) (t : ℕ) where
  module _ (start : ℕ) (settled : Settled s.slots s.ring s.index start) (x : TaskRecord F) (opened : Opened Φ start x) where
    -- The new record with its new page.
    open_facts : OpenFacts Φ s.pairs s.size b.origin (scene s (new_page t ∷ b.pages) inv.log inv.debts) t x
    open_facts = record {
      at = zero;
      page = new_page t;
      newest = newest_new b.pages t;
      standing = refl;
      logs = record {
        count = sym opened.logged;
        short = omega (arith, opened.logged);
        held = λ k a c here. absurd (at_none here);
        inside = λ k a c here. absurd (at_none here);
        once = λ k j a c d here. absurd (at_none here);
        covered = λ k a c here. absurd (at_none here);
      };
      place = opened.place;
      written = opened.written;
      start = omega (arith, opened.start_is, settled.within);
      settled = λ i low. start_settled Φ inv.ring inv.order settled i (omega (arith, opened.start_is));
      reads = λ a c none. absurd (in_none none);
      matches = λ a c none. absurd (in_none none);
    }

    -- What holds, holds with the new record and the new page.
    begun : (r : TaskRecord F) → At s.table t r → r.phase ≡ Idle → Inv Φ (with_record s t x) (with_pages b (new_page t ∷ b.pages))
    begun r there idle =
        let turned = turned_set s.table t x there.within in
        let free : r.phase ≡ Committed → ⊥ = λ committed. idle≢committed (sym idle ∙ committed) in
        let is_open : x.phase ≡ Open = opened.phase_is in
        let fits = inv.fits in
        record {
          log = inv.log;
          debts = inv.debts;
          fits = record { ring = fits.ring; table = length-set s.table t x ∙ fits.table; addresses = fits.addresses; cells = fits.cells; memory = fits.memory };
          small = inv.small;
          count = inv.count;
          core = inv.core;
          ring = inv.ring;
          order = inv.order;
          tied = λ i counted. cond-false (eqb 0 i) [] (log_in b.pages i) (ne_eqb 0 i (omega arith)) ∙ inv.tied i counted;
          snaps = snaps_cons t inv.snaps;
          owners = owners_cons inv.owners there free turned;
          balanced = omega (
            arith,
            inv.balanced,
            sum_by-set owes s.table t x r there.within,
            ap owes (at_read there r),
            owes_open x is_open,
            owes_idle r idle,
            sum_by-cons (λ (p : Page C). owed p.standing) (new_page t) b.pages,
          );
          tasks = tasks_turned Φ s.pairs s.size inv.tasks turned
              (record { opened = λ is. open_facts; committed = λ is. absurd (open≢committed (sym is_open ∙ is)) })
              (λ u apart. record {
                newest = λ k p newest. (suc k, newest_cons t apart newest);
                addresses = λ k short. refl;
                cells = λ k c short here. here;
                log = λ i low. refl;
                debts = λ i low none. none;
                count = omega arith;
              })
              (λ u y apart here committed. refl);
          alone = alone_turned inv.alone turned (λ u y apart here committed is same. open≢committed (sym is_open ∙ is));
          backed = λ i owing. backed_turned (inv.backed i owing) there turned (λ committed. absurd (free committed));
        }

  -- A begin keeps what holds.
  pub begins : (start : ℕ) (s' : State F C) → Begins Φ s t start s' → Inv Φ s' (with_pages b (new_page t ∷ b.pages))
  begins start s' step =
      let (r, there) = at_some s.table t (omega (arith, known_task Φ s t begin step.accepts, inv.fits.table)) in
      subst (λ (z : State F C). Inv Φ z (with_pages b (new_page t ∷ b.pages))) (sym step.after)
      (begun start step.settled step.task step.opened r there (begin_idle Φ s t r there step.accepts))
