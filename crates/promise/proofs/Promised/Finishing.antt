-- A work with none left: the writer finishes.
use Rattle.std.proofs.Common.{◌≡◌, ℕ, ◌-◌, ◌%◌, List, set, sym, refl, ap, ◌∙◌, subst, ⊎_elim, arith}
use Rattle.std.proofs.lemmas.List.{length-set}
use Rattle.std.proofs.lemmas.Bool.{cases_eq}
use Rattle.filters.specs.declared.filter.Filter.{Ghosts}
use Rattle.rules.specs.declared.answer.Worked.TheVariants.{Done}
use Rattle.rules.specs.declared.ring.Entry.{Entry}
use Rattle.rules.specs.declared.ring.Status.TheVariants.{Complete}
use Rattle.rules.specs.declared.table.Phase.TheVariants.{Idle, Committed}
use Rattle.rules.specs.declared.table.TaskRecord.{TaskRecord}
use Rattle.rules.specs.Book.{Page, Book, finished, place_of, owed, worked, with_pages, on_page, page_work}
use Rattle.rules.specs.Places.{Present}
use Rattle.rules.specs.State.{State, with_entry}
use Rattle.rules.specs.Steps.{Finishes}
use Rattle.promise.proofs.Promised.Accepting.{work_committed, work_last}
use Rattle.promise.proofs.Promised.Invariant.{Inv, scene, owes_idle, owes_committed}
use Rattle.promise.proofs.Promised.Memory.{core_finish}
use Rattle.promise.proofs.Promised.Pages.{on_page_lem, newest_other, alike_same, log_set, snaps_turned, snap_standing, owners_turned, balanced_turned, finished≢writing}
use Rattle.promise.proofs.Promised.Order.{order_finish}
use Rattle.promise.proofs.Promised.Ring.{owes_none, ring_finish}
use Rattle.promise.proofs.Promised.Tasks.{CommittedFacts, idle≢open, idle≢committed, tasks_turned, alone_turned, backed_turned}
use Rattle.promise.proofs.Promised.Turns.{put, put_at, put_other, turned_set}
use Rattle.promise.proofs.Promised.WritingBack.{the_writer, place_apart}

module _ {F C : Type 0} (Φ : Ghosts F) {s : State F C} {b : Book C} (inv : Inv Φ s b) (t place : ℕ) (s' : State F C) (step : Finishes Φ s t place s') where
  -- The task's record, which is Committed, and what it says.
  abbrev r : TaskRecord F
  r = step.task

  committed : r.phase ≡ Committed
  committed = work_committed Φ s t r step.there step.accepts

  abbrev facts : CommittedFacts Φ s.pairs s.size (scene s b.pages inv.log inv.debts) t r
  facts = the_writer Φ inv step.there committed

  -- The record and the page after, what the places owe after, and the entry after.
  abbrev x : TaskRecord F
  x = step.idle

  abbrev q : Page C
  q = page_work (Done place) facts.page

  abbrev debts : ℕ → ℕ
  debts = put inv.debts r.place 0

  abbrev entry : Entry F
  entry = record { stamp = step.entry.stamp; filter = step.entry.filter; status = Complete }

  -- The page is finished.
  new_standing : q.standing ≡ finished r.place
  new_standing = ap (worked (Done place)) facts.standing

  -- The page keeps its place.
  same_place : place_of q.standing ≡ place_of facts.page.standing
  same_place = ap place_of new_standing ∙ sym (ap place_of facts.standing)

  -- The entry that is set complete is the writer's own.
  present : Present s.slots s.ring r.place step.entry
  present = subst (λ (n : ℕ). Present s.slots s.ring n step.entry) step.named step.present

  -- A place owes no more than before.
  no_more : (i : ℕ) → inv.debts i ≡ 0 → debts i ≡ 0
  no_more i none =
      ⊎_elim
      (λ same. put_at inv.debts r.place i 0 same)
      (λ other. put_other inv.debts r.place i 0 other ∙ none)
      (cases_eq i r.place)

  -- What holds, holds with the writer finished.
  done : Inv Φ (with_entry s s.index r.place entry t x) (with_pages b (set b.pages facts.at q))
  done =
      let there = step.there in
      let turned = turned_set s.table t x there.within in
      let pages = turned_set b.pages facts.at q facts.newest.there.within in
      let fits = inv.fits in
      let idle : x.phase ≡ Idle = step.emptied.phase_is in
      let none = step.none in
      let owing = facts.owing in
      let last : inv.debts r.place ≡ 1 = omega arith in
      let before : inv.debts (r.place - 1) ≡ 0 = owes_none Φ inv.ring (r.place - 1) (work_last Φ s t r there step.accepts none (omega (arith, facts.start))) in
      record {
        log = inv.log;
        debts = debts;
        fits = record {
          ring = length-set s.ring (r.place % s.slots) entry ∙ fits.ring;
          table = length-set s.table t x ∙ fits.table;
          addresses = fits.addresses;
          cells = fits.cells;
          memory = fits.memory;
        };
        small = inv.small;
        count = inv.count;
        core = core_finish inv.core r.place last;
        ring = ring_finish Φ inv.ring r.place step.entry present;
        order = order_finish inv.debts s.index r.place facts.place before inv.order;
        tied = λ i counted. log_set b.pages facts.at i facts.page q facts.newest.there (alike_same i facts.page q same_place refl) ∙ inv.tied i counted;
        snaps = snaps_turned inv.snaps pages (snap_standing q.standing same_place (inv.snaps facts.at facts.page facts.newest.there));
        owners = owners_turned inv.owners facts.newest pages facts.newest.task turned (λ i n e. absurd (finished≢writing (sym new_standing ∙ e)));
        balanced = balanced_turned x q there facts.newest.there (omega (arith, owes_committed r committed, owes_idle x idle, ap owed facts.standing, ap owed new_standing)) inv.balanced;
        tasks = tasks_turned Φ s.pairs s.size inv.tasks turned
            (record { opened = λ is. absurd (idle≢open (sym idle ∙ is)); committed = λ is. absurd (idle≢committed (sym idle ∙ is)) })
            (λ u apart. record {
              newest = λ k p other. (k, newest_other facts.newest pages facts.newest.task apart other);
              addresses = λ k short. refl;
              cells = λ k c short here. here;
              log = λ i low. refl;
              debts = λ i low nothing. no_more i nothing;
              count = omega arith;
            })
            (λ u y apart here is. put_other inv.debts r.place y.place 0 (place_apart Φ inv there committed u y apart here is));
        alone = alone_turned inv.alone turned (λ u y apart here is also same. idle≢committed (sym idle ∙ also));
        backed = λ i more.
            let apart : i ≡ r.place → ⊥ = λ same. omega (arith, put_at inv.debts r.place i 0 same) in
            backed_turned (inv.backed i (omega (arith, put_other inv.debts r.place i 0 apart))) there turned (λ is placed. absurd (apart (sym placed)));
      }

  -- A work that finishes a writer keeps what holds.
  pub finishes : Inv Φ s' (with_pages b (on_page t (page_work (Done place)) b.pages))
  finishes =
      subst (λ (z : State F C). Inv Φ z (with_pages b (on_page t (page_work (Done place)) b.pages))) (sym step.after)
      (subst (λ (n : ℕ). Inv Φ (with_entry s s.index n entry t x) (with_pages b (on_page t (page_work (Done place)) b.pages))) (sym step.named)
      (subst (λ (ps : List (Page C)). Inv Φ (with_entry s s.index r.place entry t x) (with_pages b ps)) (sym (on_page_lem b.pages t facts.at facts.page (page_work (Done place)) facts.newest)) done))
