-- A commit with cells logged: one more writer, which owes all its cells and one more.
use Rattle.std.proofs.Common.{◌≡◌, ℕ, ◌+◌, ◌-◌, ◌%◌, List, length, set, Some, Ok, sym, refl, ap, ◌∙◌, subst, ⊎_elim, arith}
use Rattle.std.proofs.lemmas.List.{length-set}
use Rattle.std.proofs.lemmas.Bool.{cases_eq}
use Rattle.filters.specs.declared.filter.Filter.{Ghosts}
use Rattle.rules.specs.declared.ring.Status.TheVariants.{Writing}
use Rattle.rules.specs.declared.table.Phase.TheVariants.{Open, Committed}
use Rattle.rules.specs.declared.table.TaskRecord.{TaskRecord}
use Rattle.rules.specs.Book.{Page, Book, writing, place_of, owed, page_commit, entered_commit}
use Rattle.rules.specs.Records.{after_commit}
use Rattle.rules.specs.State.{State, with_entry}
use Rattle.rules.specs.Steps.{CommitChecks, Commits}
use Rattle.promise.proofs.Promised.Accepting.{commit_open, commit_room}
use Rattle.promise.proofs.Promised.Invariant.{Inv, owes_open}
use Rattle.promise.proofs.Promised.Laws.{Lawful}
use Rattle.promise.proofs.Promised.Layers.{layers, layers_same}
use Rattle.promise.proofs.Promised.Memory.{core_commit}
use Rattle.promise.proofs.Promised.Pages.{Matches, on_page_lem, newest_mine, newest_other, alike_other, log_set, log_found, snaps_turned, snap_more, owners_turned, balanced_turned}
use Rattle.promise.proofs.Promised.Reading.{still_matches, advanced_settled}
use Rattle.promise.proofs.Promised.Order.{order_commit, room_settled}
use Rattle.promise.proofs.Promised.Ring.{ring_commit}
use Rattle.promise.proofs.Promised.Running.{its}
use Rattle.promise.proofs.Promised.Tasks.{CommittedFacts, open≢committed, tasks_turned, alone_turned, backed_turned}
use Rattle.promise.proofs.Promised.Turns.{put, put_at, put_other, at_same, turned_set}

module _ {F C : Type 0} (Φ : Ghosts F) (laws : Lawful Φ) {s : State F C} {b : Book C} (inv : Inv Φ s b) (t start compared : ℕ) (checked : CommitChecks Φ s t (Ok (record { start = start; compared = compared }))) where
  -- The task's record and page before, and the place, the record and the page after.
  abbrev r : TaskRecord F
  r = checked.task

  -- The record is Open.
  abbrev opened : r.phase ≡ Open
  opened = commit_open Φ s t r checked.there checked.accepts

  -- The page, and where it stands.
  abbrev page : Page C
  page = (its Φ inv checked.there opened).page

  abbrev at : ℕ
  at = (its Φ inv checked.there opened).at

  -- The place that the writer takes.
  abbrev place : ℕ
  place = s.index + 1

  -- The record after.
  abbrev x : TaskRecord F
  x = after_commit r start place

  -- The page after.
  abbrev q : Page C
  q = page_commit place page

  -- The logs and what the places owe after.
  abbrev log : ℕ → List (ℕ × C)
  log = put inv.log place page.log

  abbrev debts : ℕ → ℕ
  debts = put inv.debts place (length page.log + 1)

  -- The check was made at the index after which the place comes, so the answers match the cells after all logs before it.
  answers_match : Matches (layers b.origin log s.index) page.answers
  answers_match a c here =
      at_same (layers_same b.origin inv.log log s.index (λ i counted low. sym (put_other inv.log place i page.log (omega arith))))
      (still_matches Φ laws inv checked.there opened r.reads (λ n covered. covered) checked.checks.asked s.index (its Φ inv checked.there opened).start (omega arith) a c here)

  -- What the Committed record says.
  committed_facts : CommittedFacts Φ s.pairs s.size (record { addresses = s.addresses; cells = s.cells; pages = set b.pages at q; log = log; debts = debts; count = place }) t x
  committed_facts =
      let facts = its Φ inv checked.there opened in
      let all = facts.logs.count in
      let none = facts.written in
      let advanced = checked.checks.advanced in
      let high = advanced.high in
      let whole : length page.log + 1 ≡ r.logged - r.written + 1 = omega arith in
      record {
        at = at;
        page = q;
        newest = newest_mine facts.newest (turned_set b.pages at q facts.newest.there.within) facts.newest.task;
        standing = ap (writing place) whole;
        mine = put_at inv.log place place page.log refl;
        owing = put_at inv.debts place place (length page.log + 1) refl ∙ whole;
        logs = facts.logs;
        some = checked.some;
        written = omega arith;
        start = omega arith;
        place = omega arith;
        settled = λ i low.
            put_other inv.debts place i (length page.log + 1) (omega arith)
            ∙ advanced_settled Φ laws inv checked.there opened r.reads (λ n covered. covered) checked.checks.asked start advanced i low;
      }

  -- What holds, holds with one writer more.
  committed : Inv Φ (with_entry s place place (record { stamp = place; filter = r.writes; status = Writing }) t x) (record { origin = b.origin; pages = set b.pages at q; writers = b.writers + 1 })
  committed =
      let facts = its Φ inv checked.there opened in
      let there = checked.there in
      let turned = turned_set s.table t x there.within in
      let pages = turned_set b.pages at q facts.newest.there.within in
      let free : r.phase ≡ Committed → ⊥ = λ is. open≢committed (sym opened ∙ is) in
      let fits = inv.fits in
      let old = snap_more page.log (inv.snaps at page facts.newest.there) in
      record {
        log = log;
        debts = debts;
        fits = record {
          ring = length-set s.ring (place % s.slots) (record { stamp = place; filter = r.writes; status = Writing }) ∙ fits.ring;
          table = length-set s.table t x ∙ fits.table;
          addresses = fits.addresses;
          cells = fits.cells;
          memory = fits.memory;
        };
        small = inv.small;
        count = ap (λ (n : ℕ). n + 1) inv.count;
        core = core_commit inv.core page.log facts.logs.inside facts.logs.once;
        ring = ring_commit Φ inv.ring (room_settled Φ inv.ring inv.order (commit_room Φ s t r there checked.accepts checked.some)) page.log r.writes facts.logs.covered;
        order = order_commit inv.debts s.index (length page.log) inv.order;
        tied = λ i counted.
            ⊎_elim
            (λ same.
            log_found b.pages at i page q facts.newest.there (sym same) (λ j y here e. omega (arith, (inv.snaps j y here).place_low))
            ∙ sym (put_at inv.log place i page.log same))
            (λ other.
            log_set b.pages at i page q facts.newest.there (alike_other i page q (λ e. omega (arith, ap place_of facts.standing)) (λ e. other (sym e)))
            ∙ inv.tied i counted
            ∙ sym (put_other inv.log place i page.log other))
            (cases_eq i place);
        snaps = snaps_turned (λ k p here. snap_more page.log (inv.snaps k p here)) pages (record {
          place_low = omega arith;
          seen_low = old.seen_low;
          seen = old.seen;
          committed = λ some. let e : s.index ≡ place - 1 = omega arith in subst (λ (n : ℕ). Matches (layers b.origin log n) page.answers) e answers_match;
        });
        owners = owners_turned inv.owners facts.newest pages facts.newest.task turned (λ i n e. (refl, ap place_of e));
        balanced = balanced_turned x q there facts.newest.there (omega (arith, owes_open r opened, ap owed facts.standing, facts.logs.count, facts.written)) inv.balanced;
        tasks = tasks_turned Φ s.pairs s.size inv.tasks turned
            (record { opened = λ is. absurd (open≢committed (sym is)); committed = λ is. committed_facts })
            (λ u apart. record {
              newest = λ k p other. (k, newest_other facts.newest pages facts.newest.task apart other);
              addresses = λ k short. refl;
              cells = λ k c short here. here;
              log = λ i low. sym (put_other inv.log place i page.log (omega arith));
              debts = λ i low none. put_other inv.debts place i (length page.log + 1) (omega arith) ∙ none;
              count = omega arith;
            })
            (λ u y apart here is.
            let low = ((inv.tasks u y here).committed is).place in
            put_other inv.debts place y.place (length page.log + 1) (omega arith));
        alone = alone_turned inv.alone turned (λ u y apart here is also same. let low = ((inv.tasks u y here).committed is).place in omega arith);
        backed = λ i owing.
            ⊎_elim
            (λ same. record { number = t; task = x; there = turned.mine; committed = refl; placed = sym same })
            (λ other. backed_turned (inv.backed i (omega (arith, put_other inv.debts place i (length page.log + 1) other))) there turned (λ is. absurd (free is)))
            (cases_eq i place);
      }

module _ {F C : Type 0} (Φ : Ghosts F) (laws : Lawful Φ) {s : State F C} {b : Book C} (inv : Inv Φ s b) (t place compared : ℕ) (s' : State F C) where
  -- A commit with cells logged keeps what holds.
  pub commits : Commits Φ s t place compared s' → Inv Φ s' (entered_commit b t (Some place))
  commits step =
      let checked = step.checked in
      let r = checked.task in
      let facts = its Φ inv checked.there (commit_open Φ s t r checked.there checked.accepts) in
      subst (λ (z : State F C). Inv Φ z (entered_commit b t (Some place))) (sym step.after)
      (subst (λ (n : ℕ). Inv Φ (with_entry s n n (record { stamp = n; filter = r.writes; status = Writing }) t (after_commit r step.start n)) (entered_commit b t (Some n))) (sym step.next)
      (subst (λ (ps : List (Page C)). Inv Φ (with_entry s (s.index + 1) (s.index + 1) (record { stamp = s.index + 1; filter = r.writes; status = Writing }) t (after_commit r step.start (s.index + 1))) (record { origin = b.origin; pages = ps; writers = b.writers + 1 }))
      (sym (on_page_lem b.pages t facts.at facts.page (page_commit (s.index + 1)) facts.newest))
      (committed Φ laws inv t step.start compared checked)))
