-- A work with cells left: the writer writes its next cell.
use Rattle.std.proofs.Common.{◌≡◌, ℕ, ◌+◌, ◌-◌, ◌<◌, List, length, get_or, set, sym, refl, ap, ◌∙◌, subst, ⊎_elim, arith}
use Rattle.std.proofs.lemmas.List.{length-set}
use Rattle.std.proofs.lemmas.Bool.{cases_eq, cases_lt}
use Rattle.filters.specs.declared.filter.Filter.{Ghosts}
use Rattle.rules.specs.declared.answer.Worked.TheVariants.{Left}
use Rattle.rules.specs.declared.table.Phase.TheVariants.{Committed}
use Rattle.rules.specs.declared.table.TaskRecord.{TaskRecord}
use Rattle.rules.specs.Book.{Page, Book, writing, place_of, owed, worked, with_pages, on_page, page_work}
use Rattle.rules.specs.Lists.{At}
use Rattle.rules.specs.Records.{after_work}
use Rattle.rules.specs.State.{State, base, with_cell}
use Rattle.rules.specs.Steps.{WritesBack}
use Rattle.rules.proofs.AtLaws.{at_one}
use Rattle.promise.proofs.Promised.Accepting.{work_committed, work_free}
use Rattle.promise.proofs.Promised.Invariant.{Inv, scene, owes_committed}
use Rattle.promise.proofs.Promised.Laws.{Lawful}
use Rattle.promise.proofs.Promised.Memory.{core_write}
use Rattle.promise.proofs.Promised.Pages.{on_page_lem, newest_mine, newest_other, alike_same, log_set, snaps_turned, snap_standing, owners_turned, balanced_turned}
use Rattle.promise.proofs.Promised.Order.{order_write}
use Rattle.promise.proofs.Promised.Ring.{ring_write}
use Rattle.promise.proofs.Promised.Tasks.{CommittedFacts, open≢committed, tasks_turned, alone_turned, backed_turned}
use Rattle.promise.proofs.Promised.Turns.{put, put_at, put_other, at_same, at_some, turned_set}

module _ {F C : Type 0} (Φ : Ghosts F) {s : State F C} {b : Book C} (inv : Inv Φ s b) {t : ℕ} {r : TaskRecord F} (there : At s.table t r) (committed : r.phase ≡ Committed) where
  -- What the invariant says of the Committed record.
  abbrev pub the_writer : CommittedFacts Φ s.pairs s.size (scene s b.pages inv.log inv.debts) t r
  the_writer = (inv.tasks t r there).committed committed

  -- No other Committed record has its place.
  pub place_apart : (u : ℕ) (y : TaskRecord F) → (u ≡ t → ⊥) → At s.table u y → y.phase ≡ Committed → y.place ≡ r.place → ⊥
  place_apart u y apart here is same = apart (inv.alone u t y r here there is committed same)

module _ {F C : Type 0} (Φ : Ghosts F) (laws : Lawful Φ) {s : State F C} {b : Book C} (inv : Inv Φ s b) (t left : ℕ) (s' : State F C) (step : WritesBack Φ s t left s') where
  -- The task's record, which is Committed, and what it says.
  abbrev r : TaskRecord F
  r = step.task

  committed : r.phase ≡ Committed
  committed = work_committed Φ s t r step.there step.accepts

  abbrev facts : CommittedFacts Φ s.pairs s.size (scene s b.pages inv.log inv.debts) t r
  facts = the_writer Φ inv step.there committed

  -- The address that is written, as the arrays have it.
  abbrev a : ℕ
  a = get_or s.addresses (base s t + r.written) 0

  -- The record, the page and what the places owe after.
  abbrev x : TaskRecord F
  x = after_work r

  abbrev q : Page C
  q = page_work (Left left) facts.page

  abbrev debts : ℕ → ℕ
  debts = put inv.debts r.place (inv.debts r.place - 1)

  -- The address and the cell are the next pair of the writer's log.
  next_pair : At (inv.log r.place) r.written (a, step.cell)
  next_pair =
      let (y, here) = at_some facts.page.log r.written (omega (arith, step.more, facts.logs.count)) in
      let held = facts.logs.held r.written y.0 y.1 here in
      at_same (sym facts.mine) (
      subst (λ (n : ℕ). At facts.page.log r.written (n, step.cell)) (sym held.0)
      (subst (λ (d : C). At facts.page.log r.written (y.0, d)) (at_one held.1 step.logged) here)
      )

  -- No earlier writer with a common address is unfinished: below the start none is, and above it the wait would have said so.
  no_earlier : (i j m n : ℕ) (d e : C) → i < r.place → At (inv.log i) j (n, d) → At (inv.log r.place) m (n, e) → 0 < inv.debts i → ⊥
  no_earlier i j m n d e before that this owing =
      ⊎_elim
      (λ above.
      let pending = inv.ring.owing i owing in
      let inside = inv.core.inside i j n d that in
      work_free Φ s t r step.there step.accepts step.more i above before (record {
        pending = pending;
        met = laws.common pending.entry.filter r.writes n (omega (arith, inv.small))
            ((inv.ring.marked i pending.entry pending.present).covered j n d that)
            (facts.logs.covered m n e (at_same facts.mine this));
      }))
      (λ below. let none = facts.settled i below in omega arith)
      (cases_lt r.start i)

  -- The page owes one less.
  new_standing : q.standing ≡ writing r.place (r.logged - r.written + 1 - 1)
  new_standing = ap (worked (Left left)) facts.standing

  -- The page keeps its place.
  same_place : place_of q.standing ≡ place_of facts.page.standing
  same_place = ap place_of new_standing ∙ sym (ap place_of facts.standing)

  -- What the Committed record says after.
  writer_facts : CommittedFacts Φ s.pairs s.size (scene s (set b.pages facts.at q) inv.log debts) t x
  writer_facts =
      let owing = facts.owing in
      let more = step.more in
      let start = facts.start in
      let one_less : r.logged - r.written + 1 - 1 ≡ r.logged - (r.written + 1) + 1 = omega arith in
      record {
        at = facts.at;
        page = q;
        newest = newest_mine facts.newest (turned_set b.pages facts.at q facts.newest.there.within) facts.newest.task;
        standing = new_standing ∙ ap (writing r.place) one_less;
        mine = facts.mine;
        owing = omega (arith, put_at inv.debts r.place r.place (inv.debts r.place - 1) refl);
        logs = facts.logs;
        some = facts.some;
        written = omega arith;
        start = facts.start;
        place = facts.place;
        settled = λ i low. put_other inv.debts r.place i (inv.debts r.place - 1) (omega arith) ∙ facts.settled i low;
      }

  -- A place that owed nothing owes nothing still.
  still_none : (i : ℕ) → inv.debts i ≡ 0 → debts i ≡ 0
  still_none i none =
      ⊎_elim
      (λ same. absurd (omega (arith, ap inv.debts same, facts.owing)))
      (λ other. put_other inv.debts r.place i (inv.debts r.place - 1) other ∙ none)
      (cases_eq i r.place)

  -- What holds, holds with the cell written.
  written_back : Inv Φ (with_cell s t x a step.cell) (with_pages b (set b.pages facts.at q))
  written_back =
      let there = step.there in
      let turned = turned_set s.table t x there.within in
      let pages = turned_set b.pages facts.at q facts.newest.there.within in
      let fits = inv.fits in
      let more : 1 < inv.debts r.place = omega (arith, facts.owing, step.more) in
      record {
        log = inv.log;
        debts = debts;
        fits = record { ring = fits.ring; table = length-set s.table t x ∙ fits.table; addresses = fits.addresses; cells = fits.cells; memory = length-set s.memory a step.cell ∙ fits.memory };
        small = inv.small;
        count = inv.count;
        core = core_write inv.core r.place r.written a step.cell next_pair (omega (arith, facts.owing, step.more, ap length facts.mine, facts.logs.count)) no_earlier;
        ring = ring_write Φ inv.ring r.place more;
        order = order_write inv.debts s.index r.place more inv.order;
        tied = λ i counted. log_set b.pages facts.at i facts.page q facts.newest.there (alike_same i facts.page q same_place refl) ∙ inv.tied i counted;
        snaps = snaps_turned inv.snaps pages (snap_standing q.standing same_place (inv.snaps facts.at facts.page facts.newest.there));
        owners = owners_turned inv.owners facts.newest pages facts.newest.task turned (λ i n e. (committed, sym (ap place_of new_standing) ∙ ap place_of e));
        balanced = balanced_turned x q there facts.newest.there (omega (arith, owes_committed r committed, owes_committed x committed, ap owed facts.standing, ap owed new_standing, step.more)) inv.balanced;
        tasks = tasks_turned Φ s.pairs s.size inv.tasks turned
            (record { opened = λ is. absurd (open≢committed (sym is ∙ committed)); committed = λ is. writer_facts })
            (λ u apart. record {
              newest = λ k p other. (k, newest_other facts.newest pages facts.newest.task apart other);
              addresses = λ k short. refl;
              cells = λ k c short here. here;
              log = λ i low. refl;
              debts = λ i low none. still_none i none;
              count = omega arith;
            })
            (λ u y apart here is. put_other inv.debts r.place y.place (inv.debts r.place - 1) (place_apart Φ inv there committed u y apart here is));
        alone = alone_turned inv.alone turned (λ u y apart here is also same. place_apart Φ inv there committed u y apart here is (sym same));
        backed = λ i owing.
            backed_turned
            (inv.backed i (⊎_elim (λ owed. owed) (λ none. absurd (omega (arith, still_none i (omega arith)))) (cases_lt 0 (inv.debts i))))
            there turned (λ is placed. (committed, placed));
      }

  -- A work that writes a cell back keeps what holds.
  pub writes_back_lem : Inv Φ s' (with_pages b (on_page t (page_work (Left left)) b.pages))
  writes_back_lem =
      subst (λ (z : State F C). Inv Φ z (with_pages b (on_page t (page_work (Left left)) b.pages))) (sym step.after)
      (subst (λ (ps : List (Page C)). Inv Φ (with_cell s t x a step.cell) (with_pages b ps)) (sym (on_page_lem b.pages t facts.at facts.page (page_work (Left left)) facts.newest)) written_back)
