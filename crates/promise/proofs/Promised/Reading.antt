-- A read is answered: from the log, which changes nothing, or from memory.
use Rattle.std.proofs.Common.{◌≡◌, ℕ, zero, suc, ◌<◌, ◌≤◌, true, false, eqb, List, [], ◌∷◌, get_or, set, sym, refl, ap, ◌∙◌, subst, ⊎_elim, arith}
use Rattle.std.proofs.lemmas.List.{length-set, set-get_or}
use Rattle.std.proofs.lemmas.Bool.{cases_eq, cases_lt, eq-eqb, ne_eqb, cond-true, cond-false}
use Rattle.filters.specs.declared.filter.Filter.{Ghosts}
use Rattle.rules.specs.declared.table.Phase.TheVariants.{Open}
use Rattle.rules.specs.declared.table.TaskRecord.{TaskRecord}
use Rattle.rules.specs.Book.{Page, Book, place_of, with_pages, on_page, is_logged, page_read}
use Rattle.rules.specs.Check.{AllAsked, Advanced}
use Rattle.rules.specs.Lists.{At}
use Rattle.rules.specs.Logs.{Lacks, First}
use Rattle.rules.specs.Records.{after_read}
use Rattle.rules.specs.State.{State, with_record}
use Rattle.rules.specs.Steps.{ReadsLogged, ReadsMemory}
use Rattle.promise.proofs.Promised.Accepting.{read_open, read_inside}
use Rattle.promise.proofs.Promised.Invariant.{Inv}
use Rattle.promise.proofs.Promised.Laws.{Lawful}
use Rattle.promise.proofs.Promised.Layers.{Without, layers, layers-length, layers_still}
use Rattle.promise.proofs.Promised.Memory.{newest_cell}
use Rattle.promise.proofs.Promised.Pages.{in_cons, Matches, on_page_lem, newest_mine}
use Rattle.promise.proofs.Promised.Ring.{asked_without, owes_none}
use Rattle.promise.proofs.Promised.Running.{its, goes_on, open_sum}
use Rattle.promise.proofs.Promised.Tasks.{LogFacts}
use Rattle.promise.proofs.Promised.Turns.{at_first, at_cons, at_tail, at_some, at_read, at_made, turned_set}

module _ {C : Type 0} where
  -- An address that no pair of the log has is not found.
  pub not_logged : (l : List (ℕ × C)) (a : ℕ) → Without l a → is_logged a l ≡ false
  not_logged [] a without = refl
  not_logged (p ∷ ps) a without =
      cond-false (eqb p.0 a) true (is_logged a ps) (ne_eqb p.0 a (λ e. without zero p.1 (subst (λ (x : ℕ). At (p ∷ ps) zero (x, p.1)) e at_first)))
      ∙ not_logged ps a (λ k c here. without (suc k) c (at_cons here))

  -- An address that a pair of the log has is found.
  is_logged_lem : (l : List (ℕ × C)) (k a : ℕ) (c : C) → At l k (a, c) → is_logged a l ≡ true
  is_logged_lem [] k a c here = absurd (omega (arith, here.within))
  is_logged_lem (p ∷ ps) zero a c here = cond-true (eqb p.0 a) true (is_logged a ps) (eq-eqb p.0 a (ap (λ (x : ℕ × C). x.0) (sym here.is)))
  is_logged_lem (p ∷ ps) (suc k) a c here =
      ⊎_elim
      (λ same. cond-true (eqb p.0 a) true (is_logged a ps) (eq-eqb p.0 a same))
      (λ other. cond-false (eqb p.0 a) true (is_logged a ps) (ne_eqb p.0 a other) ∙ is_logged_lem ps k a c (at_tail here))
      (cases_eq p.0 a)

  -- The log's addresses are those of the arrays.
  module _ {F : Type 0} (Φ : Ghosts F) (pairs size : ℕ) {base logged : ℕ} {addresses : List ℕ} {cells : List C} {writes : F} {l : List (ℕ × C)} (facts : LogFacts Φ pairs size base addresses cells logged writes l) where
    -- An address that the arrays lack the log lacks.
    pub lacks_without : (a : ℕ) → Lacks addresses base logged a → Without l a
    lacks_without a lacks k c here = lacks k (omega (arith, here.within, facts.count)) (facts.held k a c here).0

    -- An address that the arrays have at a position the log has there.
    pub found_in : (a k : ℕ) → First addresses base logged a k → (c : C) × At l k (a, c)
    found_in a k first =
        let (x, here) = at_some l k (omega (arith, first.within, facts.count)) in
        (x.1, subst (λ (n : ℕ). At l k (n, x.1)) (sym (facts.held k x.0 x.1 here).0 ∙ first.here) here)

module _ {F C : Type 0} (Φ : Ghosts F) (laws : Lawful Φ) {s : State F C} {b : Book C} (inv : Inv Φ s b) {t : ℕ} {r : TaskRecord F} (there : At s.table t r) (opened : r.phase ≡ Open) where
  -- A check of the read filter, or of a wider one, at the index.
  module _ (reads : F) (wider : (a : ℕ) → Φ.covers r.reads a → Φ.covers reads a) (asked : AllAsked Φ s.slots s.ring reads s.index r.start) where
    -- No log above the start names a covered address, so its cell is the same after any number of logs from the start to the index.
    pub still_cell : (a m : ℕ) (d : C) → a < s.size → Φ.covers reads a → r.start ≤ m → m ≤ s.index → get_or (layers b.origin inv.log m) a d ≡ get_or (layers b.origin inv.log r.start) a d
    still_cell a m d small covered low high =
        layers_still b.origin inv.log r.start m a d low (λ i above below.
        asked_without Φ inv.ring laws reads r.start asked i above (omega arith) a (omega (arith, inv.small)) covered)

    -- All that was answered before matches after any number of logs from the start to the index.
    pub still_matches : (m : ℕ) → r.start ≤ m → m ≤ s.index → Matches (layers b.origin inv.log m) (its Φ inv there opened).page.answers
    still_matches m low high a c here =
        let facts = its Φ inv there opened in
        let old = facts.matches a c here in
        let inside : a < s.size = omega (arith, old.within, layers-length b.origin inv.log r.start, inv.core.origin_length) in
        at_made (layers b.origin inv.log m) a c
        (omega (arith, layers-length b.origin inv.log m, inv.core.origin_length))
        (still_cell a m c inside (wider a (facts.reads a c here)) low high ∙ at_read old c)

    -- A place up to the new start owes nothing.
    pub advanced_settled : (new : ℕ) → Advanced s.slots s.ring s.index r.start new → (i : ℕ) → i ≤ new → inv.debts i ≡ 0
    advanced_settled new advanced i low =
        ⊎_elim
        (λ above. owes_none Φ inv.ring i (advanced.finished i above low))
        (λ below. (its Φ inv there opened).settled i below)
        (cases_lt r.start i)

    -- Memory holds at a covered address the cell after any number of logs from the start to the index.
    pub read_cell : (a m : ℕ) (c : C) → a < s.size → Φ.covers reads a → At s.memory a c → r.start ≤ m → m ≤ s.index → At (layers b.origin inv.log m) a c
    read_cell a m c inside covered cell low high =
        let start = (its Φ inv there opened).start in
        let done : (i k : ℕ) (d : C) → At (inv.log i) k (a, d) → inv.debts i ≡ 0 = λ i k d here.
        ⊎_elim
        (λ above. absurd (asked_without Φ inv.ring laws reads r.start asked i above (inv.core.placed i k (a, d) here).1 a (omega (arith, inv.small)) covered k d here))
        (λ below. (its Φ inv there opened).settled i below)
        (cases_lt r.start i) in
        at_made (layers b.origin inv.log m) a c
        (omega (arith, layers-length b.origin inv.log m, inv.core.origin_length))
        (still_cell a m c inside covered low high
        ∙ sym (still_cell a s.index c inside covered start (omega arith))
        ∙ sym (newest_cell inv.core a c done)
        ∙ at_read cell c)

module _ {F C : Type 0} (Φ : Ghosts F) (laws : Lawful Φ) {s : State F C} {b : Book C} (inv : Inv Φ s b) (t a : ℕ) (answer : C × ℕ) (s' : State F C) where
  -- A read of a logged cell leaves state and book as they are.
  pub reads_logged : ReadsLogged Φ s t a answer s' → Inv Φ s' (with_pages b (on_page t (page_read b.writers a answer.0) b.pages))
  reads_logged step =
      let there = step.there in
      let facts = its Φ inv there (read_open Φ s t step.task there a step.accepts) in
      let page = facts.page in
      let (c, here) = found_in Φ s.pairs s.size facts.logs a step.position step.first in
      let same : b.pages ≡ on_page t (page_read b.writers a answer.0) b.pages =
      sym (
      on_page_lem b.pages t facts.at page (page_read b.writers a answer.0) facts.newest
      ∙ ap (λ (p : Page C). set b.pages facts.at p) (cond-true (is_logged a page.log) page _ (is_logged_lem page.log step.position a c here) ∙ sym (at_read facts.newest.there page))
      ∙ set-get_or b.pages facts.at page
      ) in
      subst (λ (z : State F C). Inv Φ z (with_pages b (on_page t (page_read b.writers a answer.0) b.pages))) (sym step.after)
      (subst (λ (ps : List (Page C)). Inv Φ s (with_pages b ps)) same inv)

  -- A read from memory answers the cell after as many logs as are committed.
  pub reads_memory : ReadsMemory Φ s t a answer s' → Inv Φ s' (with_pages b (on_page t (page_read b.writers a answer.0) b.pages))
  reads_memory step =
      let checked = step.checked in
      let passes = checked.checks in
      let r = checked.task in
      let there = checked.there in
      let reads = checked.reads in
      let opened = read_open Φ s t r there a checked.accepts in
      let facts = its Φ inv there opened in
      let page = facts.page in
      let c = answer.0 in
      let x = after_read r step.start reads in
      let q : Page C = record { task = page.task; log = page.log; answers = (a, c) ∷ page.answers; seen = b.writers; standing = page.standing } in
      let covered : Φ.covers reads a = laws.adds r.reads reads a checked.widened in
      let wider : (n : ℕ) → Φ.covers r.reads n → Φ.covers reads n = λ n. laws.keeps r.reads reads a n checked.widened in
      let advanced = passes.advanced in
      let matches : (m : ℕ) → r.start ≤ m → m ≤ s.index → Matches (layers b.origin inv.log m) ((a, c) ∷ page.answers) = λ m low high n d.
      in_cons (λ (y : ℕ × C). At (layers b.origin inv.log m) y.0 y.1)
      (read_cell Φ laws inv there opened reads wider passes.asked a m c (read_inside Φ s t a checked.accepts) covered step.cell low high)
      (λ y here. still_matches Φ laws inv there opened reads wider passes.asked m low high y.0 y.1 here)
      (n, d) in
      let old = inv.snaps facts.at page facts.newest.there in
      let pages = turned_set b.pages facts.at q facts.newest.there.within in
      let same : set b.pages facts.at q ≡ on_page t (page_read b.writers a c) b.pages =
      sym (
      on_page_lem b.pages t facts.at page (page_read b.writers a c) facts.newest
      ∙ ap (λ (p : Page C). set b.pages facts.at p) (cond-false (is_logged a page.log) page q (not_logged page.log a (lacks_without Φ s.pairs s.size facts.logs a checked.new)))
      ) in
      subst (λ (z : State F C). Inv Φ z (with_pages b (on_page t (page_read b.writers a c) b.pages))) (sym step.after)
      (subst (λ (ps : List (Page C)). Inv Φ (with_record s t x) (with_pages b ps)) same
      (goes_on Φ inv there opened
      (record {
        turned = turned_set s.table t x there.within;
        table_length = length-set s.table t x;
        table_owes = open_sum x there opened opened;
        opened = opened;
        addresses_length = refl;
        cells_length = refl;
        addresses_kept = λ u k apart short. refl;
        cells_kept = λ u k d apart short here. here;
        task = facts.newest.task;
        standing = facts.standing;
      })
      (record {
        place_low = old.place_low;
        seen_low = omega (arith, inv.count);
        seen = subst (λ (m : ℕ). Matches (layers b.origin inv.log m) ((a, c) ∷ page.answers)) (sym inv.count) (matches s.index facts.start (omega arith));
        committed = λ some. absurd (omega (arith, ap place_of facts.standing));
      })
      (record {
        at = facts.at;
        page = q;
        newest = newest_mine facts.newest pages facts.newest.task;
        standing = facts.standing;
        logs = facts.logs;
        place = facts.place;
        written = facts.written;
        start = advanced.high;
        settled = advanced_settled Φ laws inv there opened reads wider passes.asked step.start advanced;
        reads = λ n d. in_cons (λ (y : ℕ × C). Φ.covers reads y.0) covered (λ y here. wider y.0 (facts.reads y.0 y.1 here)) (n, d);
        matches = matches step.start advanced.low advanced.high;
      })))
