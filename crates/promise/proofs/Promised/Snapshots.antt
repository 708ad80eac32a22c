-- From what holds to the first two statements: cells laid down, and one snapshot.
use Rattle.std.proofs.Common.{◌≡◌, ℕ, ◌-◌, ◌<◌, List, get_or, sym, ap, ◌∙◌, subst, ⊎_elim, arith}
use Rattle.std.proofs.lemmas.Bool.{cases_lt}
use Rattle.filters.specs.declared.filter.Filter.{Ghosts}
use Rattle.rules.specs.Book.{Page, Book, log_in, laid, place_of}
use Rattle.rules.specs.Promise.{Unfinished, LaidDown, OneSnapshot}
use Rattle.rules.specs.State.{State}
use Rattle.promise.proofs.Promised.Invariant.{Inv}
use Rattle.promise.proofs.Promised.Layers.{layers, layers_same, laid-layers}
use Rattle.promise.proofs.Promised.Memory.{newest_cell}
use Rattle.promise.proofs.Promised.Turns.{at_same}

module _ {F C : Type 0} (Φ : Ghosts F) {s : State F C} {b : Book C} (inv : Inv Φ s b) where
  -- The book's cells are the layers of the logs.
  laid_is : (k : ℕ) → laid b k ≡ layers b.origin inv.log k
  laid_is k = laid-layers b k ∙ layers_same b.origin (log_in b.pages) inv.log k (λ i counted low. inv.tied i counted)

  -- A place that owes is an unfinished writer of the book, with its log.
  pub record Writer (place : ℕ) : Type 0 where
    pub page : Page C
    pub owes : ℕ
    pub unfinished : Unfinished b page place owes
    pub log : inv.log place ≡ page.log

  -- Its page is that of its Committed record.
  pub writer : (i : ℕ) → 0 < inv.debts i → Writer i
  writer i owing =
      let backed = inv.backed i owing in
      let facts = (inv.tasks backed.number backed.task backed.there).committed backed.committed in
      subst Writer backed.placed (record {
        page = facts.page;
        owes = _;
        unfinished = record { page = record { index = facts.at; there = facts.newest.there }; standing = facts.standing };
        log = facts.mine;
      })

  -- Every writer that logs an untouched cell has finished, so memory holds the cell after all logs.
  pub laid_down : LaidDown s.memory b
  laid_down a c untouched =
      newest_cell inv.core a c (λ i k d here.
      ⊎_elim
      (λ owing.
      let of = writer i owing in
      absurd (untouched of.page i of.owes of.unfinished d (record { index = k; there = at_same of.log here })))
      (λ none. omega arith)
      (cases_lt 0 (inv.debts i)))
      ∙ ap (λ (n : ℕ). get_or (layers b.origin inv.log n) a c) (sym inv.count)
      ∙ ap (λ (cells : List C). get_or cells a c) (sym (laid_is b.writers))

  -- Each page's answers match the cells that they must.
  pub one_snapshot : OneSnapshot b
  one_snapshot p here =
      let snap = inv.snaps here.index p here.there in
      record {
        seen = λ a c answered. at_same (sym (laid_is p.seen)) (snap.seen a c answered);
        committed = λ some a c answered. at_same (sym (laid_is (place_of p.standing - 1))) (snap.committed some a c answered);
      }
