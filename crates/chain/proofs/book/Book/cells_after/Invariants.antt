use Rattle.std.proofs.Common.{◌≡◌, ◌+◌, ◌-◌, ◌≤◌, ◌<◌, length, vec_items}
use Rattle.chain.specs.Pages.{after}
use Rattle.chain.proofs.book.Book.cells_after.Given as goal

abbrev pub invariant-loop-place : goal.invariant-loop-place
invariant-loop-place l = (0 < l.place) × (l.place ≤ l.count + 1) × (length l.cells ≡ 12) × (l.cells ≡ after (vec_items l.self.pages) (l.place - 1))
