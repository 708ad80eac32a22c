use Rattle.std.proofs.Common.{◌≡◌, ℕ, ◌<◌}
use Rattle.rules.specs.Lists.{At}
use Rattle.engine.proofs.lists.fill.Given as goal

-- The elements passed are written.
abbrev pub invariant-loop-place : goal.invariant-loop-place
invariant-loop-place g l = (k : ℕ) (x : g.row.T.Denot) → k < l.place-index → At l.items k x → x ≡ l.item
