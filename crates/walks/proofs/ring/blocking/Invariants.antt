use Rattle.std.proofs.Common.{ℕ, ◌-◌, ◌<◌, ◌≤◌, length}
use Rattle.rules.specs.Faults.{Meets}
use Rattle.walks.proofs.ring.blocking.Given as goal

-- No place passed blocks.
abbrev pub invariant-loop-older : goal.invariant-loop-older
invariant-loop-older g l = (l.older ≤ l.place - 1) × ((i : ℕ) → l.older < i → i < l.place → Meets g.F.Filter (length l.ring) l.ring l.writes i → ⊥)

abbrev pub decreases-loop-older : goal.decreases-loop-older
decreases-loop-older g l = l.older
