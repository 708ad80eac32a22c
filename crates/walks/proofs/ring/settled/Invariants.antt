use Rattle.std.proofs.Common.{ℕ, ◌<◌, ◌≤◌, length}
use Rattle.rules.specs.Places.{Pending}
use Rattle.walks.proofs.ring.settled.Given as goal

-- Every place above is unfinished.
abbrev pub invariant-loop-start : goal.invariant-loop-start
invariant-loop-start g l = (i : ℕ) → l.start < i → i ≤ l.index → Pending (length l.ring) l.ring i
