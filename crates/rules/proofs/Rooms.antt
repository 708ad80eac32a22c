-- A task's log lies within the log arrays.
use Rattle.std.proofs.Common.{◌≡◌, ℕ, suc, ◌+◌, ◌*◌, ◌<◌, ◌≤◌, List, get_or, take, drop, ◌∙◌, suc-mul, arith}
use Rattle.std.proofs.lemmas.List.{get_or-take, get_or-drop}
use Rattle.std.proofs.lemmas.Nat.{mul-le}

-- The first k pairs of a task's log end within all tasks' logs.
pub log_room : (t tasks pairs k : ℕ) → t < tasks → k ≤ pairs → t * pairs + k ≤ tasks * pairs
log_room t tasks pairs k known short = omega (arith, mul-le (suc t) pairs tasks pairs known (omega arith), suc-mul t pairs)

-- What stands at k in a part of a list that begins at b.
pub part_at : {X : Type 0} (xs : List X) (b n k : ℕ) (d : X) → k < n → get_or (take n (drop b xs)) k d ≡ get_or xs (b + k) d
part_at xs b n k d short = get_or-take n (drop b xs) k d short ∙ get_or-drop b xs k d
