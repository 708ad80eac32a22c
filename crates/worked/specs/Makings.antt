-- What the runs ask of a making, and which makings are refused.
use Rattle.std.specs.Prelude.{◌≡◌, ℕ, List, length, replicate}
use Rattle.cells.specs.declared.refusal.Refusal.{Refusal}
use Rattle.filters.specs.contracts.small.SmallFilter.TheImpl.{ghosts}
use Rattle.filters.specs.declared.small.Small.{Small}
use Rattle.rules.specs.declared.ring.Entry.{Entry}
use Rattle.rules.specs.declared.table.TaskRecord.{TaskRecord}
use Rattle.rules.specs.Making.{Makes, MakingRefused}
use Rattle.rules.specs.State.{State}

-- What a making is asked for and handed: 4 tasks, log length 2 and 64 words of 0, with these arrays.
abbrev pub asking : (slots last : ℕ) → List (Entry Small) → List (TaskRecord Small) → List ℕ → List ℕ → State Small ℕ
asking slots last ring table addresses cells = record { slots = slots; tasks = 4; pairs = 2; last = last; size = 64; index = 0; memory = replicate 64 0; ring = ring; table = table; addresses = addresses; cells = cells }

-- The making is refused with this refusal and no other, and makes nothing.
pub record RefusedWith (asked : State Small ℕ) (refusal : Refusal) : Type 0 where
  pub refused : MakingRefused asked refusal
  pub only : (q : Refusal) → MakingRefused asked q → q ≡ refusal
  pub unmade : (s : State Small ℕ) → Makes ghosts asked s → ⊥

-- The making is accepted, and not refused.
pub record Made (asked : State Small ℕ) : Type 0 where
  pub made : (s : State Small ℕ) × Makes ghosts asked s
  pub unrefused : (q : Refusal) → MakingRefused asked q → ⊥

-- A ring of this length is refused, whatever arrays are handed over.
abbrev pub Refuses : (slots last : ℕ) → Refusal → Type 0
Refuses slots last refusal = (ring : List (Entry Small)) (table : List (TaskRecord Small)) (addresses cells : List ℕ) → RefusedWith (asking slots last ring table addresses cells) refusal

-- A ring of this length is made over arrays that are as long as the numbers say, whatever they hold.
abbrev pub Makeable : (slots last : ℕ) → Type 0
Makeable slots last = (ring : List (Entry Small)) (table : List (TaskRecord Small)) (addresses cells : List ℕ) → length ring ≡ slots → length table ≡ 4 → length addresses ≡ 8 → length cells ≡ 8 → Made (asking slots last ring table addresses cells)
