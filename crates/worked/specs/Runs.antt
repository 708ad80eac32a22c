-- Runs of calls over the small filter and 64 words of 0, and when a run's answers are forced.
use Rattle.std.specs.Prelude.{◌≡◌, ℕ, List, [], ◌∷◌, Some, Ok, Err}
use Rattle.cells.specs.declared.refusal.Refusal.{Refusal}
use Rattle.cells.specs.declared.refusal.Refusal.TheVariants.{MustWait}
use Rattle.filters.specs.contracts.small.SmallFilter.TheImpl.{ghosts}
use Rattle.filters.specs.declared.small.Small.{Small}
use Rattle.rules.specs.declared.answer.Denial.TheVariants.{Refused}
use Rattle.rules.specs.declared.answer.Worked.TheVariants.{Left, Done}
use Rattle.rules.specs.declared.ring.Entry.{Entry}
use Rattle.rules.specs.declared.table.TaskRecord.{TaskRecord}
use Rattle.rules.specs.Calls.{Act, by, begin, read, write, commit, work, ActReply}
use Rattle.rules.specs.Lists.{At}
use Rattle.rules.specs.Making.{Makes}
use Rattle.rules.specs.State.{State}
use Rattle.rules.specs.Steps.{Step}
use Rattle.worked.specs.Makings.{asking, Makeable}

-- The slot holds the place: its entry has the place for a stamp.
pub record Stamped (ring : List (Entry Small)) (slot place : ℕ) : Type 0 where
  pub entry : Entry Small
  pub there : At ring slot entry
  pub stamp : entry.stamp ≡ place

-- What a run is made of: a task's call with the answer that it must get, or what a cell of the memory or a slot of the ring must hold then.
pub data Event : Type 0 where
  asks : (task : ℕ) (act : Act ℕ) → ActReply act → Event
  holds : (address cell : ℕ) → Event
  stamps : (slot place : ℕ) → Event

-- From this state on each call can get its answer, and whatever step the rules allow for it, it gets that answer.
abbrev pub Forced : State Small ℕ → List Event → Type 0
Forced s [] = Unit {0}
Forced s (asks task act reply ∷ events) = ((after : State Small ℕ) × Step ghosts s (by task act) reply after) × ((given : ActReply act) (after : State Small ℕ) → Step ghosts s (by task act) given after → (given ≡ reply) × Forced after events)
Forced s (holds address cell ∷ events) = At s.memory address cell × Forced s events
Forced s (stamps slot place ∷ events) = Stamped s.ring slot place × Forced s events

-- A ring of 4 with this last place is made, and after every such making the run is forced, whatever the arrays held before.
pub record ForcedRun (last : ℕ) (events : List Event) : Type 0 where
  pub starts : Makeable 4 last
  pub forced : (ring : List (Entry Small)) (table : List (TaskRecord Small)) (addresses cells : List ℕ) (s : State Small ℕ) → Makes ghosts (asking 4 last ring table addresses cells) s → Forced s events

-- The task begins, with this start.
abbrev pub begins : (task start : ℕ) → List Event
begins task start = asks task begin (Ok start) ∷ []

-- The task reads the cell from memory, with so many filters compared.
abbrev pub reads : (task address cell compared : ℕ) → List Event
reads task address cell compared = asks task (read address) (Ok (cell, compared)) ∷ []

-- The task logs its first cell.
abbrev pub logs : (task address cell : ℕ) → List Event
logs task address cell = asks task (write address cell) (Ok 1) ∷ []

-- The task commits what it has logged: the place that it gets, and how many filters were compared.
abbrev pub places : (task place compared : ℕ) → List Event
places task place compared = asks task commit (Ok (Some place, compared)) ∷ []

-- The task commits one cell: it logs the cell and then gets the place.
abbrev pub commits : (task address cell place compared : ℕ) → List Event
commits task address cell place compared = asks task (write address cell) (Ok 1) ∷ asks task commit (Ok (Some place, compared)) ∷ []

-- The task's commit is refused.
abbrev pub refuses : (task : ℕ) → Refusal → List Event
refuses task refusal = asks task commit (Err (Refused refusal)) ∷ []

-- The task's work writes its last logged cell: 0 are left.
abbrev pub writes_back : (task : ℕ) → List Event
writes_back task = asks task work (Ok (Left 0)) ∷ []

-- A writer of one cell is finished: one work writes the cell, the next is done with the place.
abbrev pub finishes : (task place : ℕ) → List Event
finishes task place = asks task work (Ok (Left 0)) ∷ asks task work (Ok (Done place)) ∷ []

-- The task's work must wait for the place.
abbrev pub waits : (task place : ℕ) → List Event
waits task place = asks task work (Err (MustWait place)) ∷ []
