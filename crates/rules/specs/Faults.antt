-- When a call is refused: the condition of each refusal by itself, and the order in which they are checked.
use Rattle.std.specs.Prelude.{◌≡◌, ℕ, ◌+◌, ◌-◌, ◌<◌, ◌≤◌, true, false, List, Some, None, Option}
use Rattle.cells.specs.declared.refusal.Refusal.{Refusal}
use Rattle.cells.specs.declared.refusal.Refusal.TheVariants.{RingLength, TaskCount, LogLength, LastPlace, MemorySize, ArrayLength, TaskNumber, Address, BrokenLine, OutputFull, Torn, PhaseForbids, LogFull, PlacesSpent, RingFull, MustWait}
use Rattle.cells.specs.Refusals.{number}
use Rattle.filters.specs.declared.filter.Filter.{Ghosts}
use Rattle.rules.specs.declared.ring.Entry.{Entry}
use Rattle.rules.specs.declared.table.TaskRecord.{TaskRecord}
use Rattle.rules.specs.Calls.{Act, begin, read, write, commit, work, quit, Call, by, outstanding, kind, named, Inside}
use Rattle.rules.specs.Lists.{At}
use Rattle.rules.specs.Logs.{Lacks}
use Rattle.rules.specs.Places.{Pending}
use Rattle.rules.specs.State.{State, Fits, base}
use Rattle.rules.specs.Table.{allows}
use Rattle.rules.specs.Torn.{IsTorn}

module _ {F : Type 0} (Φ : Ghosts F) where
  -- An unfinished place whose filter meets the write filter.
  pub record Meets (slots : ℕ) (ring : List (Entry F)) (writes : F) (place : ℕ) : Type 0 where
    pub pending : Pending slots ring place
    pub met : Φ.meeting pending.entry.filter writes ≡ true

  -- Below `place` and above `start`, the highest such place, or none.
  pub record Highest (slots : ℕ) (ring : List (Entry F)) (writes : F) (start place found : ℕ) : Type 0 where
    pub below : found < place
    pub above : start < found
    pub blocks : Meets slots ring writes found
    pub highest : (i : ℕ) → found < i → i < place → Meets slots ring writes i → ⊥

  abbrev pub Blocking : ℕ → List (Entry F) → F → ℕ → ℕ → Option ℕ → Type 0
  Blocking slots ring writes start place None = (i : ℕ) → start < i → i < place → Meets slots ring writes i → ⊥
  Blocking slots ring writes start place (Some found) = Highest slots ring writes start place found

module _ {F C : Type 0} where
  -- The record of task t exists and the fact holds of it.
  pub record Of (s : State F C) (t : ℕ) (P : TaskRecord F → Type 0) : Type 0 where
    pub task : TaskRecord F
    pub there : At s.table t task
    pub holds : P task

  module _ (Φ : Ghosts F) where
    -- The same, of the record's write filter.
    abbrev pub Blocks : State F C → TaskRecord F → ℕ → Type 0
    Blocks s r place = Meets Φ s.slots s.ring r.writes place

    -- With cells left: the highest unfinished place below the writer's own and above its start whose filter meets its write filter.
    pub record WaitsToWrite (s : State F C) (r : TaskRecord F) (place : ℕ) : Type 0 where
      pub left : r.written < r.logged
      pub below : place < r.place
      pub above : r.start < place
      pub blocks : Blocks s r place
      pub highest : (i : ℕ) → place < i → i < r.place → Blocks s r i → ⊥

    -- With none left: the place before the writer's own, if unfinished.
    pub record WaitsToFinish (s : State F C) (r : TaskRecord F) (place : ℕ) : Type 0 where
      pub none : r.written ≡ r.logged
      pub before : place + 1 ≡ r.place
      pub pending : Pending s.slots s.ring place

    -- Work must wait for the place.
    pub data Waits (s : State F C) (r : TaskRecord F) (place : ℕ) : Type 0 where
      to_write : WaitsToWrite s r place → Waits s r place
      to_finish : WaitsToFinish s r place → Waits s r place

    -- A write of a new address while the log is full. No other call has this fault.
    abbrev pub Full : State F C → ℕ → Act C → Type 0
    Full s t begin = ⊥
    Full s t (read a) = ⊥
    Full s t (write a c) = Of s t (λ r. (r.logged ≡ s.pairs) × Lacks s.addresses (base s t) r.logged a)
    Full s t commit = ⊥
    Full s t work = ⊥
    Full s t quit = ⊥

    -- A commit with cells logged of which the fact holds besides. No other call has this fault.
    abbrev pub Commits : State F C → ℕ → Act C → Type 0 → Type 0
    Commits s t begin P = ⊥
    Commits s t (read a) P = ⊥
    Commits s t (write a c) P = ⊥
    Commits s t commit P = Of s t (λ r. (0 < r.logged) × P)
    Commits s t work P = ⊥
    Commits s t quit P = ⊥

    -- A work that must wait for the place. No other call has this fault.
    abbrev pub Waiting : State F C → ℕ → Act C → ℕ → Type 0
    Waiting s t begin place = ⊥
    Waiting s t (read a) place = ⊥
    Waiting s t (write a c) place = ⊥
    Waiting s t commit place = ⊥
    Waiting s t work place = Of s t (λ r. Waits s r place)
    Waiting s t quit place = ⊥

    -- What each refusal of a task's call says.
    abbrev pub TaskFault : State F C → ℕ → Act C → Refusal → Type 0
    TaskFault s t act RingLength = ⊥
    TaskFault s t act TaskCount = ⊥
    TaskFault s t act LogLength = ⊥
    TaskFault s t act LastPlace = ⊥
    TaskFault s t act MemorySize = ⊥
    TaskFault s t act ArrayLength = Fits s → ⊥
    TaskFault s t act TaskNumber = s.tasks ≤ t
    TaskFault s t act Address = Inside s.size (named act) → ⊥
    TaskFault s t act BrokenLine = ⊥
    TaskFault s t act OutputFull = ⊥
    TaskFault s t act Torn = Of s t (IsTorn s t)
    TaskFault s t act PhaseForbids = Of s t (λ r. allows r.phase (kind act) ≡ false)
    TaskFault s t act LogFull = Full s t act
    TaskFault s t act PlacesSpent = Commits s t act (s.index ≡ s.last)
    TaskFault s t act RingFull = Commits s t act (Pending s.slots s.ring (s.index + 2 - s.slots))
    TaskFault s t act (MustWait place) = Waiting s t act place

    -- What each refusal of the asking for the outstanding count says: the lengths are wrong, or some record is torn.
    abbrev pub CountFault : State F C → Refusal → Type 0
    CountFault s RingLength = ⊥
    CountFault s TaskCount = ⊥
    CountFault s LogLength = ⊥
    CountFault s LastPlace = ⊥
    CountFault s MemorySize = ⊥
    CountFault s ArrayLength = Fits s → ⊥
    CountFault s TaskNumber = ⊥
    CountFault s Address = ⊥
    CountFault s BrokenLine = ⊥
    CountFault s OutputFull = ⊥
    CountFault s Torn = (t : ℕ) × Of s t (IsTorn s t)
    CountFault s PhaseForbids = ⊥
    CountFault s LogFull = ⊥
    CountFault s PlacesSpent = ⊥
    CountFault s RingFull = ⊥
    CountFault s (MustWait place) = ⊥

    abbrev pub Fault : State F C → Call C → Refusal → Type 0
    Fault s (by t act) refusal = TaskFault s t act refusal
    Fault s outstanding refusal = CountFault s refusal

    -- Checks go by number: no fault with a lower number than this holds.
    abbrev pub Clear : State F C → Call C → ℕ → Type 0
    Clear s call n = (refusal : Refusal) → number refusal < n → Fault s call refusal → ⊥

    -- A call is refused with the fault of the lowest number.
    pub record Refuses (s : State F C) (call : Call C) (refusal : Refusal) : Type 0 where
      pub fault : Fault s call refusal
      pub earlier : Clear s call (number refusal)

    -- A call is accepted if no fault holds.
    abbrev pub Accepts : State F C → Call C → Type 0
    Accepts s call = (refusal : Refusal) → Fault s call refusal → ⊥
