-- The checks that all calls of a task share: lengths, task number, address, torn record, phase.
use Rattle.std.specs.Prelude.{◌≡◌, ℕ, ◌+◌, ◌-◌, ◌<◌, ◌≤◌, true, false, List, Ok, Err, Option, Result, ◌≢◌}
use Rattle.cells.specs.declared.refusal.Refusal.{Refusal}
use Rattle.cells.specs.declared.refusal.Refusal.TheVariants.{RingLength, TaskCount, LogLength, LastPlace, MemorySize, ArrayLength, TaskNumber, Address, BrokenLine, OutputFull, Torn, PhaseForbids, LogFull, PlacesSpent, RingFull, MustWait}
use Rattle.rules.specs.declared.ring.Entry.{Entry}
use Rattle.rules.specs.declared.table.CallKind.{CallKind}
use Rattle.rules.specs.declared.table.TaskRecord.{TaskRecord}
use Rattle.rules.specs.Calls.{Inside}
use Rattle.rules.specs.Faults.{Of}
use Rattle.rules.specs.Lists.{At}
use Rattle.rules.specs.Places.{Pending}
use Rattle.rules.specs.State.{State, Fits}
use Rattle.rules.specs.Table.{allows}
use Rattle.rules.specs.Torn.{Whole, IsTorn}

module _ {F C : Type 0} where
  -- The lengths, the task number and the address are right.
  pub record Addressed (s : State F C) (t : ℕ) (address : Option ℕ) : Type 0 where
    pub fits : Fits s
    pub known : t < s.tasks
    pub inside : Inside s.size address

  -- The caller's record is whole and its phase allows the call.
  pub record Admitted (s : State F C) (t : ℕ) (call : CallKind) (address : Option ℕ) (task : TaskRecord F) : Type 0 where
    pub addressed : Addressed s t address
    pub there : At s.table t task
    pub whole : Whole s t task
    pub allowed : allows task.phase call ≡ true

  -- What was found wrong, with what was found right before it.
  abbrev pub Rejected : State F C → ℕ → CallKind → Option ℕ → Refusal → Type 0
  Rejected s t call address RingLength = ⊥
  Rejected s t call address TaskCount = ⊥
  Rejected s t call address LogLength = ⊥
  Rejected s t call address LastPlace = ⊥
  Rejected s t call address MemorySize = ⊥
  Rejected s t call address ArrayLength = Fits s → ⊥
  Rejected s t call address TaskNumber = Fits s × (s.tasks ≤ t)
  Rejected s t call address Address = Fits s × (t < s.tasks) × (Inside s.size address → ⊥)
  Rejected s t call address BrokenLine = ⊥
  Rejected s t call address OutputFull = ⊥
  Rejected s t call address Torn = Addressed s t address × Of s t (IsTorn s t)
  Rejected s t call address PhaseForbids = Addressed s t address × Of s t (λ r. Whole s t r × (allows r.phase call ≡ false))
  Rejected s t call address LogFull = ⊥
  Rejected s t call address PlacesSpent = ⊥
  Rejected s t call address RingFull = ⊥
  Rejected s t call address (MustWait place) = ⊥

  abbrev pub Admits : State F C → ℕ → CallKind → Option ℕ → Result (TaskRecord F) Refusal → Type 0
  Admits s t call address (Ok task) = Admitted s t call address task
  Admits s t call address (Err refusal) = Rejected s t call address refusal

  -- The same for the first three checks alone.
  abbrev pub Addresses : State F C → ℕ → Option ℕ → Result Unit Refusal → Type 0
  Addresses s t address (Ok done) = Addressed s t address
  Addresses s t address (Err RingLength) = ⊥
  Addresses s t address (Err TaskCount) = ⊥
  Addresses s t address (Err LogLength) = ⊥
  Addresses s t address (Err LastPlace) = ⊥
  Addresses s t address (Err MemorySize) = ⊥
  Addresses s t address (Err ArrayLength) = Fits s → ⊥
  Addresses s t address (Err TaskNumber) = Fits s × (s.tasks ≤ t)
  Addresses s t address (Err Address) = Fits s × (t < s.tasks) × (Inside s.size address → ⊥)
  Addresses s t address (Err BrokenLine) = ⊥
  Addresses s t address (Err OutputFull) = ⊥
  Addresses s t address (Err Torn) = ⊥
  Addresses s t address (Err PhaseForbids) = ⊥
  Addresses s t address (Err LogFull) = ⊥
  Addresses s t address (Err PlacesSpent) = ⊥
  Addresses s t address (Err RingFull) = ⊥
  Addresses s t address (Err (MustWait place)) = ⊥

-- Whether a writer may take the next place, and which it is.
module _ {F : Type 0} where
  abbrev pub NextPlace : ℕ → ℕ → ℕ → List (Entry F) → Result ℕ Refusal → Type 0
  NextPlace slots last index ring (Ok place) = (place ≡ index + 1) × (index ≢ last) × (Pending slots ring (index + 2 - slots) → ⊥)
  NextPlace slots last index ring (Err RingLength) = ⊥
  NextPlace slots last index ring (Err TaskCount) = ⊥
  NextPlace slots last index ring (Err LogLength) = ⊥
  NextPlace slots last index ring (Err LastPlace) = ⊥
  NextPlace slots last index ring (Err MemorySize) = ⊥
  NextPlace slots last index ring (Err ArrayLength) = ⊥
  NextPlace slots last index ring (Err TaskNumber) = ⊥
  NextPlace slots last index ring (Err Address) = ⊥
  NextPlace slots last index ring (Err BrokenLine) = ⊥
  NextPlace slots last index ring (Err OutputFull) = ⊥
  NextPlace slots last index ring (Err Torn) = ⊥
  NextPlace slots last index ring (Err PhaseForbids) = ⊥
  NextPlace slots last index ring (Err LogFull) = ⊥
  NextPlace slots last index ring (Err PlacesSpent) = index ≡ last
  NextPlace slots last index ring (Err RingFull) = (index ≢ last) × Pending slots ring (index + 2 - slots)
  NextPlace slots last index ring (Err (MustWait place)) = ⊥
