-- Making: what it is asked for, when it is refused, and what it leaves.
use Rattle.std.specs.Prelude.{◌≡◌, ℕ, ◌<◌, ◌≤◌, List, length}
use Rattle.cells.specs.declared.refusal.Refusal.{Refusal}
use Rattle.cells.specs.declared.refusal.Refusal.TheVariants.{RingLength, TaskCount, LogLength, LastPlace, MemorySize, ArrayLength, TaskNumber, Address, BrokenLine, OutputFull, Torn, PhaseForbids, LogFull, PlacesSpent, RingFull, MustWait}
use Rattle.cells.specs.Refusals.{number}
use Rattle.filters.specs.declared.filter.Filter.{Ghosts}
use Rattle.rules.specs.declared.ring.Entry.{Entry}
use Rattle.rules.specs.declared.ring.Status.TheVariants.{Complete}
use Rattle.rules.specs.declared.table.TaskRecord.{TaskRecord}
use Rattle.rules.specs.Lists.{At}
use Rattle.rules.specs.Records.{Emptied}
use Rattle.rules.specs.State.{State, Fits}

-- The number lies from low to high.
pub record Between (low n high : ℕ) : Type 0 where
  pub least : low ≤ n
  pub most : n ≤ high

module _ {F : Type 0} (Φ : Ghosts F) where
  -- Stamp 0, a new filter and status complete.
  pub record Vacant (e : Entry F) : Type 0 where
    pub stamp : e.stamp ≡ 0
    pub filter : Φ.fresh e.filter
    pub status : e.status ≡ Complete

module _ {F C : Type 0} where
  -- What each refusal of a making says of the numbers asked for and of what is handed over.
  abbrev pub MakingFault : State F C → Refusal → Type 0
  MakingFault s RingLength = Between 2 s.slots 1024 → ⊥
  MakingFault s TaskCount = Between 1 s.tasks 64 → ⊥
  MakingFault s LogLength = Between 1 s.pairs 256 → ⊥
  MakingFault s LastPlace = Between 1 s.last 4294967295 → ⊥
  MakingFault s MemorySize = Between 0 s.size 65536 → ⊥
  MakingFault s ArrayLength = Fits s → ⊥
  MakingFault s TaskNumber = ⊥
  MakingFault s Address = ⊥
  MakingFault s BrokenLine = ⊥
  MakingFault s OutputFull = ⊥
  MakingFault s Torn = ⊥
  MakingFault s PhaseForbids = ⊥
  MakingFault s LogFull = ⊥
  MakingFault s PlacesSpent = ⊥
  MakingFault s RingFull = ⊥
  MakingFault s (MustWait place) = ⊥

  -- A making is refused with the fault of the lowest number.
  pub record MakingRefused (s : State F C) (refusal : Refusal) : Type 0 where
    pub fault : MakingFault s refusal
    pub earlier : (q : Refusal) → number q < number refusal → MakingFault s q → ⊥

  -- All that making asks for holds.
  pub record WithinLimits (s : State F C) : Type 0 where
    pub ring : Between 2 s.slots 1024
    pub tasks : Between 1 s.tasks 64
    pub log : Between 1 s.pairs 256
    pub last : Between 1 s.last 4294967295
    pub size : Between 0 s.size 65536
    pub fits : Fits s

  -- The state with other arrays.
  abbrev pub with_ring_and_table : State F C → List (Entry F) → List (TaskRecord F) → State F C
  with_ring_and_table s ring table = record { slots = s.slots; tasks = s.tasks; pairs = s.pairs; last = s.last; size = s.size; index = s.index; memory = s.memory; ring = ring; table = table; addresses = s.addresses; cells = s.cells }

  module _ (Φ : Ghosts F) where
    -- An accepted making, from what it is asked for and handed to what it leaves: every entry is vacant, every record emptied,
    -- the index is 0, and memory and log arrays are not touched.
    pub record Makes (asked s : State F C) : Type 0 where
      pub accepts : (q : Refusal) → MakingFault asked q → ⊥
      pub ring_length : length s.ring ≡ length asked.ring
      pub table_length : length s.table ≡ length asked.table
      pub vacant : (i : ℕ) (e : Entry F) → At s.ring i e → Vacant Φ e
      pub emptied : (t : ℕ) (r : TaskRecord F) → At s.table t r → Emptied Φ r
      pub index : s.index ≡ 0
      pub size : s.size ≡ length asked.memory
      pub after : s ≡ with_ring_and_table asked s.ring s.table
