-- All that a call is handed: the engine's numbers, the memory's cells, and the four arrays.
use Rattle.std.specs.Prelude.{◌≡◌, ℕ, ◌*◌, ◌%◌, List, length, slice_set}
use Rattle.rules.specs.declared.ring.Entry.{Entry}
use Rattle.rules.specs.declared.table.TaskRecord.{TaskRecord}

pub record State (F C : Type 0) : Type 0 where
  -- ring length, number of tasks, log length, last place, the memory's size as recorded at making
  pub slots : ℕ
  pub tasks : ℕ
  pub pairs : ℕ
  pub last : ℕ
  pub size : ℕ
  -- the number of writers committed
  pub index : ℕ
  pub memory : List C
  pub ring : List (Entry F)
  pub table : List (TaskRecord F)
  pub addresses : List ℕ
  pub cells : List C

module _ {F C : Type 0} where
  -- The arrays and the memory have the lengths that the engine's record says.
  pub record Fits (s : State F C) : Type 0 where
    pub ring : length s.ring ≡ s.slots
    pub table : length s.table ≡ s.tasks
    pub addresses : length s.addresses ≡ s.tasks * s.pairs
    pub cells : length s.cells ≡ s.tasks * s.pairs
    pub memory : length s.memory ≡ s.size

  -- Where task t's log begins in the two log arrays.
  abbrev pub base : State F C → ℕ → ℕ
  base s t = t * s.pairs

  -- The state with another record for task t.
  abbrev pub with_record : State F C → ℕ → TaskRecord F → State F C
  with_record s t r = record { slots = s.slots; tasks = s.tasks; pairs = s.pairs; last = s.last; size = s.size; index = s.index; memory = s.memory; ring = s.ring; table = slice_set s.table t r; addresses = s.addresses; cells = s.cells }

  -- The state with another cell at position i of the log arrays.
  abbrev pub with_logged : State F C → ℕ → C → State F C
  with_logged s i c = record { slots = s.slots; tasks = s.tasks; pairs = s.pairs; last = s.last; size = s.size; index = s.index; memory = s.memory; ring = s.ring; table = s.table; addresses = s.addresses; cells = slice_set s.cells i c }

  -- The state with another pair at position i of the log arrays, and another record for task t.
  abbrev pub with_pair : State F C → ℕ → TaskRecord F → ℕ → ℕ → C → State F C
  with_pair s t r i a c = record { slots = s.slots; tasks = s.tasks; pairs = s.pairs; last = s.last; size = s.size; index = s.index; memory = s.memory; ring = s.ring; table = slice_set s.table t r; addresses = slice_set s.addresses i a; cells = slice_set s.cells i c }

  -- The state with another cell at address a of the memory, and another record for task t.
  abbrev pub with_cell : State F C → ℕ → TaskRecord F → ℕ → C → State F C
  with_cell s t r a c = record { slots = s.slots; tasks = s.tasks; pairs = s.pairs; last = s.last; size = s.size; index = s.index; memory = slice_set s.memory a c; ring = s.ring; table = slice_set s.table t r; addresses = s.addresses; cells = s.cells }

  -- The state with another index, another entry for place i, and another record for task t.
  abbrev pub with_entry : State F C → ℕ → ℕ → Entry F → ℕ → TaskRecord F → State F C
  with_entry s index i e t r = record { slots = s.slots; tasks = s.tasks; pairs = s.pairs; last = s.last; size = s.size; index = index; memory = s.memory; ring = slice_set s.ring (i % s.slots) e; table = slice_set s.table t r; addresses = s.addresses; cells = s.cells }
