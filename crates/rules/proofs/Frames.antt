-- The state after a change of one part, from what the call left of that part.
use Rattle.std.proofs.Common.{◌≡◌, ℕ, ◌%◌, List, set, ap}
use Rattle.rules.specs.declared.ring.Entry.{Entry}
use Rattle.rules.specs.declared.table.TaskRecord.{TaskRecord}
use Rattle.rules.specs.State.{State, with_record, with_logged, with_pair, with_cell, with_entry}

module _ {F C : Type 0} (s : State F C) where
  abbrev changed : List C → List (Entry F) → List (TaskRecord F) → List ℕ → List C → State F C
  changed memory ring table addresses cells = record { slots = s.slots; tasks = s.tasks; pairs = s.pairs; last = s.last; size = s.size; index = s.index; memory = memory; ring = ring; table = table; addresses = addresses; cells = cells }

  -- One record of the table is written.
  pub record_put : (t : ℕ) (r : TaskRecord F) (table : List (TaskRecord F)) → table ≡ set s.table t r → changed s.memory s.ring table s.addresses s.cells ≡ with_record s t r
  record_put t r table put = ap (λ x. changed s.memory s.ring x s.addresses s.cells) put

  -- One cell of the logs is written.
  pub logged_put : (i : ℕ) (c : C) (cells : List C) → cells ≡ set s.cells i c → changed s.memory s.ring s.table s.addresses cells ≡ with_logged s i c
  logged_put i c cells put = ap (λ x. changed s.memory s.ring s.table s.addresses x) put

  -- One pair of the logs and one record of the table are written.
  pub pair_put : (t : ℕ) (r : TaskRecord F) (i a : ℕ) (c : C) (table : List (TaskRecord F)) (addresses : List ℕ) (cells : List C) → table ≡ set s.table t r → addresses ≡ set s.addresses i a → cells ≡ set s.cells i c → changed s.memory s.ring table addresses cells ≡ with_pair s t r i a c
  pair_put t r i a c table addresses cells p q w = λ j. changed s.memory s.ring (p j) (q j) (w j)

  -- One entry of the ring and one record of the table are written, and the index is set.
  pub entry_put : (index i : ℕ) (e : Entry F) (t : ℕ) (r : TaskRecord F) (ring : List (Entry F)) (table : List (TaskRecord F)) → ring ≡ set s.ring (i % s.slots) e → table ≡ set s.table t r → record { slots = s.slots; tasks = s.tasks; pairs = s.pairs; last = s.last; size = s.size; index = index; memory = s.memory; ring = ring; table = table; addresses = s.addresses; cells = s.cells } ≡ with_entry s index i e t r
  entry_put index i e t r ring table p q = λ j. record { slots = s.slots; tasks = s.tasks; pairs = s.pairs; last = s.last; size = s.size; index = index; memory = s.memory; ring = p j; table = q j; addresses = s.addresses; cells = s.cells }

  -- One cell of the memory and one record of the table are written.
  pub cell_put : (t : ℕ) (r : TaskRecord F) (a : ℕ) (c : C) (memory : List C) (table : List (TaskRecord F)) → memory ≡ set s.memory a c → table ≡ set s.table t r → changed memory s.ring table s.addresses s.cells ≡ with_cell s t r a c
  cell_put t r a c memory table p q = λ j. changed (p j) s.ring (q j) s.addresses s.cells
