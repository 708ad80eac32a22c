-- What a call is handed and hands back, as a state.
use Rattle.std.specs.Prelude.{◌≡◌, ℕ, List, length, Ok, Err, Result}
use Rattle.cells.specs.declared.refusal.Refusal.{Refusal}
use Rattle.filters.specs.declared.filter.Filter.{Ghosts}
use Rattle.engine.specs.declared.arrays.Arrays.{Arrays}
use Rattle.engine.specs.declared.engine.Engine.{Engine}
use Rattle.engine.specs.declared.engine.Settings.{Settings}
use Rattle.engine.specs.declared.handed.Handed.{Handed}
use Rattle.rules.specs.declared.ring.Entry.{Entry}
use Rattle.rules.specs.declared.table.TaskRecord.{TaskRecord}
use Rattle.rules.specs.Book.{opening}
use Rattle.rules.specs.Making.{Makes, MakingRefused}
use Rattle.rules.specs.Promise.{Chain, Promise}
use Rattle.rules.specs.State.{State}

module _ {F C : Type 0} where
  -- The engine's numbers, the memory's cells and the arrays, each by itself.
  abbrev pub state : Engine → List C → List (Entry F) → List (TaskRecord F) → List ℕ → List C → State F C
  state e memory ring table addresses cells = record { slots = e.settings.slots; tasks = e.settings.tasks; pairs = e.settings.pairs; last = e.settings.last; size = e.size; index = e.index; memory = memory; ring = ring; table = table; addresses = addresses; cells = cells }

  -- The same, with the arrays in their struct.
  abbrev pub view : Engine → List C → Arrays F C → State F C
  view e memory a = state e memory a.ring.now a.table.now a.addresses.now a.cells.now

  -- The same, as a call looks at it.
  abbrev pub seen : {M : Type 0} → (M → List C) → Handed M F C → State F C
  seen contents h = state h.engine.now (contents h.memory.now) h.ring.now h.table.now h.addresses.now h.cells.now

  -- What a making is asked for and handed, as the state that it would leave but for ring and table.
  abbrev pub asked : Settings → List C → List (Entry F) → List (TaskRecord F) → List ℕ → List C → State F C
  asked w memory ring table addresses cells = record { slots = w.slots; tasks = w.tasks; pairs = w.pairs; last = w.last; size = length memory; index = 0; memory = memory; ring = ring; table = table; addresses = addresses; cells = cells }

  -- The same, with the arrays in their struct.
  abbrev pub request : Settings → List C → Arrays F C → State F C
  request w memory a = asked w memory a.ring.now a.table.now a.addresses.now a.cells.now

  -- The step of a making: the engine over what was handed, or a refusal that changes nothing.
  abbrev pub MakeStep : Ghosts F → State F C → Result Engine Refusal → (Engine → State F C) → State F C → Type 0
  MakeStep Φ before (Ok e) made unmade = Makes Φ before (made e)
  MakeStep Φ before (Err refusal) made unmade = MakingRefused before refusal × (unmade ≡ before)

  -- An accepted making starts a chain, and the main promise holds at its start.
  abbrev pub Begun : Ghosts F → List C → Result Engine Refusal → (Engine → State F C) → Type 0
  Begun Φ memory (Ok e) made = Chain Φ (made e) (opening memory) × Promise Φ (made e) (opening memory)
  Begun Φ memory (Err refusal) made = Unit {0}

  -- The four references are those that were lent.
  pub record SameLoans (a b : Arrays F C) : Type 0 where
    pub ring : b.ring.ghost_name ≡ a.ring.ghost_name
    pub table : b.table.ghost_name ≡ a.table.ghost_name
    pub addresses : b.addresses.ghost_name ≡ a.addresses.ghost_name
    pub cells : b.cells.ghost_name ≡ a.cells.ghost_name
