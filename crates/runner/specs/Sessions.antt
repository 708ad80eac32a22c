-- An engine with its memory and its arrays, as the rules see it.
use Rattle.std.specs.Prelude.{List}
use Rattle.engine.specs.View.{view}
use Rattle.rules.specs.State.{State}
use Rattle.runner.specs.declared.turn.Session.{Session}

abbrev pub state : {M F C : Type 0} → (M → List C) → Session M F C → State F C
state contents s = view s.engine (contents s.memory) s.arrays
