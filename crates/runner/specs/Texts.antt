-- The texts of the grammar, and the lines of a text.
use Rattle.std.specs.Prelude.{ℕ, suc, cond, List, [], ◌∷◌, ◌++◌, ◌==◌, Some, None, Option}
use Rattle.lines.specs.declared.command.Area.{Area}
use Rattle.lines.specs.declared.command.Command.{Command}
use Rattle.lines.specs.declared.command.Command.TheVariants.{Make}
use Rattle.lines.specs.declared.command.Making.{Making}
use Rattle.lines.specs.Grammar.{spelled, Allowed}

-- How many lines a text has: each ends with its line feed.
abbrev pub line_count : List ℕ → ℕ
line_count [] = 0
line_count (b ∷ bs) = cond (b == 10) (suc (line_count bs)) (line_count bs)

-- A text of whole lines: it is empty or ends with a line feed.
pub data WholeLines : List ℕ → Type 0 where
  none : WholeLines []
  some : (front : List ℕ) → WholeLines (front ++ (10 ∷ []))

-- Lines behind the first: each spells a command that may stand there.
pub data Lines (area : Area) : List ℕ → Type 0 where
  none : Lines area []
  more : (c : Command) (rest : List ℕ) → Allowed (Some area) c → Lines area rest → Lines area (spelled c ++ rest)

-- A text of the grammar, with what may stand behind it: nothing yet, or a first line that makes an engine and lines over its area.
pub data Schedule : List ℕ → Option Area → Type 0 where
  nothing : Schedule [] None
  makes : (area : Area) (m : Making) (rest : List ℕ) → Allowed None (Make area m) → Lines area rest → Schedule (spelled (Make area m) ++ rest) (Some area)
