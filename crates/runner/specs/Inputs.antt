-- What is left of the input, and how a line is taken from it.
use Rattle.std.specs.Prelude.{◌≡◌, ℕ, ◌<◌, List, [], ◌++◌, length, drop, Some, None, Ok, Err, Option, Result}
use Rattle.lines.specs.declared.command.Area.{Area}
use Rattle.lines.specs.declared.command.Command.{Command}
use Rattle.lines.specs.declared.reader.Broken.{Broken}
use Rattle.lines.specs.Grammar.{spelled, Allowed}
use Rattle.runner.specs.declared.input.Input.{Input}
use Rattle.runner.specs.Runs.{NoLine}

abbrev pub left : Input → List ℕ
left s = drop s.reader.at s.reader.text.now

-- The next line is taken off the text; at the end of the text and at a broken line nothing is.
abbrev pub Takes : Option Area → List ℕ → List ℕ → Result (Option Command) Broken → Type 0
Takes made text rest (Ok None) = (text ≡ []) × (rest ≡ text)
Takes made text rest (Ok (Some c)) = Allowed made c × (text ≡ spelled c ++ rest) × (length rest < length text)
Takes made text rest (Err broken) = (0 < length text) × NoLine made text × (rest ≡ text)
