-- The lines of a report.
use Rattle.std.specs.Prelude.{◌≡◌, ℕ, ◌+◌, ◌<◌, ◌≤◌, List, [], ◌∷◌, ◌++◌, map, length, take, drop, Some, None, codes, Option, Result, MatchResult}
use Rattle.cells.specs.Refusals.{number}
use Rattle.cells.specs.declared.refusal.Refusal.{Refusal}
use Rattle.cells.specs.declared.refusal.Refusal.TheVariants.{MustWait}
use Rattle.lines.specs.Decimal.{decimal}
use Rattle.lines.specs.Grammar.{area_letter}
use Rattle.lines.specs.Line.{byte, line_of}
use Rattle.lines.specs.declared.report.Output.{Output}
use Rattle.lines.specs.declared.report.Short.{Short}
use Rattle.lines.specs.declared.report.Report.{Report}
use Rattle.lines.specs.declared.report.Report.TheVariants.{Made, Began, Read, Wrote, Committed, Left, Done, Quit, Conflict, Overrun, Refused, Numbered, Broken}

-- A place in decimal, or `-` where there is none.
abbrev pub placed : Option ℕ → List ℕ
placed (Some place) = decimal place
placed None = codes "-"

-- A refusal has its number, and the place waited for where it names one.
abbrev pub told : Refusal → List ℕ
told (MustWait place) = number (MustWait place) ∷ place ∷ []
told reason = number reason ∷ []

-- The line of a report. A conflict has the letter x, an overrun o, and a refusal e, of which number 9 is a broken line.
abbrev pub printed : Report → List ℕ
printed (Made area) = line_of (area_letter area) (codes "ok" ∷ [])
printed (Began task start) = line_of (byte "b") (map decimal (task ∷ start ∷ []))
printed (Read task value None compared) = line_of (byte "r") (map decimal (task ∷ value ∷ compared ∷ []))
printed (Read task value (Some quality) compared) = line_of (byte "r") (map decimal (task ∷ value ∷ quality ∷ compared ∷ []))
printed (Wrote task logged) = line_of (byte "w") (map decimal (task ∷ logged ∷ []))
printed (Committed task place compared) = line_of (byte "c") (decimal task ∷ placed place ∷ decimal compared ∷ [])
printed (Left task left) = line_of (byte "k") (map decimal (task ∷ left ∷ []))
printed (Done task place) = line_of (byte "k") (decimal task ∷ codes "done" ∷ decimal place ∷ [])
printed (Quit task logged) = line_of (byte "q") (map decimal (task ∷ logged ∷ []))
printed (Conflict task place compared) = line_of (byte "x") (map decimal (task ∷ place ∷ compared ∷ []))
printed (Overrun task compared) = line_of (byte "o") (map decimal (task ∷ compared ∷ []))
printed (Refused reason) = line_of (byte "e") (map decimal (told reason))
printed (Numbered number None) = line_of (byte "e") (map decimal (number ∷ []))
printed (Numbered number (Some place)) = line_of (byte "e") (map decimal (number ∷ place ∷ []))
printed (Broken at) = line_of (byte "e") (map decimal (9 ∷ at ∷ []))

-- The most bytes that the line of a report takes, by the digits of its task: every other number has at most ten digits.
abbrev pub room : Report → ℕ
room (Made area) = 5
room (Began task start) = 14 + length (decimal task)
room (Read task value None compared) = 25 + length (decimal task)
room (Read task value (Some quality) compared) = 36 + length (decimal task)
room (Wrote task logged) = 14 + length (decimal task)
room (Committed task place compared) = 25 + length (decimal task)
room (Left task left) = 14 + length (decimal task)
room (Done task place) = 19 + length (decimal task)
room (Quit task logged) = 14 + length (decimal task)
room (Conflict task place compared) = 25 + length (decimal task)
room (Overrun task compared) = 14 + length (decimal task)
room (Refused (MustWait place)) = 24
room (Refused reason) = 13
room (Numbered number None) = 13
room (Numbered number (Some place)) = 24
room (Broken at) = 24

-- The bytes of the line stand in the output from `at` on, and all others are as they were; `end` is the position behind them.
pub record Put (bytes : List ℕ) (at : ℕ) (before after : List ℕ) (end : ℕ) : Type 0 where
  pub behind : end ≡ at + length bytes
  pub within : end ≤ length before
  pub text : after ≡ take at before ++ (bytes ++ drop end before)

-- The bytes of the line do not fit behind `at`, and the output is as it was.
pub record Full (bytes : List ℕ) (at : ℕ) (before after : List ℕ) : Type 0 where
  pub short : length before < at + length bytes
  pub same : after ≡ before

-- The line is written behind what is written of the output, or it does not fit and nothing changes.
abbrev pub Writes : List ℕ → Output → Output → Result (Unit {0}) Short → Type 0
Writes line before after r = MatchResult r (λ done. Put line before.written before.bytes.now after.bytes.now after.written) (λ short. Full line before.written before.bytes.now after.bytes.now × (after.written ≡ before.written))
