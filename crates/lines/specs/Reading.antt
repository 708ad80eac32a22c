-- What the reader answers of a text and a position in it.
use Rattle.std.specs.Prelude.{◌≡◌, ℕ, ◌+◌, ◌<◌, ◌≤◌, List, ◌++◌, map, length, drop, Some, None, Ok, Err, Option, Result, MatchOption, ◌≢◌, slice_index, slice_index_or}
use Rattle.lines.specs.Decimal.{decimal}
use Rattle.lines.specs.Grammar.{Small, most, letter, numbers, spelled, Allowed}
use Rattle.lines.specs.Line.{line_of}
use Rattle.lines.specs.declared.command.Area.{Area}
use Rattle.lines.specs.declared.command.Command.{Command}
use Rattle.lines.specs.declared.reader.Broken.{Broken}

-- A byte is a digit.
abbrev pub Digit : ℕ → Type 0
Digit b = (48 ≤ b) × (b ≤ 57)

-- The byte b stands at a position.
pub record ByteAt (text : List ℕ) (at b : ℕ) : Type 0 where
  pub inside : at < length text
  pub byte : slice_index_or text at 0 ≡ b

-- The digit d stands at a position.
pub record DigitAt (text : List ℕ) (at d : ℕ) : Type 0 where
  pub inside : at < length text
  pub one : d < 10
  pub byte : slice_index_or text at 0 ≡ 48 + d

-- The number in decimal stands at a position, and `end` is the position behind its last digit, where no digit stands.
pub record NumberAt (text : List ℕ) (at value end : ℕ) : Type 0 where
  pub spelt : drop at text ≡ decimal value ++ drop end text
  pub forward : at < end
  pub within : end ≤ length text
  pub stops : Digit (slice_index text end) → ⊥

-- No number that is small enough stands at a position with no digit behind it.
abbrev pub NoNumber : List ℕ → ℕ → Type 0
NoNumber text at = (n : ℕ) (rest : List ℕ) → n ≤ most → (Digit (slice_index rest 0) → ⊥) → drop at text ≢ decimal n ++ rest

-- The line of a letter and numbers stands at a position, and `end` is the position behind its line feed.
pub record LineAt (text : List ℕ) (at first : ℕ) (ns : List ℕ) (end : ℕ) : Type 0 where
  pub spelt : drop at text ≡ line_of first (map decimal ns) ++ drop end text
  pub forward : at < end
  pub within : end ≤ length text

-- No line of a letter and at most five small numbers stands at a position.
abbrev pub NoLine : List ℕ → ℕ → Type 0
NoLine text at = (first : ℕ) (ns rest : List ℕ) → length ns ≤ 5 → Small ns → drop at text ≢ line_of first (map decimal ns) ++ rest

-- The command is allowed where it stands, given the area that is made before it, and has this letter and these numbers.
pub record Means (e : Option Area) (first : ℕ) (ns : List ℕ) (c : Command) : Type 0 where
  pub allowed : Allowed e c
  pub begins : letter c ≡ first
  pub goes : numbers c ≡ ns

-- The answer is the allowed command with this letter and these numbers, or that there is none.
abbrev pub Meant : Option Area → ℕ → List ℕ → Option Command → Type 0
Meant e first ns r = MatchOption r ((c : Command) → Means e first ns c → ⊥) (Means e first ns)

-- An allowed command stands at a position, and `end` is the position behind its line.
pub record CommandAt (e : Option Area) (text : List ℕ) (at end : ℕ) (c : Command) : Type 0 where
  pub spelt : drop at text ≡ spelled c ++ drop end text
  pub allowed : Allowed e c
  pub forward : at < end
  pub within : end ≤ length text

-- No allowed command stands at a position.
abbrev pub NoCommand : Option Area → List ℕ → ℕ → Type 0
NoCommand e text at = (c : Command) (rest : List ℕ) → Allowed e c → drop at text ≢ spelled c ++ rest

-- A line begins at a position before the end of the text, and no allowed command stands there.
pub record BrokenAt (e : Option Area) (text : List ℕ) (at : ℕ) : Type 0 where
  pub inside : at < length text
  pub none : NoCommand e text at

-- The answer of the reader at a position: the end of the text, the command that stands there with the position behind it, or that the line is broken. But for a command the position stays.
abbrev pub Reads : Option Area → List ℕ → ℕ → ℕ → Result (Option Command) Broken → Type 0
Reads e text at end (Ok None) = (at ≡ length text) × (end ≡ at)
Reads e text at end (Ok (Some c)) = CommandAt e text at end c
Reads e text at end (Err broken) = BrokenAt e text at × (end ≡ at)
