-- What a run prints, in terms of the lines of its text: the law above the definition of a run.
use Rattle.std.specs.Prelude.{◌≡◌, ℕ, ◌+◌, ◌/◌, ◌%◌, ◌<◌, ◌≤◌, List, ◌++◌, length, take, None, Option}
use Rattle.cells.specs.declared.refusal.Refusal.{Refusal}
use Rattle.filters.specs.declared.filter.Filter.{Ghosts}
use Rattle.lines.specs.declared.command.Area.{Area}
use Rattle.lines.specs.declared.command.Area.TheVariants.{Words, Tags}
use Rattle.lines.specs.declared.command.Command.{Command}
use Rattle.lines.specs.declared.command.Command.TheVariants.{Make}
use Rattle.lines.specs.declared.command.Making.{Making}
use Rattle.lines.specs.declared.report.Report.TheVariants.{Refused, Broken}
use Rattle.lines.specs.Grammar.{spelled, Allowed}
use Rattle.lines.specs.Printed.{printed}
use Rattle.rules.specs.declared.ring.Entry.{Entry}
use Rattle.rules.specs.declared.table.TaskRecord.{TaskRecord}
use Rattle.rules.specs.Making.{MakingRefused}
use Rattle.runner.specs.Runs.{NoLine, handed, word_made, tag_made, Runs}
use Rattle.runner.specs.Texts.{line_count, WholeLines, Schedule}

-- What stands in the output when a run is over: its whole lines.
abbrev pub output : List ℕ → ℕ → List ℕ
output after answer = take (answer / 16) after

module _ {F C : Type 0} (Φ : Ghosts F) (made : ℕ → ℕ → C) where
  -- A making with these numbers, over arrays of the right lengths and cells at 0, is refused.
  pub record Unmade (w : Making) (q : Refusal) : Type 0 where
    pub ring : List (Entry F)
    pub table : List (TaskRecord F)
    pub ring_length : length ring ≡ w.slots
    pub table_length : length table ≡ w.tasks
    pub refused : MakingRefused (handed made w ring table) q

module _ {F : Type 0} (Φ : Ghosts F) where
  -- The making that a first line asks for is refused.
  abbrev pub FirstRefused : Command → Refusal → Type 0
  FirstRefused (Make Words m) q = Unmade Φ word_made m q
  FirstRefused (Make Tags m) q = Unmade Φ tag_made m q
  FirstRefused _ q = ⊥

  -- How a run comes out that is not cut short by the end of its output.
  pub data Outcome (text lines : List ℕ) : Type 0 where
    -- A text of more than 8,192 bytes prints that line 0 is broken, and nothing more.
    long : 8192 < length text → lines ≡ printed (Broken 0) → Outcome text lines
    -- A refused making ends the run: its line is the only one.
    unmade : length text ≤ 8192 → (c : Command) (rest : List ℕ) (q : Refusal) → text ≡ spelled c ++ rest → Allowed None c → FirstRefused c q → lines ≡ printed (Refused q) → Outcome text lines
    -- A text of the grammar gives exactly one line for each of its lines.
    each : length text ≤ 8192 → (next : Option Area) → Schedule text next → line_count lines ≡ line_count text → Outcome text lines
    -- Any other text gives one line for each line before its first broken one, then that line's number, and nothing more.
    broken : length text ≤ 8192 → (good bad front : List ℕ) (next : Option Area) → text ≡ good ++ bad → Schedule good next → 0 < length bad → NoLine next bad → lines ≡ front ++ printed (Broken (line_count good + 1)) → line_count front ≡ line_count good → Outcome text lines

-- What two runs print agrees over the first n lines; a and b are their answers.
pub data Agreed (n : ℕ) (p q : List ℕ) (a b : ℕ) : Type 0 where
  -- Both begin with the same n lines.
  alike : (same x y : List ℕ) → line_count same ≡ n → p ≡ same ++ x → q ≡ same ++ y → Agreed n p q a b
  -- Both are over before that, and all that they print is the same.
  over : p ≡ q → Agreed n p q a b
  -- One is cut short by the end of its output before that: it has printed the first lines of the other.
  first_cut : (rest : List ℕ) → a % 16 ≡ 10 → q ≡ p ++ rest → Agreed n p q a b
  second_cut : (rest : List ℕ) → b % 16 ≡ 10 → p ≡ q ++ rest → Agreed n p q a b

module _ {F : Type 0} (Φ : Ghosts F) where
  pub record Law (text bytes after : List ℕ) (answer : ℕ) : Type 0 where
    -- What is printed, by the lines of the text.
    pub outcome : answer % 16 ≡ 0 → Outcome Φ text (output after answer)
    -- Two texts that agree up to a line agree in what is printed up to it.
    pub agrees : (text' bytes' after' : List ℕ) (answer' : ℕ) → Runs Φ text' bytes' after' answer' → length text ≤ 8192 → length text' ≤ 8192 → (front rest rest' : List ℕ) → WholeLines front → text ≡ front ++ rest → text' ≡ front ++ rest' → Agreed (line_count front) (output after answer) (output after' answer') answer answer'
