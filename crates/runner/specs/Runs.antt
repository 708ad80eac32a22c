-- A whole run: which bytes stand in the output, and what is answered.
use Rattle.std.specs.Prelude.{◌≡◌, ℕ, ◌+◌, ◌*◌, ◌<◌, ◌≤◌, List, [], ◌++◌, length, replicate, Some, None, Ok, Err, Option, Result, ◌≢◌}
use Rattle.cells.specs.declared.refusal.Refusal.{Refusal}
use Rattle.cells.specs.declared.tags.Tag.{Tag}
use Rattle.filters.specs.declared.filter.Filter.{Ghosts}
use Rattle.lines.specs.declared.command.Area.{Area}
use Rattle.lines.specs.declared.command.Area.TheVariants.{Words, Tags}
use Rattle.lines.specs.declared.command.Command.{Command}
use Rattle.lines.specs.declared.command.Command.TheVariants.{Make}
use Rattle.lines.specs.declared.command.Making.{Making}
use Rattle.lines.specs.declared.report.Output.{Output as Lent}
use Rattle.lines.specs.declared.report.Report.{Report}
use Rattle.lines.specs.declared.report.Report.TheVariants.{Made, Refused, Broken, Read}
use Rattle.lines.specs.declared.report.Short.{Short}
use Rattle.lines.specs.Grammar.{spelled, Allowed}
use Rattle.lines.specs.Printed.{printed, Put, Full}
use Rattle.rules.specs.declared.ring.Entry.{Entry}
use Rattle.rules.specs.declared.table.TaskRecord.{TaskRecord}
use Rattle.rules.specs.Making.{Makes, MakingRefused}
use Rattle.rules.specs.State.{State}
use Rattle.runner.specs.Lines.{Played}

-- The output buffer and how many bytes of it are written.
pub record Output : Type 0 where
  pub bytes : List ℕ
  pub written : ℕ

abbrev pub from : List ℕ → ℕ → Output
from bytes written = record { bytes = bytes; written = written }

-- The same of the output that is lent.
abbrev pub seen : Lent → Output
seen o = from o.bytes.now o.written

-- What a run answers in C: the bytes written × 16, plus 10 where the next line does not fit.
abbrev pub packed : Lent → Result (Unit {0}) Short → ℕ
packed o (Ok done) = o.written * 16
packed o (Err short) = o.written * 16 + 10

-- The last line of a run is printed where it fits; the answer is the bytes written × 16, plus 10 where it does not fit.
pub data Closes (report : Report) (o : Output) (after : List ℕ) (answer : ℕ) : Type 0 where
  fits : (end : ℕ) → Put (printed report) o.written o.bytes after end → answer ≡ end * 16 → Closes report o after answer
  misses : Full (printed report) o.written o.bytes after → answer ≡ o.written * 16 + 10 → Closes report o after answer

-- A word is its value and has no quality.
abbrev pub word_made : ℕ → ℕ → ℕ
word_made value quality = value

abbrev pub word_shown : ℕ → ℕ → ℕ → Report
word_shown task cell compared = Read task cell None compared

-- A tag with this value and quality, and the line of a read that is answered one.
abbrev pub tag_made : ℕ → ℕ → Tag
tag_made value quality = record { quality = quality; value = value }

abbrev pub tag_shown : ℕ → Tag → ℕ → Report
tag_shown task cell compared = Read task cell.value (Some cell.quality) compared

-- No line of the grammar stands at the front of the text.
abbrev pub NoLine : Option Area → List ℕ → Type 0
NoLine expected text = (c : Command) (rest : List ℕ) → Allowed expected c → text ≢ spelled c ++ rest

module _ {F C : Type 0} (Φ : Ghosts F) (made : ℕ → ℕ → C) (shown : ℕ → C → ℕ → Report) (area : Area) where
  -- The lines behind the first, from the line with this number on, over an engine in this state.
  pub data Plays : State F C → (line : ℕ) (text : List ℕ) → Output → List ℕ → ℕ → Type 0 where
    -- The text is at its end.
    ends : {s : State F C} {line : ℕ} {o : Output} {after : List ℕ} {answer : ℕ} → after ≡ o.bytes → answer ≡ o.written * 16 → Plays s line [] o after answer
    -- A broken line ends the run with its number.
    breaks : {s : State F C} {line : ℕ} {text : List ℕ} {o : Output} {after : List ℕ} {answer : ℕ} → 0 < length text → NoLine (Some area) text → Closes (Broken line) o after answer → Plays s line text o after answer
    -- A line is played, and what it prints does not fit.
    stops : {s s' : State F C} {line : ℕ} {text : List ℕ} {o : Output} {after : List ℕ} {answer : ℕ} (c : Command) (rest : List ℕ) (report : Report) → Allowed (Some area) c → text ≡ spelled c ++ rest → Played Φ made shown s c report s' → Full (printed report) o.written o.bytes after → answer ≡ o.written * 16 + 10 → Plays s line text o after answer
    -- A line is played and printed, and the run goes on behind it.
    goes : {s s' : State F C} {line : ℕ} {text bytes : List ℕ} {o : Output} {after : List ℕ} {answer : ℕ} (c : Command) (rest : List ℕ) (report : Report) (end : ℕ) → Allowed (Some area) c → text ≡ spelled c ++ rest → Played Φ made shown s c report s' → Put (printed report) o.written o.bytes bytes end → Plays s' (line + 1) rest (record { bytes = bytes; written = end }) after answer → Plays s line text o after answer

module _ {F C : Type 0} (made : ℕ → ℕ → C) where
  -- What a making is handed: all cells at 0, qualities too, and log arrays of 0.
  abbrev pub handed : Making → List (Entry F) → List (TaskRecord F) → State F C
  handed w ring table = record { slots = w.slots; tasks = w.tasks; pairs = w.pairs; last = w.last; size = length (replicate w.cells (made 0 0)); index = 0; memory = replicate w.cells (made 0 0); ring = ring; table = table; addresses = replicate (w.tasks * w.pairs) 0; cells = replicate (w.tasks * w.pairs) (made 0 0) }

module _ {F C : Type 0} (Φ : Ghosts F) (made : ℕ → ℕ → C) (shown : ℕ → C → ℕ → Report) (area : Area) where
  -- The engine is made: its line is printed and the other lines follow, or it does not fit.
  pub data MadeRun (s : State F C) (rest : List ℕ) (o : Output) (after : List ℕ) (answer : ℕ) : Type 0 where
    lacks : Full (printed (Made area)) o.written o.bytes after → answer ≡ o.written * 16 + 10 → MadeRun s rest o after answer
    prints : (bytes : List ℕ) (end : ℕ) → Put (printed (Made area)) o.written o.bytes bytes end → Plays Φ made shown area s 2 rest (from bytes end) after answer → MadeRun s rest o after answer

  -- The run behind a first line, with what the making is handed. A refused making ends the run.
  pub data Over (before : State F C) (rest : List ℕ) (o : Output) (after : List ℕ) (answer : ℕ) : Type 0 where
    refused : (q : Refusal) → MakingRefused before q → Closes (Refused q) o after answer → Over before rest o after answer
    accepted : (s : State F C) → Makes Φ before s → MadeRun s rest o after answer → Over before rest o after answer

  -- The run behind a first line that asks for an engine over this area. What ring and table held before does not matter.
  pub record Starts (w : Making) (rest : List ℕ) (o : Output) (after : List ℕ) (answer : ℕ) : Type 0 where
    pub ring : List (Entry F)
    pub table : List (TaskRecord F)
    pub ring_length : length ring ≡ w.slots
    pub table_length : length table ≡ w.tasks
    pub over : Over (handed made w ring table) rest o after answer

module _ {F : Type 0} (Φ : Ghosts F) where
  -- What follows from a first line: a run over words, or over tags. No other line makes an engine.
  abbrev pub FirstLine : Command → List ℕ → Output → List ℕ → ℕ → Type 0
  FirstLine (Make Words m) rest o after answer = Starts Φ word_made word_shown Words m rest o after answer
  FirstLine (Make Tags m) rest o after answer = Starts Φ tag_made tag_shown Tags m rest o after answer
  FirstLine _ rest o after answer = ⊥

  -- A whole run of a text, from the output handed over to the output handed back and the answer.
  pub data Runs (text bytes after : List ℕ) (answer : ℕ) : Type 0 where
    -- A text of more than 8,192 bytes is not read.
    long : 8192 < length text → Closes (Broken 0) (from bytes 0) after answer → Runs text bytes after answer
    -- An empty text prints nothing.
    empty : text ≡ [] → after ≡ bytes → answer ≡ 0 → Runs text bytes after answer
    -- The first line is broken.
    breaks : length text ≤ 8192 → 0 < length text → NoLine None text → Closes (Broken 1) (from bytes 0) after answer → Runs text bytes after answer
    -- The first line makes an engine, or tries to.
    starts : length text ≤ 8192 → (c : Command) (rest : List ℕ) → Allowed None c → text ≡ spelled c ++ rest → FirstLine c rest (from bytes 0) after answer → Runs text bytes after answer
