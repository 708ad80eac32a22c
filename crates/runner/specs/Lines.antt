-- What a line of the schedule asks of the engine, and what is printed of the answer.
use Rattle.std.specs.Prelude.{◌≡◌, ℕ, Some, None, Ok, Err, Option, unwrap_or}
use Rattle.filters.specs.declared.filter.Filter.{Ghosts}
use Rattle.lines.specs.declared.command.Command.{Command}
use Rattle.lines.specs.declared.command.Command.TheVariants.{Make, Begin, Read, Write, Commit, Work, Quit}
use Rattle.lines.specs.declared.report.Report.{Report}
use Rattle.lines.specs.declared.report.Report.TheVariants.{Began, Wrote, Committed, Left as LeftLine, Done as DoneLine, Quit as QuitLine, Conflict as ConflictLine, Overrun as OverrunLine, Refused as RefusedLine}
use Rattle.rules.specs.declared.answer.Denial.{Denial}
use Rattle.rules.specs.declared.answer.Abort.TheVariants.{Conflict, Overrun}
use Rattle.rules.specs.declared.answer.Denial.TheVariants.{Refused, Aborted}
use Rattle.rules.specs.declared.answer.Worked.{Worked}
use Rattle.rules.specs.declared.answer.Worked.TheVariants.{Left, Done}
use Rattle.rules.specs.Calls.{Act, begin, read, write, commit, work, quit, by, ActReply}
use Rattle.rules.specs.State.{State}
use Rattle.rules.specs.Steps.{Step}

-- Conflict and overrun have lines of their own.
abbrev pub denial : ℕ → Denial → Report
denial task (Refused q) = RefusedLine q
denial task (Aborted (Conflict place compared)) = ConflictLine task place compared
denial task (Aborted (Overrun compared)) = OverrunLine task compared

abbrev pub done : ℕ → Worked → Report
done task (Left left) = LeftLine task left
done task (Done place) = DoneLine task place

module _ {C : Type 0} (made : ℕ → ℕ → C) where
  -- The task and its call that a line asks for. A line that makes an engine is no call of a task.
  abbrev pub asks : Command → Option (ℕ × Act C)
  asks (Make area m) = None
  asks (Begin task) = Some (task, begin)
  asks (Read task address) = Some (task, read address)
  asks (Write task address value quality) = Some (task, write address (made value (unwrap_or quality 0)))
  asks (Commit task) = Some (task, commit)
  asks (Work task) = Some (task, work)
  asks (Quit task) = Some (task, quit)

module _ {C : Type 0} (shown : ℕ → C → ℕ → Report) where
  -- The line printed of a task's call and its answer.
  abbrev pub told : ℕ → (act : Act C) → ActReply act → Report
  told task begin (Ok start) = Began task start
  told task begin (Err q) = RefusedLine q
  told task (read a) (Ok answer) = shown task answer.0 answer.1
  told task (read a) (Err d) = denial task d
  told task (write a c) (Ok count) = Wrote task count
  told task (write a c) (Err q) = RefusedLine q
  told task commit (Ok answer) = Committed task answer.0 answer.1
  told task commit (Err d) = denial task d
  told task work (Ok worked) = done task worked
  told task work (Err q) = RefusedLine q
  told task quit (Ok count) = QuitLine task count
  told task quit (Err q) = RefusedLine q

module _ {F C : Type 0} (Φ : Ghosts F) (made : ℕ → ℕ → C) (shown : ℕ → C → ℕ → Report) where
  -- A line is played: the engine takes the step of the call that it asks for, and the answer is reported.
  pub record Played (s : State F C) (command : Command) (report : Report) (s' : State F C) : Type 0 where
    pub task : ℕ
    pub act : Act C
    pub asked : asks made command ≡ Some (task, act)
    pub reply : ActReply act
    pub step : Step Φ s (by task act) reply s'
    pub tells : report ≡ told shown task act reply
