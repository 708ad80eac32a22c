-- What each call answers and changes.
use Rattle.std.specs.Prelude.{◌≡◌, ℕ, ◌+◌, ◌-◌, ◌<◌, ◌⊎◌, Some, None, Ok, Err, sum_by, Option, Result, slice_index}
use Rattle.cells.specs.declared.refusal.Refusal.{Refusal}
use Rattle.filters.specs.declared.filter.Filter.{Ghosts}
use Rattle.rules.specs.declared.answer.Denial.{Denial}
use Rattle.rules.specs.declared.answer.Denial.TheVariants.{Refused, Aborted}
use Rattle.rules.specs.declared.answer.Worked.{Worked}
use Rattle.rules.specs.declared.answer.Worked.TheVariants.{Left, Done}
use Rattle.rules.specs.declared.ring.Entry.{Entry}
use Rattle.rules.specs.declared.ring.Status.TheVariants.{Writing, Complete}
use Rattle.rules.specs.declared.table.Phase.{Phase}
use Rattle.rules.specs.declared.table.Phase.TheVariants.{Idle, Open, Committed}
use Rattle.rules.specs.declared.table.TaskRecord.{TaskRecord}
use Rattle.rules.specs.Calls.{Act, begin, read, write, commit, work, quit, Call, by, outstanding, ActReply, Reply}
use Rattle.rules.specs.Check.{Verdict, Checks}
use Rattle.rules.specs.Faults.{Accepts, Refuses}
use Rattle.rules.specs.Lists.{At}
use Rattle.rules.specs.Logs.{Lacks, First}
use Rattle.rules.specs.Places.{Present, Settled}
use Rattle.rules.specs.Records.{Emptied, Opened, after_read, after_append, after_commit, after_work}
use Rattle.rules.specs.State.{State, base, with_record, with_logged, with_pair, with_cell, with_entry}

-- What a record owes: one for each cell not yet written and one more, if it is Committed.
abbrev pub owes_in : Phase → ℕ → ℕ → ℕ
owes_in Idle logged written = 0
owes_in Open logged written = 0
owes_in Committed logged written = logged - written + 1

module _ {F : Type 0} where
  abbrev pub owes : TaskRecord F → ℕ
  owes r = owes_in r.phase r.logged r.written

module _ {F C : Type 0} (Φ : Ghosts F) where
  -- A refused call changes nothing.
  pub record RefusedStep (s : State F C) (call : Call C) (refusal : Refusal) (s' : State F C) : Type 0 where
    pub refuses : Refuses Φ s call refusal
    pub after : s' ≡ s

  -- The caller's record is emptied and nothing else changes.
  pub record Empties (s : State F C) (t : ℕ) (s' : State F C) : Type 0 where
    pub task : TaskRecord F
    pub emptied : Emptied Φ task
    pub after : s' ≡ with_record s t task

  -- Begin: the record is emptied, then Open with the first place from the index down that is not unfinished. The answer is that start.
  pub record Begins (s : State F C) (t start : ℕ) (s' : State F C) : Type 0 where
    pub accepts : Accepts Φ s (by t begin)
    pub settled : Settled s.slots s.ring s.index start
    pub task : TaskRecord F
    pub opened : Opened Φ start task
    pub after : s' ≡ with_record s t task

  -- A read of a logged cell answers the logged cell, compared 0, and changes nothing.
  pub record ReadsLogged (s : State F C) (t a : ℕ) (answer : C × ℕ) (s' : State F C) : Type 0 where
    pub accepts : Accepts Φ s (by t (read a))
    pub task : TaskRecord F
    pub there : At s.table t task
    pub position : ℕ
    pub first : First s.addresses (base s t) task.logged a position
    pub cell : At s.cells (base s t + position) answer.0
    pub compared : answer.1 ≡ 0
    pub after : s' ≡ s

  -- Any other read adds the address to the read filter and checks.
  pub record ReadChecks (s : State F C) (t a : ℕ) (verdict : Verdict) : Type 0 where
    pub accepts : Accepts Φ s (by t (read a))
    pub task : TaskRecord F
    pub there : At s.table t task
    pub new : Lacks s.addresses (base s t) task.logged a
    pub reads : F
    pub widened : Φ.added task.reads a reads
    pub checks : Checks Φ s.slots s.ring reads s.index task.start verdict

  -- Where the check passes, it answers the memory's cell together with the number compared.
  pub record ReadsMemory (s : State F C) (t a : ℕ) (answer : C × ℕ) (s' : State F C) : Type 0 where
    pub start : ℕ
    pub checked : ReadChecks s t a (Ok (record { start = start; compared = answer.1 }))
    pub cell : At s.memory a answer.0
    pub after : s' ≡ with_record s t (after_read checked.task start checked.reads)

  -- A write of a logged address replaces its cell. The answer is the logged count.
  pub record Replaces (s : State F C) (t a : ℕ) (c : C) (count : ℕ) (s' : State F C) : Type 0 where
    pub accepts : Accepts Φ s (by t (write a c))
    pub task : TaskRecord F
    pub there : At s.table t task
    pub position : ℕ
    pub first : First s.addresses (base s t) task.logged a position
    pub counted : count ≡ task.logged
    pub after : s' ≡ with_logged s (base s t + position) c

  -- Otherwise it appends the pair and adds the address to the write filter.
  pub record Appends (s : State F C) (t a : ℕ) (c : C) (count : ℕ) (s' : State F C) : Type 0 where
    pub accepts : Accepts Φ s (by t (write a c))
    pub task : TaskRecord F
    pub there : At s.table t task
    pub new : Lacks s.addresses (base s t) task.logged a
    pub writes : F
    pub widened : Φ.added task.writes a writes
    pub counted : count ≡ task.logged + 1
    pub after : s' ≡ with_pair s t (after_append task writes) (base s t + task.logged) a c

  -- A commit with nothing logged empties the record; it has no place to name, and compared is 0.
  pub record CommitsNothing (s : State F C) (t compared : ℕ) (s' : State F C) : Type 0 where
    pub accepts : Accepts Φ s (by t commit)
    pub task : TaskRecord F
    pub there : At s.table t task
    pub none : task.logged ≡ 0
    pub counted : compared ≡ 0
    pub empties : Empties s t s'

  -- A commit with cells logged checks.
  pub record CommitChecks (s : State F C) (t : ℕ) (verdict : Verdict) : Type 0 where
    pub accepts : Accepts Φ s (by t commit)
    pub task : TaskRecord F
    pub there : At s.table t task
    pub some : 0 < task.logged
    pub checks : Checks Φ s.slots s.ring task.reads s.index task.start verdict

  -- Where the check passes, it raises the index by 1 and fills that place's entry with its stamp, the write filter and status writing.
  pub record Commits (s : State F C) (t place compared : ℕ) (s' : State F C) : Type 0 where
    pub start : ℕ
    pub checked : CommitChecks s t (Ok (record { start = start; compared = compared }))
    pub next : place ≡ s.index + 1
    pub after : s' ≡ with_entry s place place (record { stamp = place; filter = checked.task.writes; status = Writing }) t (after_commit checked.task start place)

  -- A work with cells left writes the next logged cell, in log order, and answers how many are left.
  pub record WritesBack (s : State F C) (t left : ℕ) (s' : State F C) : Type 0 where
    pub accepts : Accepts Φ s (by t work)
    pub task : TaskRecord F
    pub there : At s.table t task
    pub more : task.written < task.logged
    pub cell : C
    pub logged : At s.cells (base s t + task.written) cell
    pub counted : left ≡ task.logged - (task.written + 1)
    pub after : s' ≡ with_cell s t (after_work task) (slice_index s.addresses (base s t + task.written)) cell

  -- With none left it sets the entry complete, empties the record and answers done with the place.
  pub record Finishes (s : State F C) (t place : ℕ) (s' : State F C) : Type 0 where
    pub accepts : Accepts Φ s (by t work)
    pub task : TaskRecord F
    pub there : At s.table t task
    pub none : task.written ≡ task.logged
    pub named : place ≡ task.place
    pub entry : Entry F
    pub present : Present s.slots s.ring place entry
    pub idle : TaskRecord F
    pub emptied : Emptied Φ idle
    pub after : s' ≡ with_entry s s.index place (record { stamp = entry.stamp; filter = entry.filter; status = Complete }) t idle

  -- Quit empties an Open record and answers its logged count.
  pub record Quits (s : State F C) (t count : ℕ) (s' : State F C) : Type 0 where
    pub accepts : Accepts Φ s (by t quit)
    pub task : TaskRecord F
    pub there : At s.table t task
    pub counted : count ≡ task.logged
    pub empties : Empties s t s'

  -- Outstanding adds up what the Committed records owe, and changes nothing.
  pub record Counts (s : State F C) (count : ℕ) (s' : State F C) : Type 0 where
    pub accepts : Accepts Φ s outstanding
    pub counted : count ≡ sum_by owes s.table
    pub after : s' ≡ s

  -- Why a read or a commit is not accepted. Conflict and overrun empty the caller's record and change nothing else.
  abbrev pub ReadDenied : State F C → ℕ → ℕ → Denial → State F C → Type 0
  ReadDenied s t a (Refused refusal) s' = RefusedStep s (by t (read a)) refusal s'
  ReadDenied s t a (Aborted abort) s' = ReadChecks s t a (Err abort) × Empties s t s'

  abbrev pub CommitDenied : State F C → ℕ → Denial → State F C → Type 0
  CommitDenied s t (Refused refusal) s' = RefusedStep s (by t commit) refusal s'
  CommitDenied s t (Aborted abort) s' = CommitChecks s t (Err abort) × Empties s t s'

  abbrev pub CommitTaken : State F C → ℕ → Option ℕ → ℕ → State F C → Type 0
  CommitTaken s t None compared s' = CommitsNothing s t compared s'
  CommitTaken s t (Some place) compared s' = Commits s t place compared s'

  abbrev pub Works : State F C → ℕ → Worked → State F C → Type 0
  Works s t (Left left) s' = WritesBack s t left s'
  Works s t (Done place) s' = Finishes s t place s'

  -- The step from what was handed over, by a task's call and its answer, to what is handed back.
  abbrev pub ActStep : State F C → ℕ → (act : Act C) → ActReply act → State F C → Type 0
  ActStep s t begin (Ok start) s' = Begins s t start s'
  ActStep s t begin (Err refusal) s' = RefusedStep s (by t begin) refusal s'
  ActStep s t (read a) (Ok answer) s' = ReadsLogged s t a answer s' ⊎ ReadsMemory s t a answer s'
  ActStep s t (read a) (Err denial) s' = ReadDenied s t a denial s'
  ActStep s t (write a c) (Ok count) s' = Replaces s t a c count s' ⊎ Appends s t a c count s'
  ActStep s t (write a c) (Err refusal) s' = RefusedStep s (by t (write a c)) refusal s'
  ActStep s t commit (Ok answer) s' = CommitTaken s t answer.0 answer.1 s'
  ActStep s t commit (Err denial) s' = CommitDenied s t denial s'
  ActStep s t work (Ok worked) s' = Works s t worked s'
  ActStep s t work (Err refusal) s' = RefusedStep s (by t work) refusal s'
  ActStep s t quit (Ok count) s' = Quits s t count s'
  ActStep s t quit (Err refusal) s' = RefusedStep s (by t quit) refusal s'

  abbrev pub CountStep : State F C → Result ℕ Refusal → State F C → Type 0
  CountStep s (Ok count) s' = Counts s count s'
  CountStep s (Err refusal) s' = RefusedStep s outstanding refusal s'

  -- The step of any call.
  abbrev pub Step : State F C → (call : Call C) → Reply call → State F C → Type 0
  Step s (by t act) reply s' = ActStep s t act reply s'
  Step s outstanding reply s' = CountStep s reply s'
