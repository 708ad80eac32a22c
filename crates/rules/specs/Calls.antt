-- The calls with their arguments, and what each may answer.
use Rattle.std.specs.Prelude.{ℕ, ◌<◌, Some, None, Option, Result}
use Rattle.cells.specs.declared.refusal.Refusal.{Refusal}
use Rattle.rules.specs.declared.answer.Denial.{Denial}
use Rattle.rules.specs.declared.answer.Worked.{Worked}
use Rattle.rules.specs.declared.table.CallKind.{CallKind}
use Rattle.rules.specs.declared.table.CallKind.TheVariants.{Begin, Read, Write, Commit, Work, Quit}

-- The six calls of a task, with the address and the cell that they name.
pub data Act (C : Type 0) : Type 0 where
  begin : Act C
  read : ℕ → Act C
  write : ℕ → C → Act C
  commit : Act C
  work : Act C
  quit : Act C

-- A call of a task, or the asking for the outstanding count.
pub data Call (C : Type 0) : Type 0 where
  by : ℕ → Act C → Call C
  outstanding : Call C

module _ {C : Type 0} where
  -- The column of the call in the table of phases and calls.
  abbrev pub kind : Act C → CallKind
  kind begin = Begin
  kind (read a) = Read
  kind (write a c) = Write
  kind commit = Commit
  kind work = Work
  kind quit = Quit

  -- The address that the call names.
  abbrev pub named : Act C → Option ℕ
  named begin = None
  named (read a) = Some a
  named (write a c) = Some a
  named commit = None
  named work = None
  named quit = None

  -- What a task's call answers: begin its start; read the cell and the number compared; write and quit the logged count;
  -- commit the place, if there is one, and the number compared; work what it has done.
  abbrev pub ActReply : Act C → Type 0
  ActReply begin = Result ℕ Refusal
  ActReply (read a) = Result (C × ℕ) Denial
  ActReply (write a c) = Result ℕ Refusal
  ActReply commit = Result (Option ℕ × ℕ) Denial
  ActReply work = Result Worked Refusal
  ActReply quit = Result ℕ Refusal

  abbrev pub Reply : Call C → Type 0
  Reply (by t act) = ActReply act
  Reply outstanding = Result ℕ Refusal

-- The address, where there is one, lies below the size.
abbrev pub Inside : ℕ → Option ℕ → Type 0
Inside size None = Unit {0}
Inside size (Some a) = a < size
