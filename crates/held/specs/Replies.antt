-- Which answer of the numbered call each answer of a held call stands for.
use Rattle.std.specs.Prelude.{ℕ, Some, None, Ok, Err, Option, Result}
use Rattle.cells.specs.declared.refusal.Refusal.{Refusal}
use Rattle.rules.specs.declared.answer.Denial.{Denial}
use Rattle.rules.specs.declared.answer.Denial.TheVariants.{Refused as DenialRefused, Aborted as DenialAborted}
use Rattle.rules.specs.declared.answer.Worked.{Worked}
use Rattle.rules.specs.declared.answer.Worked.TheVariants.{Left as WorkedLeft, Done as WorkedDone}
use Rattle.held.specs.declared.answer.Refused.{Refused}
use Rattle.held.specs.declared.answer.Denied.{Denied}
use Rattle.held.specs.declared.answer.Denied.TheVariants.{Refused as DeniedRefused, Aborted as DeniedAborted}
use Rattle.held.specs.declared.answer.Reading.{Reading}
use Rattle.held.specs.declared.answer.Committing.{Committing}
use Rattle.held.specs.declared.answer.Committing.TheVariants.{Committed, NothingLogged}
use Rattle.held.specs.declared.answer.Working.{Working}
use Rattle.held.specs.declared.answer.Working.TheVariants.{Left, Done}
use Rattle.held.specs.declared.transaction.OpenTransaction.{OpenTransaction}
use Rattle.held.specs.declared.transaction.CommittedTransaction.{CommittedTransaction}

-- Begin answers the start.
abbrev pub begin_reply : Result (OpenTransaction × ℕ) Refusal → Result ℕ Refusal
begin_reply (Ok answer) = Ok answer.1
begin_reply (Err refusal) = Err refusal

-- A denied call answers its refusal, or the same abort.
abbrev pub denied_reply : Denied → Denial
denied_reply (DeniedRefused refused) = DenialRefused refused.refusal
denied_reply (DeniedAborted abort) = DenialAborted abort

-- Read answers the cell and the number compared.
module _ {C : Type 0} where
  abbrev pub read_reply : Result (Reading C) Denied → Result (C × ℕ) Denial
  read_reply (Ok reading) = Ok (reading.cell, reading.compared)
  read_reply (Err denied) = Err (denied_reply denied)

-- Write answers the logged count.
abbrev pub write_reply : Result (OpenTransaction × ℕ) (Refused OpenTransaction) → Result ℕ Refusal
write_reply (Ok answer) = Ok answer.1
write_reply (Err refused) = Err refused.refusal

-- Commit answers the place, if there is one, and the number compared.
abbrev pub commit_reply : Result Committing Denied → Result (Option ℕ × ℕ) Denial
commit_reply (Ok (Committed transaction place compared)) = Ok (Some place, compared)
commit_reply (Ok (NothingLogged compared)) = Ok (None, compared)
commit_reply (Err denied) = Err (denied_reply denied)

-- Work answers how many cells are left, or done with the place.
abbrev pub work_reply : Result Working (Refused CommittedTransaction) → Result Worked Refusal
work_reply (Ok (Left transaction cells)) = Ok (WorkedLeft cells)
work_reply (Ok (Done place)) = Ok (WorkedDone place)
work_reply (Err refused) = Err refused.refusal

-- Quit answers the logged count.
abbrev pub quit_reply : Result ℕ (Refused OpenTransaction) → Result ℕ Refusal
quit_reply (Ok logged) = Ok logged
quit_reply (Err refused) = Err refused.refusal
