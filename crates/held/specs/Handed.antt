-- The transaction that an answer hands back is the task's. An ending hands none back.
use Rattle.std.specs.Prelude.{◌≡◌, ℕ, Ok, Err, Result}
use Rattle.cells.specs.declared.refusal.Refusal.{Refusal}
use Rattle.held.specs.declared.answer.Refused.{Refused}
use Rattle.held.specs.declared.answer.Denied.{Denied}
use Rattle.held.specs.declared.answer.Denied.TheVariants.{Refused as DeniedRefused, Aborted}
use Rattle.held.specs.declared.answer.Reading.{Reading}
use Rattle.held.specs.declared.answer.Committing.{Committing}
use Rattle.held.specs.declared.answer.Committing.TheVariants.{Committed, NothingLogged}
use Rattle.held.specs.declared.answer.Working.{Working}
use Rattle.held.specs.declared.answer.Working.TheVariants.{Left, Done}
use Rattle.held.specs.declared.transaction.OpenTransaction.{OpenTransaction}
use Rattle.held.specs.declared.transaction.CommittedTransaction.{CommittedTransaction}

abbrev pub BeginHands : ℕ → Result (OpenTransaction × ℕ) Refusal → Type 0
BeginHands task (Ok answer) = answer.0.task ≡ task
BeginHands task (Err refusal) = Unit {0}

abbrev pub DeniedHands : ℕ → Denied → Type 0
DeniedHands task (DeniedRefused refused) = refused.transaction.task ≡ task
DeniedHands task (Aborted abort) = Unit {0}

module _ {C : Type 0} where
  abbrev pub ReadHands : ℕ → Result (Reading C) Denied → Type 0
  ReadHands task (Ok reading) = reading.transaction.task ≡ task
  ReadHands task (Err denied) = DeniedHands task denied

abbrev pub WriteHands : ℕ → Result (OpenTransaction × ℕ) (Refused OpenTransaction) → Type 0
WriteHands task (Ok answer) = answer.0.task ≡ task
WriteHands task (Err refused) = refused.transaction.task ≡ task

abbrev pub CommitHands : ℕ → Result Committing Denied → Type 0
CommitHands task (Ok (Committed transaction place compared)) = transaction.task ≡ task
CommitHands task (Ok (NothingLogged compared)) = Unit {0}
CommitHands task (Err denied) = DeniedHands task denied

abbrev pub WorkHands : ℕ → Result Working (Refused CommittedTransaction) → Type 0
WorkHands task (Ok (Left transaction cells)) = transaction.task ≡ task
WorkHands task (Ok (Done place)) = Unit {0}
WorkHands task (Err refused) = refused.transaction.task ≡ task

abbrev pub QuitHands : ℕ → Result ℕ (Refused OpenTransaction) → Type 0
QuitHands task (Ok logged) = Unit {0}
QuitHands task (Err refused) = refused.transaction.task ≡ task
