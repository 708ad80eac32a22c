-- Every step keeps what holds, so it holds after every call of a chain.
use Rattle.std.proofs.Common.{ℕ, Some, None, Ok, Err, Option, sym, subst, inl, inr}
use Rattle.cells.specs.declared.refusal.Refusal.{Refusal}
use Rattle.filters.specs.declared.filter.Filter.{Ghosts}
use Rattle.rules.specs.declared.answer.Denial.{Denial}
use Rattle.rules.specs.declared.answer.Denial.TheVariants.{Refused, Aborted}
use Rattle.rules.specs.declared.answer.Worked.{Worked}
use Rattle.rules.specs.declared.answer.Worked.TheVariants.{Left, Done}
use Rattle.rules.specs.Book.{Book, entered, entered_commit, with_pages, on_page, page_work}
use Rattle.rules.specs.Calls.{begin, read, write, commit, work, quit, Call, by, outstanding, Reply}
use Rattle.rules.specs.Promise.{Chain, made, then}
use Rattle.rules.specs.State.{State}
use Rattle.rules.specs.Steps.{RefusedStep, ReadDenied, CommitDenied, CommitTaken, Works, Step}
use Rattle.promise.proofs.Promised.Accepting.{read_open, commit_open, quit_open}
use Rattle.promise.proofs.Promised.Beginning.{begins}
use Rattle.promise.proofs.Promised.Committing.{commits}
use Rattle.promise.proofs.Promised.Emptying.{empties}
use Rattle.promise.proofs.Promised.Finishing.{finishes}
use Rattle.promise.proofs.Promised.Invariant.{Inv}
use Rattle.promise.proofs.Promised.Laws.{Lawful}
use Rattle.promise.proofs.Promised.Logging.{replaces, appends}
use Rattle.promise.proofs.Promised.Made.{made_holds}
use Rattle.promise.proofs.Promised.Reading.{reads_logged, reads_memory}
use Rattle.promise.proofs.Promised.WritingBack.{writes_back_lem}

module _ {F C : Type 0} (Φ : Ghosts F) (laws : Lawful Φ) where
  module _ {s : State F C} {b : Book C} (inv : Inv Φ s b) (s' : State F C) where
    -- A refused call changes nothing.
    refused : (call : Call C) (refusal : Refusal) → RefusedStep Φ s call refusal s' → Inv Φ s' b
    refused call refusal step = subst (λ (z : State F C). Inv Φ z b) (sym step.after) inv

    -- A read that is denied changes nothing or empties the record.
    read_denied : (t a : ℕ) (denial : Denial) → ReadDenied Φ s t a denial s' → Inv Φ s' b
    read_denied t a (Refused refusal) step = refused (by t (read a)) refusal step
    read_denied t a (Aborted abort) step = empties Φ inv t step.0.task step.0.there (read_open Φ s t step.0.task step.0.there a step.0.accepts) s' step.1

    -- So does a commit that is denied.
    commit_denied : (t : ℕ) (denial : Denial) → CommitDenied Φ s t denial s' → Inv Φ s' b
    commit_denied t (Refused refusal) step = refused (by t commit) refusal step
    commit_denied t (Aborted abort) step = empties Φ inv t step.0.task step.0.there (commit_open Φ s t step.0.task step.0.there step.0.accepts) s' step.1

    -- A commit that is taken empties the record or makes a writer.
    commit_taken : (t : ℕ) (place : Option ℕ) (compared : ℕ) → CommitTaken Φ s t place compared s' → Inv Φ s' (entered_commit b t place)
    commit_taken t None compared step = empties Φ inv t step.task step.there (commit_open Φ s t step.task step.there step.accepts) s' step.empties
    commit_taken t (Some place) compared step = commits Φ laws inv t place compared s' step

    -- A work writes a cell back or finishes the writer.
    works : (t : ℕ) (w : Worked) → Works Φ s t w s' → Inv Φ s' (with_pages b (on_page t (page_work w) b.pages))
    works t (Left left) step = writes_back_lem Φ laws inv t left s' step
    works t (Done place) step = finishes Φ inv t place s' step

    -- Each step of each call keeps what holds.
    keeps : (call : Call C) (reply : Reply call) → Step Φ s call reply s' → Inv Φ s' (entered b call reply)
    keeps (by t begin) (Ok start) step = begins Φ inv t start s' step
    keeps (by t begin) (Err refusal) step = refused (by t begin) refusal step
    keeps (by t (read a)) (Ok answer) (inl step) = reads_logged Φ laws inv t a answer s' step
    keeps (by t (read a)) (Ok answer) (inr step) = reads_memory Φ laws inv t a answer s' step
    keeps (by t (read a)) (Err denial) step = read_denied t a denial step
    keeps (by t (write a c)) (Ok count) (inl step) = replaces Φ laws inv t a c count s' step
    keeps (by t (write a c)) (Ok count) (inr step) = appends Φ laws inv t a c count s' step
    keeps (by t (write a c)) (Err refusal) step = refused (by t (write a c)) refusal step
    keeps (by t commit) (Ok answer) step = commit_taken t answer.0 answer.1 step
    keeps (by t commit) (Err denial) step = commit_denied t denial step
    keeps (by t work) (Ok w) step = works t w step
    keeps (by t work) (Err refusal) step = refused (by t work) refusal step
    keeps (by t quit) (Ok count) step = empties Φ inv t step.task step.there (quit_open Φ s t step.task step.there step.accepts) s' step.empties
    keeps (by t quit) (Err refusal) step = refused (by t quit) refusal step
    keeps outstanding (Ok count) step = subst (λ (z : State F C). Inv Φ z b) (sym step.after) inv
    keeps outstanding (Err refusal) step = refused outstanding refusal step

  -- What holds after making holds after every call.
  pub chain_holds : {s : State F C} {b : Book C} → Chain Φ s b → Inv Φ s b
  chain_holds (made asked s makes) = made_holds Φ asked s makes
  chain_holds (then {s' = s'} before call reply step) = keeps (chain_holds before) s' call reply step
