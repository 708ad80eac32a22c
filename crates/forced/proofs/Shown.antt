-- A course of calls played out on the small filter: 4 slots, 4 tasks, 2 pairs, last place 100, 64 words of 0.
use Rattle.std.proofs.Common.{◌≡◌, ℕ, List, [], ◌∷◌, ◌++◌, get_or, replicate, Some, Ok, Err, sym, refl, ap, ◌∙◌}
use Rattle.cells.specs.declared.refusal.Refusal.TheVariants.{TaskNumber, Address, PhaseForbids, LogFull, RingFull, MustWait}
use Rattle.filters.specs.contracts.small.SmallFilter.TheImpl.{ghosts}
use Rattle.filters.specs.declared.small.Small.{Small}
use Rattle.rules.specs.declared.answer.Abort.TheVariants.{Conflict}
use Rattle.rules.specs.declared.answer.Denial.TheVariants.{Refused, Aborted}
use Rattle.rules.specs.declared.answer.Worked.TheVariants.{Left, Done}
use Rattle.rules.specs.declared.ring.Status.TheVariants.{Complete}
use Rattle.rules.specs.declared.table.Phase.TheVariants.{Idle}
use Rattle.rules.specs.Calls.{Call, by, outstanding, begin, read, write, commit, work, Reply}
use Rattle.forced.specs.Exactness.{empty_bits, small_exact}
use Rattle.forced.specs.Play.{entry_at, settled_from, check_down, verdict, blocking_down, find, inside_all, fitsb, wholeb, whole_from, wait_for, own, judge_record, judge, accepted, play, blank}
use Rattle.rules.specs.State.{State}
use Rattle.rules.specs.Steps.{Step}
use Rattle.forced.proofs.Played.{plays}

-- The state after making.
abbrev made : State Small ℕ
made = record { slots = 4; tasks = 4; pairs = 2; last = 100; size = 64; index = 0; memory = replicate 64 0; ring = replicate 4 (record { stamp = 0; filter = empty_bits; status = Complete }); table = replicate 4 (blank small_exact Idle 0); addresses = replicate 8 0; cells = replicate 8 0 }

-- The state after these calls, in their order.
unfoldable after : State Small ℕ → List (Call ℕ) → State Small ℕ
unfolding play accepted judge judge_record own wait_for fitsb wholeb whole_from inside_all find blocking_down verdict check_down settled_from entry_at
after s [] = s
after s (call ∷ calls) = after (play ghosts small_exact s call).1 calls

-- What a call is answered after these calls.
abbrev says : List (Call ℕ) → (call : Call ℕ) → Reply call
says calls call = (play ghosts small_exact (after made calls) call).0

-- Tasks 0 and 1 begin, each writes and reads, and task 0 commits.
abbrev course : List (Call ℕ)
course = by 0 begin ∷ by 1 begin ∷ by 0 (write 5 7) ∷ by 1 (read 5) ∷ by 1 (write 6 8) ∷ by 0 commit ∷ []

-- A transaction begins at place 0, where nothing is committed.
begin_says : says [] (by 0 begin) ≡ Ok 0
unfolding after play
begin_says = refl

-- A task reads what it logged, with nothing compared.
logged_says : says (by 0 begin ∷ by 0 (write 5 7) ∷ []) (by 0 (read 5)) ≡ Ok (7, 0)
unfolding after play
logged_says = refl

-- The first writer takes place 1.
commit_says : says (by 0 begin ∷ by 0 (write 5 7) ∷ []) (by 0 commit) ≡ Ok (Some 1, 0)
unfolding after play
commit_says = refl

-- Task 1 has read what task 0 logged: one filter is compared, and it meets.
conflict_says : says course (by 1 commit) ≡ Err (Aborted (Conflict 1 1))
unfolding after play
conflict_says = refl

-- The writer writes its one cell, and none is left.
work_says : says course (by 0 work) ≡ Ok (Left 0)
unfolding after play
work_says = refl

-- With none left it is done at its place.
done_says : says (course ++ by 0 work ∷ []) (by 0 work) ≡ Ok (Done 1)
unfolding after play
done_says = refl

-- The logged cell is in the memory once it is written.
written : get_or (after made (course ++ by 0 work ∷ [])).memory 5 0 ≡ 7
unfolding after play
written = refl

-- What is owed: one for the cell and one more.
owed_says : says course outstanding ≡ Ok 2
unfolding after play
owed_says = refl

-- Task 2 logs the same address after task 0 has: it begins at place 0, passes no place that it read, and takes place 2.
abbrev second : List (Call ℕ)
second = course ++ by 2 begin ∷ by 2 (write 5 9) ∷ by 2 commit ∷ []

-- It must wait for place 1, whose filter meets its own.
wait_says : says second (by 2 work) ≡ Err (MustWait 1)
unfolding after play
wait_says = refl

-- Where several refusals hold, the lowest number is answered: first the task, then the address, then the phase.
refused_says : says second (by 4 (read 64)) ≡ Err (Refused TaskNumber)
unfolding after play
refused_says = refl

outside_says : says second (by 3 (read 64)) ≡ Err (Refused Address)
unfolding after play
outside_says = refl

forbidden_says : says second (by 3 (read 63)) ≡ Err (Refused PhaseForbids)
unfolding after play
forbidden_says = refl

-- A third address finds the log full.
full_says : says (by 3 begin ∷ by 3 (write 1 1) ∷ by 3 (write 2 1) ∷ []) (by 3 (write 3 1)) ≡ Err LogFull
unfolding after play
full_says = refl

-- A ring of 4 slots takes three unfinished writers: the fourth is refused, though its own slot is vacant.
ring_says : says (by 0 begin ∷ by 0 (write 1 1) ∷ by 0 commit ∷ by 1 begin ∷ by 1 (write 2 1) ∷ by 1 commit ∷ by 2 begin ∷ by 2 (write 3 1) ∷ by 2 commit ∷ by 3 begin ∷ by 3 (write 4 1) ∷ []) (by 3 commit) ≡ Err (Refused RingFull)
unfolding after play
ring_says = refl

-- So the rules leave a call no other answer.
conflict_forced : (reply : Reply {C = ℕ} (by 1 commit)) (s' : State Small ℕ) → Step ghosts (after made course) (by 1 commit) reply s' → reply ≡ Err (Aborted (Conflict 1 1))
conflict_forced reply s' step = sym (ap (λ (p : Reply {C = ℕ} (by 1 commit) × State Small ℕ). p.0) (plays ghosts small_exact (after made course) (by 1 commit) reply s' step)) ∙ conflict_says
