-- The worked runs: a ring of 4, 4 tasks, log length 2, last place 100, 64 words of 0 and the small filter, unless said otherwise.
-- What the writers write may be anything.
use Rattle.std.specs.Prelude.{◌≡◌, ℕ, ◌<◌, List, [], ◌∷◌, ◌++◌, None, Ok, Err}
use Rattle.cells.specs.declared.refusal.Refusal.TheVariants.{RingLength, PlacesSpent, RingFull, MustWait}
use Rattle.cells.specs.Refusals.{number}
use Rattle.rules.specs.declared.answer.Abort.TheVariants.{Conflict, Overrun}
use Rattle.rules.specs.declared.answer.Denial.TheVariants.{Aborted}
use Rattle.rules.specs.Calls.{read, commit}
use Rattle.worked.specs.Makings.{Refuses, Makeable}
use Rattle.worked.specs.Runs.{Event, asks, holds, stamps, ForcedRun, begins, reads, logs, places, commits, refuses, writes_back, finishes, waits}

-- Ring lengths 1 and 1,025 are refused; 2 and 1,024 are made.
pub record RingLimits : Type 0 where
  pub one : Refuses 1 100 RingLength
  pub two : Makeable 2 100
  pub most : Makeable 1024 100
  pub more : Refuses 1025 100 RingLength

-- With last place 1, tasks 0 and 1 log a cell: the second writer's commit is refused. Task 2 commits with nothing logged.
abbrev pub last_place_events : (u v : ℕ) → List Event
last_place_events u v =
    begins 0 0 ++ commits 0 3 u 1 0
    ++ begins 1 0 ++ logs 1 5 v ++ refuses 1 PlacesSpent
    ++ begins 2 0 ++ asks 2 commit (Ok (None, 0)) ∷ []

-- Tasks 0, 1 and 2 begin, then commit cell 3, cell 3 and cell 7. Task 1 must wait for place 1.
abbrev pub waiting : (u v w : ℕ) → List Event
waiting u v w =
    begins 0 0 ++ begins 1 0 ++ begins 2 0
    ++ commits 0 3 u 1 0 ++ commits 1 3 v 2 1 ++ commits 2 7 w 3 2
    ++ waits 1 1

-- After that, work by task 2 leaves 0, and its next must wait for place 2.
abbrev pub in_order_events : (u v w : ℕ) → List Event
in_order_events u v w = waiting u v w ++ writes_back 2 ++ waits 2 2

-- After that, task 3's commit of a cell is refused; once place 1 is done, it gets place 4.
abbrev pub full_ring_events : (address u v w x : ℕ) → List Event
full_ring_events address u v w x =
    in_order_events u v w
    ++ begins 3 0 ++ logs 3 address x ++ refuses 3 RingFull
    ++ finishes 0 1 ++ places 3 4 3

-- Tasks 0, 1 and 2 begin, then commit cells 3, 5 and 3, and places 1 and 2 are finished. Task 0 begins and commits cell 6,
-- then task 1 begins and commits cell 3: slot 1 holds place 5. Task 2's work writes cell 3 all the same, and task 1 must wait for place 3.
abbrev pub taken_over_events : (u v w x y : ℕ) → List Event
taken_over_events u v w x y =
    begins 0 0 ++ begins 1 0 ++ begins 2 0
    ++ commits 0 3 u 1 0 ++ commits 1 5 v 2 1 ++ commits 2 3 w 3 2
    ++ finishes 0 1 ++ finishes 1 2
    ++ begins 0 2 ++ commits 0 6 x 4 1
    ++ begins 1 2 ++ commits 1 3 y 5 2
    ++ stamps 1 5 ∷ holds 3 u ∷ writes_back 2 ++ holds 3 w ∷ waits 1 3

-- Task 0 begins at this start, commits cell 3 and finishes: the place is the next one.
abbrev pub finished_commit : (cell start place : ℕ) → List Event
finished_commit cell start place = begins 0 start ++ commits 0 3 cell place 0 ++ finishes 0 place

-- Task 1 begins at index 0, and four commits of cell 3 are finished.
abbrev pub four_finished : (u v w x : ℕ) → List Event
four_finished u v w x = begins 1 0 ++ finished_commit u 0 1 ++ finished_commit v 1 2 ++ finished_commit w 2 3 ++ finished_commit x 3 4

-- Then it still reaches back to the first of them.
abbrev pub within_reach_events : (u v w x : ℕ) → List Event
within_reach_events u v w x = four_finished u v w x ++ reads 1 9 0 4

-- After five it does not.
abbrev pub out_of_reach_events : (u v w x y : ℕ) → List Event
out_of_reach_events u v w x y = four_finished u v w x ++ finished_commit y 4 5 ++ asks 1 (read 9) (Err (Aborted (Overrun 0))) ∷ []

-- Task 0 reads cell 0, task 1 commits cell 32, and task 0 reads cell 1.
abbrev pub shared_bit_events : (u : ℕ) → List Event
shared_bit_events u = begins 0 0 ++ reads 0 0 0 0 ++ begins 1 0 ++ commits 1 32 u 1 0 ++ asks 0 (read 1) (Err (Aborted (Conflict 1 1))) ∷ []

-- The numbers that the refusals of these runs go by.
pub record Numbers : Type 0 where
  pub ring_length : number RingLength ≡ 1
  pub places_spent : number PlacesSpent ≡ 24
  pub ring_full : number RingFull ≡ 25
  pub must_wait : (place : ℕ) → number (MustWait place) ≡ 26

-- All runs, in one statement.
pub record WorkedRuns : Type 0 where
  pub numbers : Numbers
  pub ring_limits : RingLimits
  pub last_place_reached : (u v : ℕ) → ForcedRun 1 (last_place_events u v)
  pub places_and_waiting : (u v w : ℕ) → ForcedRun 100 (waiting u v w)
  pub strict_finishing : (u v w : ℕ) → ForcedRun 100 (in_order_events u v w)
  pub full_ring : (address : ℕ) → address < 64 → (u v w x : ℕ) → ForcedRun 100 (full_ring_events address u v w x)
  pub slot_taken_over : (u v w x y : ℕ) → ForcedRun 100 (taken_over_events u v w x y)
  pub within_reach : (u v w x : ℕ) → ForcedRun 100 (within_reach_events u v w x)
  pub out_of_reach : (u v w x y : ℕ) → ForcedRun 100 (out_of_reach_events u v w x y)
  pub shared_bit : (u : ℕ) → ForcedRun 100 (shared_bit_events u)
