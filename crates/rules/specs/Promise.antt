-- The main promise: any chain of calls, and the three statements that hold after each of its calls.
use Rattle.std.specs.Prelude.{◌≡◌, ℕ, ◌+◌, ◌-◌, ◌<◌, ◌≤◌, List, Ok, Result, ◌≢◌, slice_index_or}
use Rattle.cells.specs.declared.refusal.Refusal.{Refusal}
use Rattle.filters.specs.declared.filter.Filter.{Ghosts}
use Rattle.rules.specs.declared.answer.Worked.{Worked}
use Rattle.rules.specs.Book.{writing, Page, Book, opening, entered, outstanding_of, laid, place_of}
use Rattle.rules.specs.Calls.{work, Call, by, outstanding, Reply}
use Rattle.rules.specs.Faults.{Accepts}
use Rattle.rules.specs.Lists.{At}
use Rattle.rules.specs.Making.{Makes}
use Rattle.rules.specs.State.{State}
use Rattle.rules.specs.Steps.{Step}

-- x is an element of xs.
pub record In {X : Type 0} (xs : List X) (x : X) : Type 0 where
  pub index : ℕ
  pub there : At xs index x

module _ {F C : Type 0} (Φ : Ghosts F) where
  -- A chain: an accepted making, then calls of any tasks and askings for the outstanding count, accepted or not,
  -- each taking the state exactly as the call before left it. The book is kept along.
  pub data Chain : State F C → Book C → Type 0 where
    made : (asked s : State F C) → Makes Φ asked s → Chain s (opening asked.memory)
    then : {s s' : State F C} {b : Book C} → Chain s b → (call : Call C) (reply : Reply call) → Step Φ s call reply s' → Chain s' (entered b call reply)

module _ {C : Type 0} where
  -- The page is a committed writer at its place that is not finished and owes so many works.
  pub record Unfinished (b : Book C) (p : Page C) (place owes : ℕ) : Type 0 where
    pub page : In b.pages p
    pub standing : p.standing ≡ writing place owes

  -- The oldest unfinished writer has the lowest place.
  pub record Oldest (b : Book C) (p : Page C) (place owes : ℕ) : Type 0 where
    pub unfinished : Unfinished b p place owes
    pub lowest : (q : Page C) (i n : ℕ) → Unfinished b q i n → place ≤ i

  -- The page is its task's newest: the task's calls go there.
  pub record Current (b : Book C) (p : Page C) : Type 0 where
    pub index : ℕ
    pub there : At b.pages index p
    pub newest : (i : ℕ) (q : Page C) → i < index → At b.pages i q → q.task ≢ p.task

  -- The address is in no unfinished writer's log.
  abbrev pub Untouched : Book C → ℕ → Type 0
  Untouched b a = (p : Page C) (place owes : ℕ) → Unfinished b p place owes → (c : C) → In p.log (a, c) → ⊥

  -- Laid down: a cell in no unfinished writer's log holds what the committed logs give, laid down one whole log after another in order of place.
  abbrev pub LaidDown : List C → Book C → Type 0
  LaidDown memory b = (a : ℕ) (c : C) → Untouched b a → slice_index_or memory a c ≡ slice_index_or (laid b b.writers) a c

  -- All values that a transaction was answered from memory are the cells after the first n committed logs.
  abbrev pub Agrees : Book C → Page C → ℕ → Type 0
  Agrees b p n = (a : ℕ) (c : C) → In p.answers (a, c) → At (laid b n) a c

  -- One snapshot: n is the number of writers committed by the last such answer; for a writer at place p it is also p − 1.
  pub record Snapshot (b : Book C) (p : Page C) : Type 0 where
    pub seen : Agrees b p p.seen
    pub committed : 0 < place_of p.standing → Agrees b p (place_of p.standing - 1)

  abbrev pub OneSnapshot : Book C → Type 0
  OneSnapshot b = (p : Page C) → In b.pages p → Snapshot b p

module _ {F C : Type 0} (Φ : Ghosts F) where
  -- Counted and never stuck.
  pub record Counted (s : State F C) (b : Book C) : Type 0 where
    -- Each asking answers the outstanding count of the book.
    pub asked : (reply : Result ℕ Refusal) (s' : State F C) → Step Φ s outstanding reply s' → reply ≡ Ok (outstanding_of b)
    -- Each accepted work lowers it by exactly one.
    pub lowers : (t : ℕ) (w : Worked) (s' : State F C) → Step Φ s (by t work) (Ok w) s' → outstanding_of (entered b (by t work) (Ok w)) + 1 ≡ outstanding_of b
    -- While it is above 0 there is an oldest unfinished writer; its task's calls go to it, and a work for it is not refused.
    pub some : 0 < outstanding_of b → (p : Page C) × (place : ℕ) × (owes : ℕ) × Oldest b p place owes
    pub own : (p : Page C) (place owes : ℕ) → Oldest b p place owes → Current b p
    pub free : (p : Page C) (place owes : ℕ) → Oldest b p place owes → Accepts Φ s (by p.task work)

  -- The three statements.
  pub record Promise (s : State F C) (b : Book C) : Type 0 where
    pub laid_down : LaidDown s.memory b
    pub one_snapshot : OneSnapshot b
    pub counted : Counted s b

  -- After any call of any chain the three statements hold.
  abbrev pub Kept : State F C → (call : Call C) → Reply call → State F C → Type 0
  Kept s call reply s' = (b : Book C) → Chain Φ s b → Chain Φ s' (entered b call reply) × Promise s' (entered b call reply)
