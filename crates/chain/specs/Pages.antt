-- What a book's pages say: what a log has, what pages owe together, and the cells that committed logs give.
use Rattle.std.specs.Prelude.{◌≡◌, ◌≢◌, ◌⊎◌, ◌+◌, ◌-◌, ◌∷◌, ◌++◌, cond, vec_items, IfSome, HoldsAt, MatchBool, ℕ, ◌<◌, ◌≤◌, length, slice_index_or, Ok, Err, Result, zero, suc, Bool, true, false, List, [], replicate, set, is_some, Some, None, fold, sum_by, count_by, find, All, Any, Option, ◌&&◌, ◌==◌, slice_index}
use Rattle.std.specs.BTreeMap.{BTreeMap, get, insert_entry, btree_map_len}
use Rattle.std.specs.Ordering.{nat_cmp}
use Rattle.chain.specs.declared.book.Page.{Page}
use Rattle.chain.specs.declared.book.Pair.{Pair}
use Rattle.chain.specs.declared.book.Phase.{Phase}
use Rattle.chain.specs.declared.book.Phase.TheVariants.{Open, Committed, Finished}
use Rattle.chain.specs.declared.answer.Effect.{Effect}
use Rattle.chain.specs.declared.answer.Effect.TheVariants.{Began, Read, Wrote, Committed as CommitsAt, Worked as Works, Quit}
use Rattle.chain.specs.declared.moves.Act.{Act}
use Rattle.chain.specs.declared.moves.Act.TheVariants.{Begin, Read as ReadAt, Write as WriteAt, Commit, Work, Quit as Leave}
use Rattle.rules.specs.declared.answer.Denial.{Denial}
use Rattle.rules.specs.declared.answer.Worked.{Worked}
use Rattle.rules.specs.declared.answer.Worked.TheVariants.{Left, Done}

-- Whether the log has a cell of this address.
abbrev pub logs : BTreeMap ℕ ℕ → ℕ → Bool
logs log a = is_some (get nat_cmp log a)

-- A write sets the pair of its address or inserts one.
abbrev pub Logged : BTreeMap ℕ ℕ → Pair → BTreeMap ℕ ℕ → Type 0
Logged log p after = after.entries ≡ insert_entry nat_cmp log.entries p.address p.cell

-- Every pair is a cell of its address.
abbrev pub Agree : List Pair → List ℕ → Type 0
Agree answers cells = All (λ p. slice_index cells p.address ≡ p.cell) answers

-- The place of a committed writer.
abbrev pub phase_place : Phase → Option ℕ
phase_place Open = None
phase_place (Committed place owes) = Some place
phase_place (Finished place) = Some place

abbrev pub place_of : Page → Option ℕ
place_of p = phase_place p.phase

abbrev pub in_work : Phase → Bool
in_work Open = false
in_work (Committed place owes) = true
in_work (Finished place) = false

-- The page is a committed writer that is not finished.
abbrev pub unfinished : Page → Bool
unfinished p = in_work p.phase

abbrev pub phase_debt : Phase → ℕ
phase_debt Open = 0
phase_debt (Committed place owes) = owes
phase_debt (Finished place) = 0

-- The work that finishes a writer.
abbrev pub is_done : Worked → Bool
is_done (Left cells) = false
is_done (Done place) = true

-- What an unfinished writer owes; no other page owes anything.
abbrev pub debt : Page → ℕ
debt p = phase_debt p.phase

abbrev pub debts : List Page → ℕ
debts ps = sum_by debt ps

abbrev pub writers : List Page → ℕ
writers ps = count_by (λ p. is_some (place_of p)) ps

abbrev pub holds : Option ℕ → ℕ → Bool
holds None place = false
holds (Some at) place = at == place

-- The page is the writer at this place.
abbrev pub is_at : Page → ℕ → Bool
is_at p place = holds (place_of p) place

abbrev pub log_of : Option Page → List (ℕ × ℕ)
log_of None = []
log_of (Some p) = p.log.entries

-- The log of the writer at this place.
abbrev pub log_at : List Page → ℕ → List (ℕ × ℕ)
log_at ps place = log_of (find (λ p. is_at p place) ps)

-- The cells with every pair of the log laid over them. A pair past the last cell changes nothing.
abbrev pub laid : List (ℕ × ℕ) → List ℕ → List ℕ
laid log cells = fold (λ cs e. set cs e.0 e.1) cells log

-- Twelve cells of 0 with the logs of places 1 to n laid over them, in order of place.
abbrev pub after : List Page → ℕ → List ℕ
after ps zero = replicate 12 0
after ps (suc n) = laid (log_at ps (suc n)) (after ps n)

-- The page is an unfinished writer whose log has the address.
abbrev pub busy : Page → ℕ → Bool
busy p a = unfinished p && logs p.log a

-- An unfinished writer's log has the address.
abbrev pub Writing : List Page → ℕ → Type 0
Writing ps a = Any (λ p. busy p a ≡ true) ps

-- The first place is not above the second.
abbrev pub NotAbove : Option ℕ → Option ℕ → Type 0
NotAbove None at = Unit {0}
NotAbove (Some place) None = ⊥
NotAbove (Some place) (Some at) = place ≤ at

-- The page is an unfinished writer, and no unfinished writer has a lower place.
abbrev pub IsOldest : List Page → Page → Type 0
IsOldest ps p = (unfinished p ≡ true) × All (λ q. unfinished q ≡ true → NotAbove (place_of p) (place_of q)) ps

-- Whose turn it is: the task of the oldest unfinished writer, if any writer is unfinished.
abbrev pub Oldest : List Page → Option ℕ → Type 0
Oldest ps None = All (λ p. unfinished p ≡ false) ps
Oldest ps (Some task) = Any (λ p. (p.task ≡ task) × IsOldest ps p) ps

-- The pages of other tasks stay as they are.
abbrev pub OthersStay : ℕ → List Page → List Page → Type 0
OthersStay task before after = (k : ℕ) (d : Page) → k < length before → (slice_index_or before k d).task ≢ task → slice_index_or after k d ≡ slice_index_or before k d

-- The page at this index is the last one of the task.
abbrev pub IsLatest : ℕ → List Page → ℕ → Type 0
IsLatest task ps k = (k < length ps) × HoldsAt (λ p. p.task ≡ task) ps k × ((j : ℕ) (d : Page) → k < j → j < length ps → (slice_index_or ps j d).task ≢ task)

-- The pair that a call writes.
abbrev pub written : Act → Option Pair
written Begin = None
written (ReadAt address) = None
written (WriteAt address value) = Some (record { address = address; cell = value })
written Commit = None
written Work = None
written Leave = None

-- The pair that a call has read, if it was answered this cell.
abbrev pub taken : Act → ℕ → Option Pair
taken Begin cell = None
taken (ReadAt address) cell = Some (record { address = address; cell = cell })
taken (WriteAt address value) cell = None
taken Commit cell = None
taken Work cell = None
taken Leave cell = None

-- A cell of the page's own log is no answer from memory.
abbrev pub Answered : Pair → ℕ → Page → Page → Type 0
Answered pair committed p q = MatchBool (logs p.log pair.address) (vec_items q.answers ≡ vec_items p.answers) ((q.seen ≡ committed) × (vec_items q.answers ≡ vec_items p.answers ++ pair ∷ []))

-- What an accepted call leaves on the page of its transaction, with so many writers committed before it.
abbrev pub Noted : Act → Effect → ℕ → Page → Page → Type 0
Noted act (Began start) committed p q = Unit {0}
Noted act (Read cell compared) committed p q = IfSome (taken act cell) (λ pair. Answered pair committed p q)
Noted act (Wrote logged) committed p q = IfSome (written act) (λ pair. Logged p.log pair q.log)
Noted act (CommitsAt None compared) committed p q = Unit {0}
Noted act (CommitsAt (Some place) compared) committed p q = (place_of q ≡ Some place) × (debt q ≡ btree_map_len p.log + 1)
Noted act (Works worked) committed p q = (place_of q ≡ place_of p) × (debt q ≡ cond (is_done worked) 0 (debt p - 1))
Noted act (Quit logged) committed p q = Unit {0}

-- The call is noted on the latest page of its task, if it has any.
abbrev pub NotedOnLatest : ℕ → Act → Effect → List Page → List Page → Type 0
NotedOnLatest task act effect before after = All (λ p. p.task ≢ task) before ⊎ ((k : ℕ) × IsLatest task before k × ((d : Page) → Noted act effect (writers before) (slice_index_or before k d) (slice_index_or after k d)))

-- How many pages a call opens: one if it begins a transaction.
abbrev pub opened_by : Effect → ℕ
opened_by (Began start) = 1
opened_by (Read cell compared) = 0
opened_by (Wrote logged) = 0
opened_by (CommitsAt place compared) = 0
opened_by (Works worked) = 0
opened_by (Quit logged) = 0

abbrev pub opened : Result Effect Denial → ℕ
opened (Ok effect) = opened_by effect
opened (Err denial) = 0
