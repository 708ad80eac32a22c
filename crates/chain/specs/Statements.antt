-- The three statements of the main promise, over the pages of a book.
use Rattle.std.specs.Prelude.{◌≡◌, ℕ, ◌+◌, ◌-◌, ◌<◌, ◌⊎◌, Bool, true, false, List, Ok, Err, Some, None, vec_items, Option, slice_index, All}
use Rattle.chain.specs.declared.book.Page.{Page}
use Rattle.chain.specs.declared.book.Pair.{Pair}
use Rattle.chain.specs.declared.answer.Effect.{Effect}
use Rattle.chain.specs.declared.answer.Effect.TheVariants.{Began, Read, Wrote, Committed, Worked, Quit}
use Rattle.chain.specs.declared.moves.Act.TheVariants.{Work}
use Rattle.chain.specs.declared.statements.Turn.{Turn}
use Rattle.chain.specs.Pages.{Agree, Writing, after, debts, place_of, writers}
use Rattle.cells.specs.declared.refusal.Refusal.{Refusal}
use Rattle.rules.specs.declared.answer.Denial.TheVariants.{Refused}

-- A cell in no unfinished writer's log holds what the committed logs give.
abbrev pub LaidAt : List Page → List ℕ → ℕ → Type 0
LaidAt ps cells a = (slice_index cells a ≡ slice_index (after ps (writers ps)) a) ⊎ Writing ps a

abbrev pub LaidDown : List Page → List ℕ → Type 0
LaidDown ps cells = (a : ℕ) → a < 12 → LaidAt ps cells a

-- For a writer: its answers are also the cells after the places before its own.
abbrev pub AgreeBefore : List Page → List Pair → Option ℕ → Type 0
AgreeBefore ps answers None = Unit {0}
AgreeBefore ps answers (Some place) = Agree answers (after ps (place - 1))

abbrev pub AtItsTime : List Page → Page → Type 0
AtItsTime ps p = Agree (vec_items p.answers) (after ps p.seen) × AgreeBefore ps (vec_items p.answers) (place_of p)

-- Every page's answers from memory are the cells of one moment.
abbrev pub OneSnapshot : List Page → Type 0
OneSnapshot ps = All (AtItsTime ps) ps

abbrev pub works : Effect → Bool
works (Began start) = false
works (Read cell compared) = false
works (Wrote logged) = false
works (Committed place compared) = false
works (Worked worked) = true
works (Quit logged) = false

-- An accepted work lowers the outstanding count by one.
abbrev pub Lowers : Turn → Type 0
Lowers turn = (effect : Effect) → turn.answer ≡ Ok effect → works effect ≡ true → turn.after + 1 ≡ turn.before

-- A work of the oldest unfinished writer is not refused.
abbrev pub NotStuck : Turn → Type 0
NotStuck turn = turn.call.act ≡ Work → turn.oldest ≡ Some turn.call.task → (refusal : Refusal) → turn.answer ≡ Err (Refused refusal) → ⊥

-- The count is what unfinished writers owe together, each work lowers it by one, and the oldest writer can go on.
abbrev pub Counted : List Page → Turn → Type 0
Counted ps turn = (turn.after ≡ debts ps) × Lowers turn × NotStuck turn
