-- The book: what took place, kept from calls and answers alone.
use Rattle.std.specs.Prelude.{ℕ, zero, suc, ◌+◌, ◌-◌, Bool, true, false, cond, List, [], ◌∷◌, length, Some, None, Ok, Err, sum_by, Option, ◌==◌, slice_set}
use Rattle.rules.specs.declared.answer.Worked.{Worked}
use Rattle.rules.specs.declared.answer.Worked.TheVariants.{Left, Done}
use Rattle.rules.specs.Calls.{Act, begin, read, write, commit, work, quit, Call, by, outstanding, ActReply, Reply}

-- How far a transaction has come: not committed with a place, or a committed writer at its place that owes so many works, or a finished writer.
pub data Standing : Type 0 where
  running : Standing
  writing : (place owes : ℕ) → Standing
  finished : (place : ℕ) → Standing

-- An accepted work takes one off; one that answers done finishes the writer.
abbrev pub worked : Worked → Standing → Standing
worked w running = running
worked (Left left) (writing place owes) = writing place (owes - 1)
worked (Done at) (writing place owes) = finished place
worked w (finished place) = finished place

-- One transaction: its task, its log as pairs of address and cell in order, the pairs that it was answered from memory,
-- and how many writers had committed by the last such answer.
pub record Page (C : Type 0) : Type 0 where
  pub task : ℕ
  pub log : List (ℕ × C)
  pub answers : List (ℕ × C)
  pub seen : ℕ
  pub standing : Standing

-- The memory at making, the pages with the newest first, and how many writers have committed.
pub record Book (C : Type 0) : Type 0 where
  pub origin : List C
  pub pages : List (Page C)
  pub writers : ℕ

module _ {C : Type 0} where
  -- The book at making.
  abbrev pub opening : List C → Book C
  opening cells = record { origin = cells; pages = []; writers = 0 }

  -- A new page: a transaction with an empty log.
  abbrev pub new_page : ℕ → Page C
  new_page t = record { task = t; log = []; answers = []; seen = 0; standing = running }

  -- The address is among the pairs.
  abbrev pub is_logged : ℕ → List (ℕ × C) → Bool
  is_logged a [] = false
  is_logged a (p ∷ ps) = cond (p.0 == a) true (is_logged a ps)

  -- A write sets the log's pair for its address or appends one.
  abbrev pub log_write : ℕ → C → List (ℕ × C) → List (ℕ × C)
  log_write a c [] = (a, c) ∷ []
  log_write a c (p ∷ ps) = cond (p.0 == a) ((a, c) ∷ ps) (p ∷ log_write a c ps)

  -- A change of the newest page of task t, the one that its calls go to.
  abbrev pub on_page : ℕ → (Page C → Page C) → List (Page C) → List (Page C)
  on_page t f [] = []
  on_page t f (p ∷ ps) = cond (p.task == t) (f p ∷ ps) (p ∷ on_page t f ps)

  -- An accepted write.
  abbrev pub page_write : ℕ → C → Page C → Page C
  page_write a c p = record { task = p.task; log = log_write a c p.log; answers = p.answers; seen = p.seen; standing = p.standing }

  -- A read answered with a cell: where its address is not in the log it is answered from memory.
  abbrev pub page_read : ℕ → ℕ → C → Page C → Page C
  page_read writers a c p = cond (is_logged a p.log) p (record { task = p.task; log = p.log; answers = (a, c) ∷ p.answers; seen = writers; standing = p.standing })

  -- A commit answered with a place: a committed writer there, owing one for each pair and one more.
  abbrev pub page_commit : ℕ → Page C → Page C
  page_commit place p = record { task = p.task; log = p.log; answers = p.answers; seen = p.seen; standing = writing place (length p.log + 1) }

  abbrev pub page_work : Worked → Page C → Page C
  page_work w p = record { task = p.task; log = p.log; answers = p.answers; seen = p.seen; standing = worked w p.standing }

  -- The book with other pages.
  abbrev pub with_pages : Book C → List (Page C) → Book C
  with_pages b pages = record { origin = b.origin; pages = pages; writers = b.writers }

  abbrev pub entered_commit : Book C → ℕ → Option ℕ → Book C
  entered_commit b t None = b
  entered_commit b t (Some place) = record { origin = b.origin; pages = on_page t (page_commit place) b.pages; writers = b.writers + 1 }

  -- The book after a task's call and its answer. All that is not named changes no page.
  abbrev pub entered_act : Book C → ℕ → (act : Act C) → ActReply act → Book C
  entered_act b t begin (Ok start) = with_pages b (new_page t ∷ b.pages)
  entered_act b t begin (Err refusal) = b
  entered_act b t (read a) (Ok answer) = with_pages b (on_page t (page_read b.writers a answer.0) b.pages)
  entered_act b t (read a) (Err denial) = b
  entered_act b t (write a c) (Ok count) = with_pages b (on_page t (page_write a c) b.pages)
  entered_act b t (write a c) (Err refusal) = b
  entered_act b t commit (Ok answer) = entered_commit b t answer.0
  entered_act b t commit (Err denial) = b
  entered_act b t work (Ok w) = with_pages b (on_page t (page_work w) b.pages)
  entered_act b t work (Err refusal) = b
  entered_act b t quit (Ok count) = b
  entered_act b t quit (Err refusal) = b

  -- The book after any call and its answer.
  abbrev pub entered : Book C → (call : Call C) → Reply call → Book C
  entered b (by t act) reply = entered_act b t act reply
  entered b outstanding reply = b

-- What an unfinished writer owes.
abbrev pub owed : Standing → ℕ
owed running = 0
owed (writing place owes) = owes
owed (finished place) = 0

-- The standing of a committed writer at this place, unfinished or finished.
pub data WriterAt (place : ℕ) : Standing → Type 0 where
  unfinished : (owes : ℕ) → WriterAt place (writing place owes)
  done : WriterAt place (finished place)

-- The place at which a writer has committed, 0 where it has not.
abbrev pub place_of : Standing → ℕ
place_of running = 0
place_of (writing place owes) = place
place_of (finished place) = place

module _ {C : Type 0} where
  -- The outstanding count: what unfinished writers owe together.
  abbrev pub outstanding_of : Book C → ℕ
  outstanding_of b = sum_by (λ (p : Page C). owed p.standing) b.pages

  -- The log of the writer at a place, empty where there is none.
  abbrev pub log_in : List (Page C) → ℕ → List (ℕ × C)
  log_in [] place = []
  log_in (p ∷ ps) place = cond (place_of p.standing == place) p.log (log_in ps place)

  -- One whole log laid over cells, pair after pair.
  abbrev pub overlaid : List C → List (ℕ × C) → List C
  overlaid cells [] = cells
  overlaid cells (p ∷ ps) = overlaid (slice_set cells p.0 p.1) ps

  -- The cells after the first k committed logs: the memory at making with the logs of places 1 to k laid over it in that order.
  unfoldable pub laid : Book C → ℕ → List C
  laid b zero = b.origin
  laid b (suc k) = overlaid (laid b k) (log_in b.pages (suc k))
