-- What holds of the state and the book after every call of a chain.
use Rattle.std.proofs.Common.{◌≡◌, ℕ, ◌+◌, ◌-◌, ◌<◌, ◌≤◌, List, ap}
use Rattle.filters.specs.declared.filter.Filter.{Ghosts}
use Rattle.rules.specs.declared.table.Phase.{Phase}
use Rattle.rules.specs.declared.table.Phase.TheVariants.{Idle, Open, Committed}
use Rattle.rules.specs.declared.table.TaskRecord.{TaskRecord}
use Rattle.rules.specs.Book.{Page, Book, log_in}
use Rattle.rules.specs.State.{State, Fits}
use Rattle.rules.specs.Steps.{owes, owes_in}
use Rattle.promise.proofs.Promised.Memory.{Core}
use Rattle.promise.proofs.Promised.Pages.{Snaps, Owners, Balanced}
use Rattle.promise.proofs.Promised.Order.{InOrder}
use Rattle.promise.proofs.Promised.Ring.{Ring}
use Rattle.promise.proofs.Promised.Tasks.{Scene, Tasks, Alone, Backed}

module _ {F : Type 0} where
  -- What a record owes, by its phase.
  pub owes_idle : (r : TaskRecord F) → r.phase ≡ Idle → owes r ≡ 0
  owes_idle r is = ap (λ (p : Phase). owes_in p r.logged r.written) is

  pub owes_open : (r : TaskRecord F) → r.phase ≡ Open → owes r ≡ 0
  owes_open r is = ap (λ (p : Phase). owes_in p r.logged r.written) is

  pub owes_committed : (r : TaskRecord F) → r.phase ≡ Committed → owes r ≡ r.logged - r.written + 1
  owes_committed r is = ap (λ (p : Phase). owes_in p r.logged r.written) is

module _ {F C : Type 0} where
  -- What the facts of the tasks speak of.
  abbrev pub scene : State F C → List (Page C) → (ℕ → List (ℕ × C)) → (ℕ → ℕ) → Scene C
  scene s pages log debts = record { addresses = s.addresses; cells = s.cells; pages = pages; log = log; debts = debts; count = s.index }

  -- The log of the writer at each place and what it owes, with what the state and the book say of them.
  pub record Inv (Φ : Ghosts F) (s : State F C) (b : Book C) : Type 0 where
    pub log : ℕ → List (ℕ × C)
    pub debts : ℕ → ℕ
    -- the lengths and the limits; as many writers as the index
    pub fits : Fits s
    pub small : s.size ≤ 65536
    pub count : b.writers ≡ s.index
    -- the memory, the ring, and the order in which writers finish
    pub core : Core s.size s.memory b.origin log debts s.index
    pub ring : Ring Φ s.slots s.ring log debts s.index
    pub order : InOrder debts s.index
    -- the pages: the log at each place, the snapshots, the unfinished writers
    pub tied : (i : ℕ) → 0 < i → log_in b.pages i ≡ log i
    pub snaps : Snaps b.origin b.pages log s.index
    pub owners : Owners s.table b.pages
    -- what the records owe together is what the pages owe together
    pub balanced : Balanced s.table b.pages
    -- the table: the facts of each record, one Committed record for each place that owes
    pub tasks : Tasks Φ s.pairs s.size b.origin s.table (scene s b.pages log debts)
    pub alone : Alone s.table
    pub backed : (i : ℕ) → 0 < debts i → Backed s.table i
