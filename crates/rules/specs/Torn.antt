-- A record is torn if it is Open or Committed and breaks one of the rules here.
use Rattle.std.specs.Prelude.{◌≡◌, ℕ, ◌+◌, ◌<◌, ◌≤◌, List, slice_index}
use Rattle.rules.specs.declared.ring.Entry.{Entry}
use Rattle.rules.specs.declared.table.Phase.{Phase}
use Rattle.rules.specs.declared.table.Phase.TheVariants.{Idle, Open, Committed}
use Rattle.rules.specs.declared.table.TaskRecord.{TaskRecord}
use Rattle.rules.specs.Places.{Pending}
use Rattle.rules.specs.State.{State, base}

module _ {F : Type 0} where
  -- The rules for Open and Committed records alike; the log's addresses stand from `base` on.
  pub record LogRules (pairs size index : ℕ) (addresses : List ℕ) (base : ℕ) (r : TaskRecord F) : Type 0 where
    pub logged : r.logged ≤ pairs
    pub written : r.written ≤ r.logged
    pub start : r.start ≤ index
    pub inside : (k : ℕ) → k < r.logged → slice_index addresses (base + k) < size

  pub record OpenRules (pairs size index : ℕ) (addresses : List ℕ) (base : ℕ) (r : TaskRecord F) : Type 0 where
    pub log : LogRules pairs size index addresses base r
    pub place : r.place ≡ 0
    pub written : r.written ≡ 0

  pub record CommittedRules (pairs size index slots : ℕ) (ring : List (Entry F)) (addresses : List ℕ) (base : ℕ) (r : TaskRecord F) : Type 0 where
    pub log : LogRules pairs size index addresses base r
    pub some : 1 ≤ r.logged
    pub start : r.start < r.place
    pub place : r.place ≤ index
    pub unfinished : Pending slots ring r.place

  -- The rules that a record keeps in this phase.
  abbrev pub PhaseRules : ℕ → ℕ → ℕ → ℕ → List (Entry F) → List ℕ → ℕ → TaskRecord F → Phase → Type 0
  PhaseRules pairs size index slots ring addresses base r Idle = Unit {0}
  PhaseRules pairs size index slots ring addresses base r Open = OpenRules pairs size index addresses base r
  PhaseRules pairs size index slots ring addresses base r Committed = CommittedRules pairs size index slots ring addresses base r

module _ {F C : Type 0} where
  -- The record of task t is whole: it keeps the rules of its phase.
  abbrev pub Whole : State F C → ℕ → TaskRecord F → Type 0
  Whole s t r = PhaseRules s.pairs s.size s.index s.slots s.ring s.addresses (base s t) r r.phase

  -- The record of task t is torn.
  abbrev pub IsTorn : State F C → ℕ → TaskRecord F → Type 0
  IsTorn s t r = Whole s t r → ⊥
