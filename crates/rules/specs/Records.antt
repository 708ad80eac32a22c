-- What calls make of a task's record.
use Rattle.std.specs.Prelude.{◌≡◌, ℕ, ◌+◌}
use Rattle.filters.specs.declared.filter.Filter.{Ghosts}
use Rattle.rules.specs.declared.table.Phase.{Phase}
use Rattle.rules.specs.declared.table.Phase.TheVariants.{Idle, Open, Committed}
use Rattle.rules.specs.declared.table.TaskRecord.{TaskRecord}

module _ {F : Type 0} where
  module _ (Φ : Ghosts F) where
    -- All numbers but the start are 0 and both filters are new. What a new filter holds beyond covering nothing is its own.
    pub record Blank (phase : Phase) (start : ℕ) (r : TaskRecord F) : Type 0 where
      pub phase_is : r.phase ≡ phase
      pub start_is : r.start ≡ start
      pub place : r.place ≡ 0
      pub logged : r.logged ≡ 0
      pub written : r.written ≡ 0
      pub reads : Φ.fresh r.reads
      pub writes : Φ.fresh r.writes

    -- Emptied means Idle, all numbers 0 and both filters new.
    abbrev pub Emptied : TaskRecord F → Type 0
    Emptied r = Blank Idle 0 r

    -- Emptied, then Open with this start.
    abbrev pub Opened : ℕ → TaskRecord F → Type 0
    Opened start r = Blank Open start r

  -- After a read from memory: the new start and the wider read filter.
  abbrev pub after_read : TaskRecord F → ℕ → F → TaskRecord F
  after_read r start reads = record { phase = r.phase; start = start; place = r.place; logged = r.logged; written = r.written; reads = reads; writes = r.writes }

  -- After a write of a new address: one more pair and the wider write filter.
  abbrev pub after_append : TaskRecord F → F → TaskRecord F
  after_append r writes = record { phase = r.phase; start = r.start; place = r.place; logged = r.logged + 1; written = r.written; reads = r.reads; writes = writes }

  -- After a commit with cells logged: Committed, with the new start and the place.
  abbrev pub after_commit : TaskRecord F → ℕ → ℕ → TaskRecord F
  after_commit r start place = record { phase = Committed; start = start; place = place; logged = r.logged; written = r.written; reads = r.reads; writes = r.writes }

  -- After a work with cells left: one more cell is written.
  abbrev pub after_work : TaskRecord F → TaskRecord F
  after_work r = record { phase = r.phase; start = r.start; place = r.place; logged = r.logged; written = r.written + 1; reads = r.reads; writes = r.writes }
