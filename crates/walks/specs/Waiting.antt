-- The place that a committed writer waits for.
use Rattle.std.specs.Prelude.{◌≡◌, ℕ, ◌-◌, List, Some, None, Option, ◌≢◌}
use Rattle.filters.specs.declared.filter.Filter.{Ghosts}
use Rattle.rules.specs.declared.ring.Entry.{Entry}
use Rattle.rules.specs.declared.table.TaskRecord.{TaskRecord}
use Rattle.rules.specs.Faults.{Blocking}
use Rattle.rules.specs.Places.{Pending}

module _ {F : Type 0} where
  -- With all cells written: the place before the writer's own, exactly if it is unfinished.
  abbrev pub Before : ℕ → List (Entry F) → ℕ → Option ℕ → Type 0
  Before slots ring place None = Pending slots ring (place - 1) → ⊥
  Before slots ring place (Some found) = (found ≡ place - 1) × Pending slots ring (place - 1)

  -- With cells left: the highest place below the writer's own and above its start that blocks.
  pub record Awaits (Φ : Ghosts F) (slots : ℕ) (ring : List (Entry F)) (writer : TaskRecord F) (answer : Option ℕ) : Type 0 where
    pub to_finish : writer.written ≡ writer.logged → Before slots ring writer.place answer
    pub to_write : (writer.written ≢ writer.logged) → Blocking Φ slots ring writer.writes writer.start writer.place answer
