-- What a call changes of the ring and of the table, each by itself.
use Rattle.std.specs.Prelude.{◌≡◌, ℕ, ◌%◌, List, length, slice_set}
use Rattle.filters.specs.declared.filter.Filter.{Ghosts}
use Rattle.rules.specs.declared.ring.Entry.{Entry}
use Rattle.rules.specs.declared.ring.Status.TheVariants.{Complete}
use Rattle.rules.specs.declared.table.TaskRecord.{TaskRecord}
use Rattle.rules.specs.Lists.{At}
use Rattle.rules.specs.Records.{Emptied}

module _ {F : Type 0} where
  -- The entry in the place's slot is complete, and no other is changed.
  pub record Completed (place : ℕ) (before after : List (Entry F)) : Type 0 where
    pub entry : Entry F
    pub there : At before (place % length before) entry
    pub is : after ≡ slice_set before (place % length before) (record { stamp = entry.stamp; filter = entry.filter; status = Complete })

  -- The task's record is emptied, and no other is changed.
  pub record EmptiedAt (Φ : Ghosts F) (task : ℕ) (before after : List (TaskRecord F)) : Type 0 where
    pub idle : TaskRecord F
    pub emptied : Emptied Φ idle
    pub is : after ≡ slice_set before task idle
