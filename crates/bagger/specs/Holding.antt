-- A task holds nothing, or a transaction of its own.
use Rattle.std.specs.Prelude.{◌≡◌, ℕ, Bool, true, false}
use Rattle.bagger.specs.declared.holder.Held.{Held}
use Rattle.bagger.specs.declared.holder.Held.TheVariants.{Nothing, Open, Committed}
use Rattle.bagger.specs.declared.machine.Task.{Task}
use Rattle.bagger.specs.declared.machine.Task.TheVariants.{Format, Knife, Film, PhotoEye}

-- The engine's number of a task.
abbrev pub number : Task → ℕ
number Format = 0
number Knife = 1
number Film = 2
number PhotoEye = 3

abbrev pub Own : ℕ → Held → Type 0
Own task Nothing = Unit {0}
Own task (Open transaction) = transaction.task ≡ task
Own task (Committed transaction) = transaction.task ≡ task

abbrev pub holds_nothing : Held → Bool
holds_nothing Nothing = true
holds_nothing (Open transaction) = false
holds_nothing (Committed transaction) = false
