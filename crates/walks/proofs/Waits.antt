-- The place that a writer waits for is the one that the rulebook names.
use Rattle.std.proofs.Common.{ℕ, ◌<◌, ◌≤◌, Some, None, subst, ⊎_elim, arith}
use Rattle.std.proofs.lemmas.Bool.{cases_eq}
use Rattle.filters.specs.declared.filter.Filter.{Ghosts}
use Rattle.rules.specs.declared.table.TaskRecord.{TaskRecord}
use Rattle.rules.specs.Faults.{Waits, to_write, to_finish}
use Rattle.rules.specs.Places.{Pending}
use Rattle.rules.specs.State.{State}
use Rattle.walks.specs.Waiting.{Awaits}

module _ {F C : Type 0} (Φ : Ghosts F) (s : State F C) (r : TaskRecord F) where
  -- A place that is awaited is one that the writer must wait for.
  pub awaited_waits : (place : ℕ) → r.start < r.place → r.written ≤ r.logged → Awaits Φ s.slots s.ring r (Some place) → Waits Φ s r place
  awaited_waits place begun short awaits =
      ⊎_elim
      (λ same.
      let found = awaits.to_finish same in
      to_finish (record { none = same; before = omega (arith, found.0); pending = subst (Pending s.slots s.ring) (omega (arith, found.0)) found.1 }))
      (λ other.
      let found = awaits.to_write other in
      to_write (record { left = omega arith; below = found.below; above = found.above; blocks = found.blocks; highest = found.highest }))
      (cases_eq r.written r.logged)

  -- A writer for which no place is awaited need not wait.
  pub none_waits : Awaits Φ s.slots s.ring r None → (place : ℕ) → Waits Φ s r place → ⊥
  none_waits awaits place (to_write waits) = awaits.to_write (λ same. omega (arith, waits.left)) place waits.above waits.below waits.blocks
  none_waits awaits place (to_finish waits) = awaits.to_finish waits.none (subst (Pending s.slots s.ring) (omega (arith, waits.before)) waits.pending)
