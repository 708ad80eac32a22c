-- A making has one outcome, where the filter leaves nothing open: one refusal, or one state.
use Rattle.std.proofs.Common.{◌≡◌, ℕ, List, length, replicate, sym, ◌∙◌}
use Rattle.cells.specs.declared.refusal.Refusal.{Refusal}
use Rattle.cells.specs.declared.refusal.Refusal.TheVariants.{ArrayLength}
use Rattle.filters.specs.declared.filter.Filter.{Ghosts}
use Rattle.forced.specs.Play.{Exact, blank}
use Rattle.forced.proofs.Made.{vacant, made_is, refused_once}
use Rattle.lines.specs.declared.command.Making.{Making}
use Rattle.rules.specs.declared.ring.Entry.{Entry}
use Rattle.rules.specs.declared.table.Phase.TheVariants.{Idle}
use Rattle.rules.specs.declared.table.TaskRecord.{TaskRecord}
use Rattle.rules.specs.Making.{Makes, MakingFault, MakingRefused, with_ring_and_table}
use Rattle.rules.specs.State.{State}
use Rattle.runner.specs.Law.{Unmade}
use Rattle.runner.specs.Runs.{handed}

module _ {F C : Type 0} (Φ : Ghosts F) (made : ℕ → ℕ → C) (w : Making) where
  -- An engine is made of these numbers, over arrays of the right lengths and cells at 0.
  pub record MadeOf (s : State F C) : Type 0 where
    pub ring : List (Entry F)
    pub table : List (TaskRecord F)
    pub ring_length : length ring ≡ w.slots
    pub table_length : length table ≡ w.tasks
    pub makes : Makes Φ (handed made w ring table) s

module _ {F C : Type 0} (Φ : Ghosts F) (exact : Exact Φ) (made : ℕ → ℕ → C) (w : Making) where
  -- What ring and table held before does not matter to the faults.
  fault_same : (ring ring' : List (Entry F)) (table table' : List (TaskRecord F)) → length ring ≡ length ring' → length table ≡ length table' → (q : Refusal) → MakingFault (handed made w ring table) q → MakingFault (handed made w ring' table') q
  fault_same ring ring' table table' long tall ArrayLength fault = λ fits. fault (record { ring = long ∙ fits.ring; table = tall ∙ fits.table; addresses = fits.addresses; cells = fits.cells; memory = fits.memory })
  fault_same ring ring' table table' long tall _ fault = fault

  -- A making that is refused is not accepted.
  pub refused_or_made : (q : Refusal) (s : State F C) → Unmade Φ made w q → MadeOf Φ made w s → ⊥
  refused_or_made q s u m = m.makes.accepts q (fault_same u.ring m.ring u.table m.table (u.ring_length ∙ sym m.ring_length) (u.table_length ∙ sym m.table_length) q u.refused.fault)

  -- Nor to the refusal.
  refusal_same : (ring ring' : List (Entry F)) (table table' : List (TaskRecord F)) → length ring ≡ length ring' → length table ≡ length table' → (q : Refusal) → MakingRefused (handed made w ring table) q → MakingRefused (handed made w ring' table') q
  refusal_same ring ring' table table' long tall q refused = record {
    fault = fault_same ring ring' table table' long tall q refused.fault;
    earlier = λ p lower fault. refused.earlier p lower (fault_same ring' ring table' table (sym long) (sym tall) p fault);
  }

  -- A making is refused with one number.
  pub unmade_once : (p q : Refusal) → Unmade Φ made w p → Unmade Φ made w q → p ≡ q
  unmade_once p q u v = refused_once (handed made w v.ring v.table) p q (refusal_same u.ring v.ring u.table v.table (u.ring_length ∙ sym v.ring_length) (u.table_length ∙ sym v.table_length) p u.refused) v.refused

  -- A making leaves one state.
  pub made_once : (s s' : State F C) → MadeOf Φ made w s → MadeOf Φ made w s' → s ≡ s'
  made_once s s' m n =
      let long : length m.ring ≡ length n.ring = m.ring_length ∙ sym n.ring_length in
      let tall : length m.table ≡ length n.table = m.table_length ∙ sym n.table_length in
      made_is exact (handed made w m.ring m.table) s m.makes
      ∙ (λ i. with_ring_and_table (handed made w m.ring m.table) (replicate (long i) (vacant exact)) (replicate (tall i) (blank exact Idle 0)))
      ∙ sym (made_is exact (handed made w n.ring n.table) s' n.makes)
