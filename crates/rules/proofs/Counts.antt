-- What the asking for the outstanding count finds.
use Rattle.std.proofs.Common.{◌≡◌, ℕ, ◌+◌, ◌-◌, ◌⊎◌, List, take, sum_by, sym, ap, ◌∙◌, inl, inr, arith}
use Rattle.std.proofs.lemmas.List.Sums.{sum_by_more}
use Rattle.cells.specs.declared.refusal.Refusal.TheVariants.{RingLength, TaskCount, LogLength, LastPlace, MemorySize, ArrayLength, TaskNumber, Address, BrokenLine, OutputFull, Torn, PhaseForbids, LogFull, PlacesSpent, RingFull, MustWait}
use Rattle.filters.specs.declared.filter.Filter.{Ghosts}
use Rattle.rules.specs.declared.table.Phase.{Phase}
use Rattle.rules.specs.declared.table.Phase.TheVariants.{Idle, Open, Committed}
use Rattle.rules.specs.declared.table.TaskRecord.{TaskRecord}
use Rattle.rules.specs.Calls.{outstanding}
use Rattle.rules.specs.Faults.{Of, Refuses, Accepts, Clear}
use Rattle.rules.specs.Lists.{At}
use Rattle.rules.specs.State.{State, Fits}
use Rattle.rules.specs.Steps.{owes_in, owes}
use Rattle.rules.specs.Torn.{Whole, IsTorn}

module _ {F C : Type 0} (Φ : Ghosts F) (s : State F C) (fits : Fits s) where
  -- Before the torn records only the lengths are checked.
  fits_clear : Clear Φ s outstanding 21
  fits_clear RingLength low fault = fault
  fits_clear TaskCount low fault = fault
  fits_clear LogLength low fault = fault
  fits_clear LastPlace low fault = fault
  fits_clear MemorySize low fault = fault
  fits_clear ArrayLength low fault = fault fits
  fits_clear TaskNumber low fault = fault
  fits_clear Address low fault = fault
  fits_clear BrokenLine low fault = fault
  fits_clear OutputFull low fault = fault
  fits_clear Torn low fault = omega arith
  fits_clear PhaseForbids low fault = fault
  fits_clear LogFull low fault = fault
  fits_clear PlacesSpent low fault = fault
  fits_clear RingFull low fault = fault
  fits_clear (MustWait place) low fault = fault

  -- A torn record refuses the asking.
  pub torn_refuses : (t : ℕ) → Of s t (IsTorn s t) → Refuses Φ s outstanding Torn
  torn_refuses t torn = record { fault = (t, torn); earlier = fits_clear }

  -- Where every record is whole the asking is accepted.
  pub whole_accepts : ((t : ℕ) (r : TaskRecord F) → At s.table t r → Whole s t r) → Accepts Φ s outstanding
  whole_accepts whole RingLength fault = fault
  whole_accepts whole TaskCount fault = fault
  whole_accepts whole LogLength fault = fault
  whole_accepts whole LastPlace fault = fault
  whole_accepts whole MemorySize fault = fault
  whole_accepts whole ArrayLength fault = fault fits
  whole_accepts whole TaskNumber fault = fault
  whole_accepts whole Address fault = fault
  whole_accepts whole BrokenLine fault = fault
  whole_accepts whole OutputFull fault = fault
  whole_accepts whole Torn (t, torn) = torn.holds (whole t torn.task torn.there)
  whole_accepts whole PhaseForbids fault = fault
  whole_accepts whole LogFull fault = fault
  whole_accepts whole PlacesSpent fault = fault
  whole_accepts whole RingFull fault = fault
  whole_accepts whole (MustWait place) fault = fault

module _ {F : Type 0} where
  -- What the first records owe, one record more.
  pub owes_more : (table : List (TaskRecord F)) (t : ℕ) (r : TaskRecord F) → At table t r → sum_by owes (take (t + 1) table) ≡ sum_by owes (take t table) + owes r
  owes_more table t r there = sum_by_more owes table t r there.within ∙ ap (λ (x : TaskRecord F). sum_by owes (take t table) + owes x) (sym there.is)

  -- What a whole record owes: nothing unless it is Committed, and at most one more than its log is long.
  pub owes_idle : (r : TaskRecord F) → (r.phase ≡ Idle) ⊎ (r.phase ≡ Open) → owes r ≡ 0
  owes_idle r (inl idle) = ap (λ (p : Phase). owes_in p r.logged r.written) idle
  owes_idle r (inr running) = ap (λ (p : Phase). owes_in p r.logged r.written) running

  pub owes_committed : (r : TaskRecord F) → r.phase ≡ Committed → owes r ≡ r.logged - r.written + 1
  owes_committed r committed = ap (λ (p : Phase). owes_in p r.logged r.written) committed
