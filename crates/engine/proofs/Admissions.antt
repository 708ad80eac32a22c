-- What the shared checks and the lengths refuse.
use Rattle.std.proofs.Common.{ℕ, refl, arith}
use Rattle.cells.specs.declared.refusal.Refusal.{Refusal}
use Rattle.cells.specs.declared.refusal.Refusal.TheVariants.{RingLength, TaskCount, LogLength, LastPlace, MemorySize, ArrayLength, TaskNumber, Address, BrokenLine, OutputFull, Torn, PhaseForbids, LogFull, PlacesSpent, RingFull, MustWait}
use Rattle.filters.specs.declared.filter.Filter.{Ghosts}
use Rattle.rules.specs.Admission.{Rejected}
use Rattle.rules.specs.Calls.{Act, by, outstanding, kind, named}
use Rattle.rules.specs.Faults.{Clear, Refuses}
use Rattle.rules.specs.State.{State, Fits}
use Rattle.rules.specs.Steps.{RefusedStep}
use Rattle.rules.proofs.Clears.{rejects}

module _ {F C : Type 0} (s : State F C) (Φ : Ghosts F) where
  -- A call that the shared checks reject is refused, and changes nothing.
  pub rejected_step : (t : ℕ) (act : Act C) (q : Refusal) → Rejected s t (kind act) (named act) q → RefusedStep Φ s (by t act) q s
  rejected_step t act q wrong = record { refuses = rejects Φ s t act q wrong; after = refl {a = s} }

  -- Nothing is checked before the lengths.
  first_clear : Clear Φ s outstanding 6
  first_clear RingLength low fault = fault
  first_clear TaskCount low fault = fault
  first_clear LogLength low fault = fault
  first_clear LastPlace low fault = fault
  first_clear MemorySize low fault = fault
  first_clear ArrayLength low fault = omega arith
  first_clear TaskNumber low fault = fault
  first_clear Address low fault = fault
  first_clear BrokenLine low fault = fault
  first_clear OutputFull low fault = fault
  first_clear Torn low fault = omega arith
  first_clear PhaseForbids low fault = fault
  first_clear LogFull low fault = fault
  first_clear PlacesSpent low fault = fault
  first_clear RingFull low fault = fault
  first_clear (MustWait place) low fault = fault

  -- Wrong lengths refuse the asking for the outstanding count.
  pub lengths_refuse : (Fits s → ⊥) → Refuses Φ s outstanding ArrayLength
  lengths_refuse wrong = record { fault = wrong; earlier = first_clear }
