-- Numbers within the limits make no fault.
use Rattle.cells.specs.declared.refusal.Refusal.{Refusal}
use Rattle.cells.specs.declared.refusal.Refusal.TheVariants.{RingLength, TaskCount, LogLength, LastPlace, MemorySize, ArrayLength, TaskNumber, Address, BrokenLine, OutputFull, Torn, PhaseForbids, LogFull, PlacesSpent, RingFull, MustWait}
use Rattle.rules.specs.Making.{MakingFault, WithinLimits}
use Rattle.rules.specs.State.{State}

module _ {F C : Type 0} {s : State F C} (within : WithinLimits s) where
  pub makes_no_fault : (q : Refusal) → MakingFault s q → ⊥
  makes_no_fault RingLength fault = fault within.ring
  makes_no_fault TaskCount fault = fault within.tasks
  makes_no_fault LogLength fault = fault within.log
  makes_no_fault LastPlace fault = fault within.last
  makes_no_fault MemorySize fault = fault within.size
  makes_no_fault ArrayLength fault = fault within.fits
  makes_no_fault TaskNumber fault = fault
  makes_no_fault Address fault = fault
  makes_no_fault BrokenLine fault = fault
  makes_no_fault OutputFull fault = fault
  makes_no_fault Torn fault = fault
  makes_no_fault PhaseForbids fault = fault
  makes_no_fault LogFull fault = fault
  makes_no_fault PlacesSpent fault = fault
  makes_no_fault RingFull fault = fault
  makes_no_fault (MustWait place) fault = fault
