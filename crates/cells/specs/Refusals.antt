-- The number of each refusal.
use Rattle.std.specs.Prelude.{ℕ}
use Rattle.cells.specs.declared.refusal.Refusal.{Refusal}
use Rattle.cells.specs.declared.refusal.Refusal.TheVariants.{RingLength, TaskCount, LogLength, LastPlace, MemorySize, ArrayLength, TaskNumber, Address, BrokenLine, OutputFull, Torn, PhaseForbids, LogFull, PlacesSpent, RingFull, MustWait}

abbrev pub number : Refusal → ℕ
number RingLength = 1
number TaskCount = 2
number LogLength = 3
number LastPlace = 4
number MemorySize = 5
number ArrayLength = 6
number TaskNumber = 7
number Address = 8
number BrokenLine = 9
number OutputFull = 10
number Torn = 21
number PhaseForbids = 22
number LogFull = 23
number PlacesSpent = 24
number RingFull = 25
number (MustWait place) = 26
