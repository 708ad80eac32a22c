-- How a refusal and a tag are printed.
use Rattle.std.specs.Prelude.{ℕ, List, ◌++◌, ◌==◌, cond, codes}
use Rattle.std.specs.Fmt.{decimal}
use Rattle.cells.specs.declared.refusal.Refusal.{Refusal}
use Rattle.cells.specs.declared.refusal.Refusal.TheVariants.{RingLength, TaskCount, LogLength, LastPlace, MemorySize, ArrayLength, TaskNumber, Address, BrokenLine, OutputFull, Torn, PhaseForbids, LogFull, PlacesSpent, RingFull, MustWait}
use Rattle.cells.specs.declared.tags.Tag.{Tag}

-- A refusal is printed by its name in the rulebook, and one that must wait with the place waited for.
abbrev pub refusal_text : Refusal → List ℕ
refusal_text RingLength = codes "ring length"
refusal_text TaskCount = codes "task count"
refusal_text LogLength = codes "log length"
refusal_text LastPlace = codes "last place"
refusal_text MemorySize = codes "memory size"
refusal_text ArrayLength = codes "array length"
refusal_text TaskNumber = codes "task number"
refusal_text Address = codes "address"
refusal_text BrokenLine = codes "broken line"
refusal_text OutputFull = codes "output full"
refusal_text Torn = codes "torn"
refusal_text PhaseForbids = codes "phase forbids"
refusal_text LogFull = codes "log full"
refusal_text PlacesSpent = codes "places spent"
refusal_text RingFull = codes "ring full"
refusal_text (MustWait place) = codes "must wait for place " ++ decimal place

-- A tag is printed as its value and whether the quality is the good one, or which.
abbrev pub tag_text : Tag → List ℕ
tag_text t = decimal t.value ++ cond (t.quality == 192) (codes " (good)") (codes " (quality " ++ (decimal t.quality ++ codes ")"))
