-- The limits of the numbers that making is asked for, and the first of them that is broken.
use Rattle.std.specs.Prelude.{◌≡◌, ℕ, Ok, Err, Result}
use Rattle.cells.specs.declared.refusal.Refusal.{Refusal}
use Rattle.cells.specs.declared.refusal.Refusal.TheVariants.{RingLength, TaskCount, LogLength, LastPlace, MemorySize, ArrayLength, TaskNumber, Address, BrokenLine, OutputFull, Torn, PhaseForbids, LogFull, PlacesSpent, RingFull, MustWait}
use Rattle.engine.specs.declared.engine.Engine.{Engine}
use Rattle.engine.specs.declared.engine.Settings.{Settings}
use Rattle.rules.specs.Making.{Between}

-- Every number lies within its limits.
pub record Limited (w : Settings) (size : ℕ) : Type 0 where
  pub ring : Between 2 w.slots 1024
  pub tasks : Between 1 w.tasks 64
  pub log : Between 1 w.pairs 256
  pub last : Between 1 w.last 4294967295
  pub size_within : Between 0 size 65536

-- The first number outside its limits, with those before it within theirs.
abbrev pub Limits : Settings → ℕ → Result Unit Refusal → Type 0
Limits w size (Ok done) = Limited w size
Limits w size (Err RingLength) = Between 2 w.slots 1024 → ⊥
Limits w size (Err TaskCount) = Between 2 w.slots 1024 × (Between 1 w.tasks 64 → ⊥)
Limits w size (Err LogLength) = Between 2 w.slots 1024 × Between 1 w.tasks 64 × (Between 1 w.pairs 256 → ⊥)
Limits w size (Err LastPlace) = Between 2 w.slots 1024 × Between 1 w.tasks 64 × Between 1 w.pairs 256 × (Between 1 w.last 4294967295 → ⊥)
Limits w size (Err MemorySize) = Between 2 w.slots 1024 × Between 1 w.tasks 64 × Between 1 w.pairs 256 × Between 1 w.last 4294967295 × (Between 0 size 65536 → ⊥)
Limits w size (Err ArrayLength) = ⊥
Limits w size (Err TaskNumber) = ⊥
Limits w size (Err Address) = ⊥
Limits w size (Err BrokenLine) = ⊥
Limits w size (Err OutputFull) = ⊥
Limits w size (Err Torn) = ⊥
Limits w size (Err PhaseForbids) = ⊥
Limits w size (Err LogFull) = ⊥
Limits w size (Err PlacesSpent) = ⊥
Limits w size (Err RingFull) = ⊥
Limits w size (Err (MustWait place)) = ⊥

-- What is made of the numbers that making is asked for: an engine with these and index 0, or the refusal of the first outside its limits.
pub record Fresh (w : Settings) (cells : ℕ) (e : Engine) : Type 0 where
  pub within : Limited w cells
  pub settings : e.settings ≡ w
  pub size : e.size ≡ cells
  pub index : e.index ≡ 0

abbrev pub Made : Settings → ℕ → Result Engine Refusal → Type 0
Made w size (Ok e) = Fresh w size e
Made w size (Err refusal) = Limits w size (Err refusal)
