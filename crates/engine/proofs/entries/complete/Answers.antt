use Rattle.std.proofs.Common.{refl}
use Rattle.std.proofs.lemmas.Nat.{mod_below}
use Rattle.engine.proofs.entries.complete.Goals as goal

pub returns : goal.returns
returns g c = record {
  entry = c.index-ring-slot.result;
  there = record { within = mod_below _ _ c.requires; is = c.index-ring-slot.is };
  is = refl;
}
