use Rattle.std.proofs.Common.{◌-◌, length}
use Rattle.rules.specs.Check.{AllAsked, Advanced}
use Rattle.walks.proofs.check.check.Given as goal

-- The places above are asked and apart, and `advanced` is the new start for a walk that ends here.
abbrev pub invariant-loop-compared : goal.invariant-loop-compared
invariant-loop-compared g l = record {
  asked : AllAsked g.F.Filter (length l.ring) l.ring l.reads l.index (l.index - l.compared);
  advanced : Advanced (length l.ring) l.ring l.index (l.index - l.compared) l.advanced;
}
