use Rattle.std.proofs.Common.{◌≡◌, ◌+◌, ◌-◌, ◌*◌, ◌<◌, ◌≤◌, ◌∷◌, map, length, get_or, take}
use Rattle.lines.specs.Decimal.{decimal}
use Rattle.lines.specs.Line.{spaced}
use Rattle.lines.proofs.line.Line.of.Given as goal

abbrev pub invariant-loop-n : goal.invariant-loop-n
invariant-loop-n l = record {
  text : l.made ≡ l.letter ∷ spaced (map decimal (take l.n-index l.numbers));
  wide : length l.made ≤ 1 + 11 * l.n-index;
  room : 0 < l.n-index → length l.made ≤ 2 + length (decimal (get_or l.numbers 0 0)) + 11 * (l.n-index - 1);
}
