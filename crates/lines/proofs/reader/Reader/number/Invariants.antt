use Rattle.std.proofs.Common.{◌≡◌, ◌-◌, ◌<◌, ◌≤◌, ◌++◌, length, drop}
use Rattle.lines.specs.Decimal.{decimal}
use Rattle.lines.specs.Grammar.{most}
use Rattle.lines.proofs.reader.Reader.number.Given as goal

abbrev pub invariant-loop-next : goal.invariant-loop-next
invariant-loop-next l = record {
  kept : l.self.text.now ≡ l.fn.self.text.now;
  spelt : drop l.fn.self.at l.fn.self.text.now ≡ decimal l.value ++ drop l.self.at l.fn.self.text.now;
  forward : l.fn.self.at < l.self.at;
  within : l.self.at ≤ length l.fn.self.text.now;
  small : l.value ≤ most;
}

abbrev pub decreases-loop-next : goal.decreases-loop-next
decreases-loop-next l = length l.self.text.now - l.self.at
