use Rattle.std.proofs.Common.{◌≡◌, ◌-◌, ◌<◌, ◌≤◌, length}
use Rattle.lines.proofs.Lines.{GoesOn, SoFar}
use Rattle.lines.proofs.reader.Reader.fields.Given as goal

abbrev pub invariant-loop-self : goal.invariant-loop-self
invariant-loop-self l = record {
  kept : l.self.text.now ≡ l.fn.self.text.now;
  so_far : SoFar l.fn.self.text.now l.fn.self.at l.self.at l.numbers.items;
  goes_on : GoesOn l.fn.self.text.now l.fn.self.at l.self.at (length l.numbers.items);
  few : length l.numbers.items ≤ 5;
  forward : l.fn.self.at < l.self.at;
}

abbrev pub decreases-loop-self : goal.decreases-loop-self
decreases-loop-self l = 5 - length l.numbers.items
