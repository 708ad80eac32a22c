use Rattle.std.proofs.Common.{◌≡◌}
use Rattle.runner.specs.Inputs.{left}
use Rattle.runner.specs.Sessions.{state}
use Rattle.runner.proofs.Going.{Reached}
use Rattle.runner.proofs.turn.Session.play.Given as goal

abbrev pub invariant-loop-line : goal.invariant-loop-line
invariant-loop-line g l = record {
  reached : Reached g.F.Filter g.C.Face.made g.C.Face.shown l.fn.self.area (state g.M.Memory.contents l.fn.self) (left l.fn.input) l.fn.output l.line-iterator.start (state g.M.Memory.contents l.self) (left l.input) l.output;
  area : l.self.area ≡ l.fn.self.area;
}
