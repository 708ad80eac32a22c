use Rattle.std.proofs.Common.{Some, Ok, Err, refl, ◌∙◌}
use Rattle.std.proofs.lemmas.Result.{err_from_is_err_and}
use Rattle.runner.specs.Inputs.{left, Takes}
use Rattle.runner.specs.Sessions.{state}
use Rattle.runner.proofs.Going.{reached_first, ended, broken, stopped, stopped_fills, gone_on}
use Rattle.runner.proofs.turn.Session.play.Goals as goal

pub loop-line-init : goal.loop-line-init
loop-line-init g c = record {
  reached = rw c.into_iter-line-iterator.ensures.into_iter_gives (reached_first g.F.Filter g.C.Face.made g.C.Face.shown c.args.self.now.area (state g.M.Memory.contents c.args.self.now) (left c.args.input) c.args.output.now);
  area = refl;
}

-- The line is played and printed.
pub loop-line-preserved : goal.loop-line-preserved
loop-line-preserved g c =
    let taken : Takes (Some c.loop-line.self.area) (left c.loop-line.input) (left c.next-in-loop-line.new.self) (Ok c.in-Ok-Some.field-0) = c.in-Ok-Some.ensures in
    let line = rw (c.in-Ok-Some.field-0-is, c.loop-line.invariant.area) at taken in
    record {
      reached = rw (c.in-Some.ensures.steps.1, c.in-Some.ensures.steps.0) (gone_on c.loop-line.invariant.reached (left c.next-in-loop-line.new.self) line.0 line.1 line.2 c.turn.ensures.played (λ task cell compared. g.met.C.Face.room_bound task cell compared) c.print.ensures.room c.print.new.self c.print.ensures.lender c.in_ok-print-in-Ok-Some.ensures.writes c.print.ensures.short);
      area = c.turn.ensures.area ∙ c.loop-line.invariant.area;
    }

-- The line of the report does not fit.
pub returns-in_err-print-in-Ok-Some-clause-plays : goal.returns-in_err-print-in-Ok-Some-clause-plays
returns-in_err-print-in-Ok-Some-clause-plays g c =
    let taken : Takes (Some c.loop-line.self.area) (left c.loop-line.input) (left c.next-in-loop-line.new.self) (Ok c.in-Ok-Some.field-0) = c.in-Ok-Some.ensures in
    let line = rw (c.in-Ok-Some.field-0-is, c.loop-line.invariant.area) at taken in
    let over = err_from_is_err_and c.from_residual.result c.from_residual.ensures.1 in
    let full = c.in_err-print-in-Ok-Some.ensures.writes in
    rw over.1
    (stopped c.loop-line.invariant.reached (left c.next-in-loop-line.new.self) line.0 line.1 line.2 c.turn.ensures.played (λ task cell compared. g.met.C.Face.room_bound task cell compared) c.print.ensures.room c.print.new.self c.print.ensures.lender full.0 full.1)

pub returns-in_err-print-in-Ok-Some-clause-fills : goal.returns-in_err-print-in-Ok-Some-clause-fills
returns-in_err-print-in-Ok-Some-clause-fills g c =
    let taken : Takes (Some c.loop-line.self.area) (left c.loop-line.input) (left c.next-in-loop-line.new.self) (Ok c.in-Ok-Some.field-0) = c.in-Ok-Some.ensures in
    let line = rw (c.in-Ok-Some.field-0-is, c.loop-line.invariant.area) at taken in
    let over = err_from_is_err_and c.from_residual.result c.from_residual.ensures.1 in
    let full = c.in_err-print-in-Ok-Some.ensures.writes in
    rw over.1
    (stopped_fills c.loop-line.invariant.reached (left c.next-in-loop-line.new.self) line.0 line.1 line.2 c.turn.ensures.played (λ task cell compared. g.met.C.Face.room_bound task cell compared) c.print.ensures.room c.print.new.self c.print.ensures.lender full.0 full.1 over.0)

-- The line is broken.
pub returns-in-Err-clause-plays : goal.returns-in-Err-clause-plays
returns-in-Err-clause-plays g c =
    let taken : Takes (Some c.loop-line.self.area) (left c.loop-line.input) (left c.next-in-loop-line.new.self) (Err c.in-Err.field-0) = c.in-Err.ensures in
    let none = rw c.loop-line.invariant.area at taken in
    broken c.loop-line.invariant.reached c.print-in-Err.new.self c.print-in-Err.result none.0 none.1 (rw c.in-Some.ensures.steps.0 at c.print-in-Err.ensures.writes)

-- The text is at its end.
pub returns-in-Ok-None-clause-plays : goal.returns-in-Ok-None-clause-plays
returns-in-Ok-None-clause-plays g c =
    let taken : Takes (Some c.loop-line.self.area) (left c.loop-line.input) (left c.next-in-loop-line.new.self) (Ok c.in-Ok-None.field-0) = c.in-Ok-None.ensures in
    let end = rw c.in-Ok-None.field-0-is at taken in
    ended c.loop-line.invariant.reached end.0
