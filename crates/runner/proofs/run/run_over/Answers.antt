use Rattle.std.proofs.Common.{arith}
use Rattle.std.proofs.lemmas.Result.{err_from_is_err_and}
use Rattle.lines.specs.declared.report.Report.TheVariants.{Refused}
use Rattle.runner.specs.Runs.{refused, accepted, lacks, prints}
use Rattle.runner.proofs.Buffers.{started}
use Rattle.runner.proofs.Outputs.{closed}
use Rattle.runner.proofs.run.run_over.Goals as goal

-- The making is refused.
pub returns-in-Err-clause-run : goal.returns-in-Err-clause-run
returns-in-Err-clause-run g c =
    started c.vacant-ring.result c.emptied-table.result (g.M.Memory.contents c.args.memory) c.requires.zeros c.make-cells.result c.make-cells.ensures c.requires.slots c.requires.tasks c.requires.pairs
    (refused c.in-Err.reason c.in-Err.ensures.step.0 (closed (Refused c.in-Err.reason) c.args.output.now c.print.new.self c.print.result c.print.ensures.writes))

-- The engine is made, and its line does not fit.
pub returns-in_err-print-clause-run : goal.returns-in_err-print-clause-run
returns-in_err-print-clause-run g c =
    let over = err_from_is_err_and c.from_residual.result c.from_residual.ensures.1 in
    let full = c.in_err-print.ensures.writes in
    rw over.1
    (started {after = c.print-2.new.self.bytes.now} c.vacant-ring.result c.emptied-table.result (g.M.Memory.contents c.args.memory) c.requires.zeros c.make-cells.result c.make-cells.ensures c.requires.slots c.requires.tasks c.requires.pairs
    (accepted _ c.in-Ok.ensures.step (lacks full.0 (omega (arith, full.1)))))

-- The engine is made, and the other lines are played over it.
pub returns-clause-run : goal.returns-clause-run
returns-clause-run g c =
    started c.vacant-ring.result c.emptied-table.result (g.M.Memory.contents c.args.memory) c.requires.zeros c.make-cells.result c.make-cells.ensures c.requires.slots c.requires.tasks c.requires.pairs
    (accepted _ c.in-Ok.ensures.step (prints c.print-2.new.self.bytes.now c.print-2.new.self.written c.in_ok-print.ensures.writes c.play.ensures.plays))
