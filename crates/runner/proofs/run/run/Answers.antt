use Rattle.std.proofs.Common.{length, None, Ok, Err, sym, ap, ◌∙◌, arith}
use Rattle.std.proofs.lemmas.List.{length-drop}
use Rattle.lines.specs.declared.report.Report.TheVariants.{Broken}
use Rattle.runner.specs.Runs.{long, breaks, starts}
use Rattle.runner.specs.Inputs.{left, Takes}
use Rattle.runner.proofs.Outputs.{closed}
use Rattle.runner.proofs.run.run.Goals as goal

-- The text is too long.
pub returns-in_default-clause-run : goal.returns-in_default-clause-run
returns-in_default-clause-run c = long c.in_default.ensures (rw c.requires at (closed (Broken 0) c.args.output.now c.print.new.self c.print.result c.print.ensures.writes))

pub returns-in-Ok-Some-clause-run : goal.returns-in-Ok-Some-clause-run
returns-in-Ok-Some-clause-run c =
    let s = c.in-Some.input in
    let taken : Takes None (left s) (left c.next.new.self) (Ok c.in-Ok-Some.field-0) = c.in-Ok-Some.ensures in
    let line = rw c.in-Ok-Some.field-0-is at taken in
    let whole = c.in-Some.ensures in
    starts (omega (arith, ap length whole, length-drop s.reader.at s.reader.text.now, s.short)) c.in-Ok-Some.command (left c.next.new.self) line.0 (sym whole ∙ line.1) (rw c.requires at c.start.ensures.run)

-- The first line is broken.
pub returns-in-Err-clause-run : goal.returns-in-Err-clause-run
returns-in-Err-clause-run c =
    let s = c.in-Some.input in
    let taken : Takes None (left s) (left c.next.new.self) (Err c.in-Err.field-0) = c.in-Err.ensures in
    let whole = c.in-Some.ensures in
    let none = rw whole at taken in
    breaks (omega (arith, ap length whole, length-drop s.reader.at s.reader.text.now, s.short)) none.0 none.1 (rw c.requires at (closed (Broken 1) c.args.output.now c.print-in-Err.new.self c.print-in-Err.result c.print-in-Err.ensures.writes))
