-- What printing does to the output.
use Rattle.std.proofs.Common.{◌≡◌, ℕ, List, ◌++◌, length, take, drop, Ok, Err, Result, refl, ap, arith, length-append, length-take}
use Rattle.std.proofs.lemmas.List.{length-drop}
use Rattle.lines.specs.declared.report.Output.{Output as Lent}
use Rattle.lines.specs.declared.report.Report.{Report}
use Rattle.lines.specs.declared.report.Short.{Short}
use Rattle.lines.specs.Printed.{printed, Put, Writes}
use Rattle.runner.specs.Runs.{Closes, fits, misses, packed, seen}

-- Printing a line leaves the output as long as it was.
pub put_length : {line before after : List ℕ} {at end : ℕ} → Put line at before after end → length after ≡ length before
put_length {line} {before} {after} {at} {end} put =
    omega (arith, ap length put.text, length-append (take at before) (line ++ drop end before), length-append line (drop end before), length-drop end before, length-take at before, put.behind, put.within)

-- A line that is printed last closes the run.
pub closed : (report : Report) (before after : Lent) (r : Result (Unit {0}) Short) → Writes (printed report) before after r → Closes report (seen before) after.bytes.now (packed after r)
closed report before after (Ok done) put = fits after.written put refl
closed report before after (Err short) full = misses full.0 (omega (arith, full.1))
