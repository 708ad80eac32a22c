-- Which phase allows which call: begin needs Idle, work needs Committed, the other four need Open.
use Rattle.std.specs.Prelude.{Bool, true, false}
use Rattle.rules.specs.declared.table.Phase.{Phase}
use Rattle.rules.specs.declared.table.Phase.TheVariants.{Idle, Open, Committed}
use Rattle.rules.specs.declared.table.CallKind.{CallKind}
use Rattle.rules.specs.declared.table.CallKind.TheVariants.{Begin, Read, Write, Commit, Work, Quit}

abbrev pub allows : Phase → CallKind → Bool
allows Idle Begin = true
allows Idle Read = false
allows Idle Write = false
allows Idle Commit = false
allows Idle Work = false
allows Idle Quit = false
allows Open Begin = false
allows Open Read = true
allows Open Write = true
allows Open Commit = true
allows Open Work = false
allows Open Quit = true
allows Committed Begin = false
allows Committed Read = false
allows Committed Write = false
allows Committed Commit = false
allows Committed Work = true
allows Committed Quit = false
