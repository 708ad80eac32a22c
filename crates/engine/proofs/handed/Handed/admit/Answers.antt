use Rattle.std.proofs.Common.{get_or, sym, ap, arith}
use Rattle.rules.specs.declared.table.TaskRecord.{TaskRecord}
use Rattle.rules.specs.Lists.{At}
use Rattle.engine.proofs.handed.Handed.admit.Given as given
use Rattle.engine.proofs.handed.Handed.admit.Goals as goal
use Rattle.engine.proofs.handed.Handed.admit.Goals.{After-whole}

-- The task's record, as it is read.
abbrev read : (g : given.Over) → After-whole g → TaskRecord g.row.F.Denot
read g c = get_or c.args.self.now.table.now c.args.task c.index-self-task.result

-- It stands in the table.
there : (g : given.Over) (c : After-whole g) → At c.args.self.now.table.now c.args.task (read g c)
there g c =
    let addressed = c.in_ok-addressed.ensures in
    record { within = omega (arith, addressed.known, addressed.fits.table); is = ap (get_or c.args.self.now.table.now c.args.task) c.index-self-task.is }

pub returns-then-not-whole : goal.returns-then-not-whole
returns-then-not-whole g c =
    let at = goal.at.returns-then-not-whole g c in
    (c.in_ok-addressed.ensures, record { task = read g at.After-whole; there = there g at.After-whole; holds = c.if-not-whole.ensures })

pub returns-then-not-allowed : goal.returns-then-not-allowed
returns-then-not-allowed g c =
    let at = goal.at.returns-then-not-allowed g c in
    (c.in_ok-addressed.ensures, record { task = read g at.After-whole; there = there g at.After-whole; holds = (c.if-not-whole.ensures, sym c.if-not-allowed.ensures) })
