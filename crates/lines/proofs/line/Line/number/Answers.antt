use Rattle.std.proofs.Common.{rules}
use Rattle.lines.proofs.Decimals.{decimal_digit, decimal_shown, decimal-length_le_ten}
use Rattle.lines.proofs.line.Line.number.Goals as goal

pub returns-then-n-lt10-clause-text : goal.returns-then-n-lt10-clause-text
returns-then-n-lt10-clause-text c = search (rules, decimal_digit)

pub returns-then-n-lt10-clause-ten : goal.returns-then-n-lt10-clause-ten
returns-then-n-lt10-clause-ten c = decimal-length_le_ten c.args.n c.ranges.n.fits

pub returns-else-n-lt10-clause-text : goal.returns-else-n-lt10-clause-text
returns-else-n-lt10-clause-text c = search (rules, decimal_shown)

pub returns-else-n-lt10-clause-ten : goal.returns-else-n-lt10-clause-ten
returns-else-n-lt10-clause-ten c = decimal-length_le_ten c.args.n c.ranges.n.fits
