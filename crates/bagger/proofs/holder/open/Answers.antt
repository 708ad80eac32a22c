-- What commit hands back is of the transaction's task, and stays so in the turn.
use Rattle.bagger.proofs.holder.open.Goals as goal

pub returns-in_ok-commit-in-Commit-clause-own : goal.returns-in_ok-commit-in-Commit-clause-own
returns-in_ok-commit-in-Commit-clause-own g c = c.into-in-Commit.ensures c.args.transaction.task c.in_ok-commit-in-Commit.ensures.handed
