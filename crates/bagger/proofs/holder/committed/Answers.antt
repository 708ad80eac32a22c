-- What work hands back is of the transaction's task, and stays so in the turn.
use Rattle.bagger.proofs.holder.committed.Goals as goal

pub returns-clause-own : goal.returns-clause-own
returns-clause-own g c = c.into.ensures c.args.transaction.task c.in_ok-work.ensures.handed
