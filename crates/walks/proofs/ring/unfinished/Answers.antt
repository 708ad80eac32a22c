use Rattle.rules.proofs.Walks.{decide_pending}
use Rattle.walks.proofs.ring.unfinished.Goals as goal

pub returns-in-Some : goal.returns-in-Some
returns-in-Some g c = decide_pending c.in-Some.ensures c.is_writing.result c.is_writing.ensures
