-- The two statements are the theorems of the played step.
use Rattle.forced.proofs.Played.{plays, forced}
use Rattle.forced.proofs.forced_answers.Goals as goal

pub returns : goal.returns
returns g c = record { plays = λ x s. plays g.F.Filter x s; forced = λ x s. forced g.F.Filter x s }
