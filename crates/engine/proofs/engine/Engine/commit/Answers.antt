use Rattle.std.proofs.Common.{rules}
use Rattle.rules.specs.Calls.{by, commit}
use Rattle.promise.proofs.Promised.{kept}
use Rattle.promise.proofs.Promised.Laws.{lawful}
use Rattle.engine.proofs.engine.Engine.commit.Goals as goal

pub returns : goal.returns
returns g c =
    let met = g.met.F.Filter in
    record {
      step = c.commit_task.ensures;
      promise = kept g.F.Filter (lawful g.F.Filter met.none met.adds met.keeps met.common met.apart met.either) (by c.args.task commit) c.commit_task.result c.commit_task.ensures;
      loans = search rules;
    }
