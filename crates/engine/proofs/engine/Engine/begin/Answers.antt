use Rattle.std.proofs.Common.{rules}
use Rattle.rules.specs.Calls.{by, begin}
use Rattle.promise.proofs.Promised.{kept}
use Rattle.promise.proofs.Promised.Laws.{lawful}
use Rattle.engine.proofs.engine.Engine.begin.Goals as goal

pub returns : goal.returns
returns g c =
    let met = g.met.F.Filter in
    record {
      step = c.begin_task.ensures;
      promise = kept g.F.Filter (lawful g.F.Filter met.none met.adds met.keeps met.common met.apart met.either) (by c.args.task begin) c.begin_task.result c.begin_task.ensures;
      loans = search rules;
    }
