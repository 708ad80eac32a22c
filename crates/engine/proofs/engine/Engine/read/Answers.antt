use Rattle.std.proofs.Common.{rules}
use Rattle.rules.specs.Calls.{by, read}
use Rattle.promise.proofs.Promised.{kept}
use Rattle.promise.proofs.Promised.Laws.{lawful}
use Rattle.engine.proofs.engine.Engine.read.Goals as goal

pub returns : goal.returns
returns g c =
    let met = g.met.F.Filter in
    record {
      step = c.read_task.ensures;
      promise = kept g.F.Filter (lawful g.F.Filter met.none met.adds met.keeps met.common met.apart met.either) (by c.args.task (read c.args.address)) c.read_task.result c.read_task.ensures;
      loans = search rules;
    }
