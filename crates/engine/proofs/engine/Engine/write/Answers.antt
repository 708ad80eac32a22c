use Rattle.std.proofs.Common.{rules}
use Rattle.rules.specs.Calls.{by, write}
use Rattle.promise.proofs.Promised.{kept}
use Rattle.promise.proofs.Promised.Laws.{lawful}
use Rattle.engine.proofs.engine.Engine.write.Goals as goal

pub returns : goal.returns
returns g c =
    let met = g.met.F.Filter in
    record {
      step = c.write_task.ensures;
      promise = kept g.F.Filter (lawful g.F.Filter met.none met.adds met.keeps met.common met.apart met.either) (by c.args.task (write c.args.address c.args.cell)) c.write_task.result c.write_task.ensures;
      loans = search rules;
    }
