use Rattle.std.proofs.Common.{rules}
use Rattle.rules.specs.Calls.{by, work}
use Rattle.promise.proofs.Promised.{kept}
use Rattle.promise.proofs.Promised.Laws.{lawful}
use Rattle.engine.proofs.engine.Engine.work.Goals as goal

pub returns : goal.returns
returns g c =
    let met = g.met.F.Filter in
    record {
      step = c.work_task.ensures.step;
      promise = kept g.F.Filter (lawful g.F.Filter met.none met.adds met.keeps met.common met.apart met.either) (by c.args.task work) c.work_task.result c.work_task.ensures.step;
      rest = c.work_task.ensures.rest;
      lender = c.work_task.ensures.lender;
      loans = search rules;
    }
