use Rattle.std.proofs.Common.{rules}
use Rattle.rules.specs.Calls.{outstanding}
use Rattle.promise.proofs.Promised.{kept}
use Rattle.promise.proofs.Promised.Laws.{lawful}
use Rattle.engine.proofs.engine.Engine.outstanding.Goals as goal

pub returns : goal.returns
returns g c =
    let met = g.met.F.Filter in
    record {
      step = c.count_owed.ensures;
      promise = kept g.F.Filter (lawful g.F.Filter met.none met.adds met.keeps met.common met.apart met.either) (outstanding) c.count_owed.result c.count_owed.ensures;
      loans = search rules;
    }
