use Rattle.std.proofs.Common.{rules}
use Rattle.promise.proofs.Promised.Laws.{lawful}
use Rattle.engine.proofs.Makings.{begun}
use Rattle.engine.proofs.engine.Engine.make.Goals as goal

pub returns : goal.returns
returns g c =
    let met = g.met.F.Filter in
    record {
      step = c.make_engine.ensures;
      promise = begun g.F.Filter (lawful g.F.Filter met.none met.adds met.keeps met.common met.apart met.either) _ _ _ c.make_engine.result c.make_engine.ensures;
      loans = search rules;
    }
