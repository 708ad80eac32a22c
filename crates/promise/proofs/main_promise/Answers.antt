use Rattle.promise.proofs.Promised.{stands}
use Rattle.promise.proofs.Promised.Laws.{Lawful}
use Rattle.promise.proofs.main_promise.Given as given
use Rattle.promise.proofs.main_promise.Goals as goal

-- The laws that the filter's trait states.
laws : (g : given.Over) → Lawful g.F.Filter
laws g = record {
  none = g.met.F.Filter.none;
  adds = g.met.F.Filter.adds;
  keeps = g.met.F.Filter.keeps;
  common = g.met.F.Filter.common;
  apart = g.met.F.Filter.apart;
  either = g.met.F.Filter.either;
}

pub returns : goal.returns
returns g c s b chain = stands g.F.Filter (laws g) chain
