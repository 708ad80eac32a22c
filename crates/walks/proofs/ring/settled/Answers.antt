use Rattle.std.proofs.Common.{subst, ⊎_elim, arith}
use Rattle.std.proofs.lemmas.Bool.{cases_eq}
use Rattle.rules.specs.Places.{Pending}
use Rattle.walks.proofs.ring.settled.Goals as goal

pub loop-start-preserved : goal.loop-start-preserved
loop-start-preserved g c = λ i above below.
    ⊎_elim
    (λ same. subst (Pending _ _) same c.if-not-unfinished.ensures)
    (λ other. c.loop-start.invariant i (omega arith) below)
    (cases_eq c.loop-start.start i)

pub returns : goal.returns
returns g c = record {
  within = omega arith;
  finished = λ pending. omega (arith, pending.present.counted);
  passed = λ i above below. c.loop-start.invariant i (omega arith) below;
}
