use Rattle.std.proofs.Common.{⊎_elim, subst, arith, ℕ, length}
use Rattle.std.proofs.lemmas.Bool.{cases_eq}
use Rattle.rules.specs.Faults.{Meets}
use Rattle.walks.proofs.ring.blocking.Goals as goal

pub returns-then-blocks : goal.returns-then-blocks
returns-then-blocks g c = record {
  below = omega arith;
  above = omega arith;
  blocks = c.if-blocks.ensures;
  highest = λ i above below. c.loop-older.invariant.1 i (omega arith) below;
}

pub loop-older-init : goal.loop-older-init
loop-older-init g c = (omega arith, λ i above below. absurd (omega arith))

pub loop-older-preserved : goal.loop-older-preserved
loop-older-preserved g c = (
  omega arith,
  λ i above below.
      ⊎_elim
      (λ same. subst (λ (k : ℕ). Meets g.F.Filter (length c.args.ring.now) c.args.ring.now c.args.writes.now k → ⊥) same c.if-blocks.ensures)
      (λ other. c.loop-older.invariant.1 i (omega arith) below)
      (cases_eq c.loop-older.older i),
)

pub returns : goal.returns
returns g c = λ i above below. c.loop-older.invariant.1 i (omega arith) below
