use Rattle.std.proofs.Common.{◌+◌, ◌++◌, drop, sym, refl, ap, ◌∙◌, inl, inr, arith}
use Rattle.std.proofs.lemmas.Bool.{cases_lt}
use Rattle.lines.specs.Decimal.{decimal}
use Rattle.lines.specs.Reading.{NoNumber}
use Rattle.lines.proofs.Reading.{number_one, number_more, no_number_none, no_number_zero, no_number_past}
use Rattle.lines.proofs.reader.Reader.number.Goals as goal

pub returns-in_err-value-clause-reads : goal.returns-in_err-value-clause-reads
returns-in_err-value-clause-reads c = rw c.from_residual.ensures (no_number_none c.args.self.now.text.now c.args.self.now.at c.in_err-value.ensures)

pub loop-next-init : goal.loop-next-init
loop-next-init c =
    let d = c.in_ok-value.ensures in
    record {
      kept = refl;
      spelt = number_one c.args.self.now.text.now c.args.self.now.at c.in_ok-value.value d;
      forward = omega arith;
      within = omega (arith, d.inside);
      small = omega (arith, d.one);
    }

-- The next digit stands behind a leading zero, or makes the number too large.
pub returns-in_err-value-2-clause-reads : goal.returns-in_err-value-2-clause-reads
returns-in_err-value-2-clause-reads c =
    let d = rw c.loop-next.invariant.kept at c.in-Some.ensures in
    let none : NoNumber c.args.self.now.text.now c.args.self.now.at =
    elim (cases_lt 0 c.loop-next.value) [
      | inl some ↦ no_number_past c.args.self.now.text.now c.args.self.now.at c.loop-next.self.at c.loop-next.value c.in-Some.next c.loop-next.invariant.spelt d some (c.in_err-value-2.ensures some)
      | inr none ↦ no_number_zero c.args.self.now.text.now c.args.self.now.at c.loop-next.self.at c.loop-next.value c.in-Some.next c.loop-next.invariant.spelt d (omega arith)
    ] in
    rw c.from_residual-in_err-value-2.ensures none

pub loop-next-preserved : goal.loop-next-preserved
loop-next-preserved c =
    let d = rw c.loop-next.invariant.kept at c.in-Some.ensures in
    let n = c.in_ok-value-2.ensures in
    record {
      kept = c.loop-next.invariant.kept;
      spelt =
          number_more c.args.self.now.text.now c.args.self.now.at c.loop-next.self.at c.loop-next.value c.in-Some.next c.loop-next.invariant.spelt d n.0
          ∙ ap (λ v. decimal v ++ drop (c.loop-next.self.at + 1) c.args.self.now.text.now) (sym n.1);
      forward = omega arith;
      within = omega (arith, d.inside);
      small = omega arith;
    }
