use Rattle.std.proofs.Common.{◌≡◌, ℕ, ◌+◌, ◌-◌, length, sym, subst, inr, arith}
use Rattle.rules.specs.Check.{AllAsked, Advanced}
use Rattle.rules.proofs.Walks.{complete_settled, advanced_pending, advanced_finished, asked_more}
use Rattle.walks.proofs.check.check.Goals as goal
use Rattle.walks.proofs.check.check.Goals.{then-is_writing, else-is_writing}

pub returns-in_default-clause-walked : goal.returns-in_default-clause-walked
returns-in_default-clause-walked g c = λ _. inr (record {
  near = omega arith;
  place = c.args.index - c.loop-compared.compared;
  low = omega arith;
  high = omega arith;
  asked = c.loop-compared.invariant.asked;
  absent = c.in_default.ensures;
  counted = omega arith;
})

pub returns-then-meets-clause-walked : goal.returns-then-meets-clause-walked
returns-then-meets-clause-walked g c = λ _. record {
  near = omega arith;
  low = omega arith;
  high = omega arith;
  asked = c.loop-compared.invariant.asked;
  met = record { entry = c.in-Some.entry.now; present = c.in-Some.ensures; meets = sym c.if-meets.ensures };
  counted = omega arith;
}

pub loop-compared-preserved : goal.loop-compared-preserved
loop-compared-preserved g c =
    let place = c.args.index - c.loop-compared.compared in
    let ring = c.args.ring.now in
    let present = c.in-Some.ensures in
    let down : place - 1 ≡ c.args.index - (c.loop-compared.compared + 1) = omega arith in
    let asked = asked_more g.F.Filter c.loop-compared.invariant.asked (record { entry = c.in-Some.entry.now; present = present; apart = sym c.if-meets.ensures }) in
    let advanced : Advanced (length ring) ring c.args.index (place - 1) c.if-is_writing.advanced =
    elim c.if-is_writing.branch [
      | then-is_writing w ↦ subst (λ (n : ℕ). Advanced (length ring) ring c.args.index (place - 1) n) (sym w.advanced-is) (advanced_pending (omega arith) (omega arith) (record { entry = c.in-Some.entry.now; present = present; writing = w.if-is_writing.ensures }))
      | else-is_writing w ↦ subst (λ (n : ℕ). Advanced (length ring) ring c.args.index (place - 1) n) (sym w.advanced-is) (advanced_finished (complete_settled present w.if-is_writing.ensures) c.loop-compared.invariant.advanced)
    ] in
    record {
      asked = subst (AllAsked g.F.Filter (length ring) ring c.args.reads.now c.args.index) down asked;
      advanced = subst (λ (p : ℕ). Advanced (length ring) ring c.args.index p c.if-is_writing.advanced) down advanced;
    }

pub returns-clause-walked : goal.returns-clause-walked
returns-clause-walked g c = λ _.
    let ring = c.args.ring.now in
    let ended : c.args.index - c.loop-compared.compared ≡ c.args.start = omega arith in
    record {
      near = omega arith;
      asked = subst (AllAsked g.F.Filter (length ring) ring c.args.reads.now c.args.index) ended c.loop-compared.invariant.asked;
      advanced = subst (λ (p : ℕ). Advanced (length ring) ring c.args.index p c.loop-compared.advanced) ended c.loop-compared.invariant.advanced;
      counted = omega arith;
    }
