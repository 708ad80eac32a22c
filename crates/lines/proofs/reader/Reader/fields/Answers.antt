use Rattle.std.proofs.Common.{◌≡◌, length, ap, ◌∙◌, arith, rules}
use Rattle.lines.specs.declared.reader.Reader.{Reader}
use Rattle.lines.proofs.Lines.{goes_more, no_line_number, no_line_feed, so_far_more}
use Rattle.lines.proofs.reader.Reader.fields.Goals as goal
use Rattle.lines.proofs.reader.Reader.fields.Goals.{then-loop-self-test+else-take, else-loop-self-test}

-- A space with no number behind it.
pub returns-in_err-number-clause-reads : goal.returns-in_err-number-clause-reads
returns-in_err-number-clause-reads c =
    let space = rw c.loop-self.invariant.kept at c.if-take.ensures.reads.0 in
    let same = c.if-take.ensures.kept ∙ c.loop-self.invariant.kept in
    let none = rw (same, c.if-take.ensures.reads.1) at c.in_err-number.ensures.reads in
    rw c.from_residual-in_err-number.ensures
    (no_line_number c.args.self.now.text.now c.args.self.now.at c.loop-self.self.at (length c.loop-self.numbers.items) c.loop-self.invariant.goes_on space none)

pub loop-self-preserved : goal.loop-self-preserved
loop-self-preserved c =
    let space = rw c.loop-self.invariant.kept at c.if-take.ensures.reads.0 in
    let same = c.if-take.ensures.kept ∙ c.loop-self.invariant.kept in
    let is = rw (same, c.if-take.ensures.reads.1) at c.in_ok-number.ensures.reads in
    let text = c.args.self.now.text.now in
    let at = c.args.self.now.at in
    let past = c.number.new.self.at in
    record {
      kept = c.in_ok-number.ensures.kept ∙ same;
      so_far = rw c.push.ensures.items (so_far_more text at c.loop-self.self.at c.loop-self.numbers.items c.in_ok-number.field-0 past c.loop-self.invariant.so_far space is);
      goes_on = rw c.push.ensures.len (goes_more text at c.loop-self.self.at (length c.loop-self.numbers.items) c.loop-self.invariant.goes_on c.in_ok-number.field-0 past space is);
      few = search rules;
      forward = omega (arith, is.forward);
    }

-- Behind the last number stands no line feed, and no space where another number has room.
pub returns-then-not-take-clause-reads : goal.returns-then-not-take-clause-reads
returns-then-not-take-clause-reads c =
    let text = c.args.self.now.text.now in
    let none = no_line_feed text c.args.self.now.at c.loop-self.self.at (length c.loop-self.numbers.items) c.loop-self.invariant.goes_on in
    elim c.loop-self-test.branch [
      | then-loop-self-test+else-take w ↦
          let same : c.loop-self-test.self.text.now ≡ text = ap (λ (r : Reader). r.text.now) w.self-is ∙ w.if-take.ensures.kept ∙ c.loop-self.invariant.kept in
          let here : c.loop-self-test.self.at ≡ c.loop-self.self.at = ap (λ (r : Reader). r.at) w.self-is ∙ w.if-take.ensures.reads.1 in
          none (rw (same, here) at c.if-not-take.ensures.reads.0) (λ below. rw c.loop-self.invariant.kept at w.if-take.ensures.reads.0)
      | else-loop-self-test w ↦
          let same : c.loop-self-test.self.text.now ≡ text = ap (λ (r : Reader). r.text.now) w.self-is ∙ c.loop-self.invariant.kept in
          let here : c.loop-self-test.self.at ≡ c.loop-self.self.at = ap (λ (r : Reader). r.at) w.self-is in
          none (rw (same, here) at c.if-not-take.ensures.reads.0) (λ below. absurd (search rules))
    ]
