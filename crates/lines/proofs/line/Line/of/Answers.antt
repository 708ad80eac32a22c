use Rattle.std.proofs.Common.{◌∷◌, ◌++◌, length, get_or, sym, ap, ◌∙◌, length-append, arith}
use Rattle.lines.specs.Decimal.{decimal}
use Rattle.lines.proofs.Buffers.{spaced_more, room_more}
use Rattle.lines.proofs.line.Line.of.Goals as goal

pub loop-n-preserved : goal.loop-n-preserved
loop-n-preserved c =
    let n = get_or c.args.numbers.now c.loop-n.n-index 0 in
    let long = ap length c.number.ensures.text ∙ length-append c.loop-n.made (32 ∷ decimal n) in
    record {
      text =
          c.number.ensures.text
          ∙ ap (λ x. x ++ (32 ∷ decimal n)) c.loop-n.invariant.text
          ∙ ap (λ x. c.args.letter ∷ x) (sym (spaced_more c.args.numbers.now c.loop-n.n-index c.loop-n-test.true));
      wide = omega (arith, long, c.number.ensures.ten);
      room = λ some. room_more c.args.numbers.now c.loop-n.n-index (length c.loop-n.made) (length c.number.new.self) c.loop-n.invariant.wide c.loop-n.invariant.room (omega (arith, long)) c.number.ensures.ten some;
    }
