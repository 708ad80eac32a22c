use Rattle.std.proofs.Common.{◌*◌, ◌≤◌, ◌∙◌, arith, rules}
use Rattle.std.proofs.lemmas.List.{take-replicate}
use Rattle.runner.proofs.Zeros.{zero_tags}
use Rattle.runner.proofs.run.start.Goals as goal

pub run_over-requires-clause-zeros : goal.run_over-requires-clause-zeros
run_over-requires-clause-zeros c =
    let few : c.in-Make.making.cells ≤ 256 = search rules in
    c.new-memory.ensures.cells ∙ take-replicate c.in-Make.making.cells 256 0 few

pub run_over-requires-in-Tags-clause-zeros : goal.run_over-requires-in-Tags-clause-zeros
run_over-requires-in-Tags-clause-zeros c =
    let n = c.in-Make.making.cells in
    let few : n ≤ 256 = search rules in
    zero_tags n c.new-memory-in-Tags.result.bytes.now (c.new-memory-in-Tags.ensures.bytes ∙ take-replicate (5 * n) 1280 0 (omega arith))
