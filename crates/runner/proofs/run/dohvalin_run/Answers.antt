use Rattle.std.proofs.Common.{sym, rules}
use Rattle.filters.specs.contracts.small.SmallFilter.TheImpl.{ghosts as small}
use Rattle.forced.specs.Exactness.{small_exact}
use Rattle.runner.proofs.Buffers.{handed_back}
use Rattle.runner.proofs.Lawful.{lawful}
use Rattle.runner.proofs.run.dohvalin_run.Goals as goal

pub returns-clause-runs : goal.returns-clause-runs
returns-clause-runs c = handed_back (sym c.new-printed.ensures.bytes) (search rules) c.answer.ensures c.run-ended.ensures.run

pub returns-clause-law : goal.returns-clause-law
returns-clause-law c = lawful small small_exact c.args.input.now c.args.output.now _ c.answer.result (handed_back (sym c.new-printed.ensures.bytes) (search rules) c.answer.ensures c.run-ended.ensures.run)
