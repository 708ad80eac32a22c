use Rattle.std.proofs.Common.{refl}
use Rattle.std.proofs.lemmas.Result.{err_from_is_err_and}
use Rattle.rules.specs.Calls.{quit}
use Rattle.engine.specs.View.{state}
use Rattle.engine.proofs.Admissions.{rejected_step}
use Rattle.rules.proofs.Clears.{accepts}
use Rattle.rules.proofs.Frames.{record_put}
use Rattle.engine.proofs.engine.quit.quit_task.Goals as goal

pub returns-in_err-record : goal.returns-in_err-record
returns-in_err-record g c =
    let s = state c.args.engine.now (g.M.Memory.contents c.args.memory.now) c.args.ring.now c.args.table.now c.args.addresses.now c.args.cells.now in
    let p = err_from_is_err_and c.from_residual.result c.from_residual.ensures.1 in
    rw (p.1, p.2) (rejected_step s g.F.Filter c.args.task quit _ c.in_err-record.ensures)

pub returns : goal.returns
returns g c =
    let s = state c.args.engine.now (g.M.Memory.contents c.args.memory.now) c.args.ring.now c.args.table.now c.args.addresses.now c.args.cells.now in
    let admitted = c.in_ok-record.ensures in
    record {
      accepts = accepts g.F.Filter s c.args.task quit _ admitted (λ none. none) (λ none. none) (λ none. none) (λ _ none. none);
      task = c.in_ok-record.record;
      there = admitted.there;
      counted = refl;
      empties = record { task = c.empty.ensures.idle; emptied = c.empty.ensures.emptied; after = record_put s c.args.task c.empty.ensures.idle c.empty.new.table c.empty.ensures.is };
    }
