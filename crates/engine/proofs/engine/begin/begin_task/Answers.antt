use Rattle.std.proofs.Common.{ℕ, refl, subst}
use Rattle.std.proofs.lemmas.Result.{err_from_is_err_and}
use Rattle.rules.specs.Calls.{begin}
use Rattle.rules.specs.Places.{Settled}
use Rattle.engine.proofs.Admissions.{rejected_step}
use Rattle.rules.proofs.Clears.{accepts}
use Rattle.engine.proofs.engine.begin.begin_task.Goals as goal

pub returns-in_err-admit : goal.returns-in_err-admit
returns-in_err-admit g c =
    let p = err_from_is_err_and c.from_residual.result c.from_residual.ensures.1 in
    rw (p.1, p.2) (rejected_step _ g.F.Filter _ begin _ c.in_err-admit.ensures)

pub returns : goal.returns
returns g c =
    let admitted = c.in_ok-admit.ensures in
    record {
      accepts = accepts g.F.Filter _ _ begin _ admitted (λ no_fault. no_fault) (λ no_fault. no_fault) (λ no_fault. no_fault) (λ _ no_fault. no_fault);
      settled = subst (λ (n : ℕ). Settled n c.args.ring.now c.args.engine.now.index c.settled-start.result) admitted.addressed.fits.ring c.settled-start.ensures;
      task = c.opened.result;
      opened = c.opened.ensures;
      after = refl;
    }
