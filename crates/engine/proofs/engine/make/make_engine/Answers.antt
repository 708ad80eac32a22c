use Rattle.std.proofs.Common.{ℕ, length, Err, sym, refl, subst}
use Rattle.std.proofs.lemmas.Result.{err_from_is_err_and}
use Rattle.rules.specs.Making.{Vacant}
use Rattle.rules.specs.Records.{Emptied}
use Rattle.rules.specs.State.{Fits}
use Rattle.rules.proofs.Limits.{makes_no_fault}
use Rattle.engine.specs.Limits.{Fresh, Limits}
use Rattle.engine.specs.View.{asked}
use Rattle.engine.proofs.Makings.{limits_refuse, making_unfit, fresh_state, fresh_within}
use Rattle.engine.proofs.engine.make.make_engine.Given as given
use Rattle.engine.proofs.engine.make.make_engine.Goals as goal
use Rattle.engine.proofs.engine.make.make_engine.Goals.{In_ok-engine}

pub returns-in_err-engine : goal.returns-in_err-engine
returns-in_err-engine g c =
    let s = asked c.args.settings (g.M.Memory.contents c.args.memory.now) c.args.ring.now c.args.table.now c.args.addresses.now c.args.cells.now in
    let p = err_from_is_err_and c.from_residual.result c.from_residual.ensures.1 in
    let q = c.in_err-engine.field-0.0 in
    rw (p.1, p.2) (limits_refuse s q (subst (λ (n : ℕ). Limits c.args.settings n (Err q)) c.size.ensures c.in_err-engine.ensures), refl {a = s})

-- The engine that is made, over the memory's cells.
fresh : (g : given.Over) (c : In_ok-engine g) → Fresh c.args.settings (length (g.M.Memory.contents c.args.memory.now)) c.in_ok-engine.engine
fresh g c = subst (λ (n : ℕ). Fresh c.args.settings n c.in_ok-engine.engine) c.size.ensures c.in_ok-engine.ensures

pub returns-then-not-fits : goal.returns-then-not-fits
returns-then-not-fits g c =
    let made = fresh g (goal.at.returns-then-not-fits g c).In_ok-engine in
    let s = asked c.args.settings (g.M.Memory.contents c.args.memory.now) c.args.ring.now c.args.table.now c.args.addresses.now c.args.cells.now in
    let same = fresh_state (g.M.Memory.contents c.args.memory.now) made c.args.ring.now c.args.table.now c.args.addresses.now c.args.cells.now in
    (making_unfit s made.within (subst (λ z. Fits z → ⊥) same c.if-not-fits.ensures), refl {a = s})

pub returns : goal.returns
returns g c =
    let made = fresh g (goal.at.returns g c).In_ok-engine in
    let memory = g.M.Memory.contents c.args.memory.now in
    record {
      accepts = makes_no_fault (fresh_within memory made c.args.ring.now c.args.table.now c.args.addresses.now c.args.cells.now c.if-not-fits.ensures);
      ring_length = c.fill.auto.items;
      table_length = c.fill-2.auto.items;
      vacant = λ i e there. subst (Vacant g.F.Filter) (sym (c.fill.ensures i e there)) c.vacant.ensures;
      emptied = λ t r there. subst (Emptied g.F.Filter) (sym (c.fill-2.ensures t r there)) c.emptied.ensures;
      index = made.index;
      size = made.size;
      after = fresh_state memory made c.fill.new.items c.fill-2.new.items c.args.addresses.now c.args.cells.now;
    }
