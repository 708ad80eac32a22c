use Rattle.std.proofs.Common.{Ok, Err, ◌≡◌, ℕ, ◌*◌, ◌%◌, ◌<◌, ◌≤◌, set, refl, subst, arith}
use Rattle.std.proofs.lemmas.Result.{err_from_is_err_and}
use Rattle.rules.specs.declared.ring.Status.TheVariants.{Writing}
use Rattle.rules.specs.declared.table.CallKind.TheVariants.{Commit}
use Rattle.rules.specs.Calls.{commit}
use Rattle.rules.specs.Check.{Verdict, Checks}
use Rattle.rules.specs.Records.{after_commit}
use Rattle.rules.specs.Steps.{CommitChecks}
use Rattle.engine.specs.View.{state}
use Rattle.engine.proofs.Admissions.{rejected_step}
use Rattle.rules.proofs.Clears.{next_refuses, next_accepts, nothing_accepts}
use Rattle.rules.proofs.Frames.{record_put, entry_put}
use Rattle.rules.proofs.Phases.{open_rules}
use Rattle.engine.proofs.engine.commit.commit_task.Given as given
use Rattle.engine.proofs.engine.commit.commit_task.Goals as goal
use Rattle.engine.proofs.engine.commit.commit_task.Goals.{In_ok-record, After-check}

pub returns-in_err-record : goal.returns-in_err-record
returns-in_err-record g c =
    let s = state c.args.engine.now (g.M.Memory.contents c.args.memory.now) c.args.ring.now c.args.table.now c.args.addresses.now c.args.cells.now in
    let p = err_from_is_err_and c.from_residual.result c.from_residual.ensures.1 in
    rw (p.1, p.2) (rejected_step s g.F.Filter c.args.task commit _ c.in_err-record.ensures)

pub returns-then-record-eq0 : goal.returns-then-record-eq0
returns-then-record-eq0 g c =
    let s = state c.args.engine.now (g.M.Memory.contents c.args.memory.now) c.args.ring.now c.args.table.now c.args.addresses.now c.args.cells.now in
    let admitted = c.in_ok-record.ensures in
    record {
      accepts = nothing_accepts g.F.Filter s c.args.task c.in_ok-record.record admitted c.if-record-eq0.true;
      task = c.in_ok-record.record;
      there = admitted.there;
      none = c.if-record-eq0.true;
      counted = refl;
      empties = record { task = c.empty.ensures.idle; emptied = c.empty.ensures.emptied; after = record_put s c.args.task c.empty.ensures.idle c.empty.new.table c.empty.ensures.is };
    }

pub returns-in_err-place : goal.returns-in_err-place
returns-in_err-place g c =
    let s = state c.args.engine.now (g.M.Memory.contents c.args.memory.now) c.args.ring.now c.args.table.now c.args.addresses.now c.args.cells.now in
    let p = err_from_is_err_and c.from_residual-in_err-place.result c.from_residual-in_err-place.ensures.1 in
    let some : 0 < c.in_ok-record.record.logged = omega (arith, c.if-record-eq0.false) in
    rw (p.1, p.2) (record { refuses = next_refuses g.F.Filter s c.args.task c.in_ok-record.record c.in_ok-record.ensures some _ c.in_err-place.ensures; after = refl {a = s} })

-- The caller's record begins at most at the index.
begun : (g : given.Over) (c : In_ok-record g) → c.in_ok-record.record.start ≤ c.args.engine.now.index
begun g c =
    let engine = c.args.engine.now in
    let r = c.in_ok-record.record in
    let admitted = c.in_ok-record.ensures in
    (open_rules engine.settings.pairs engine.size engine.index engine.settings.slots c.args.ring.now c.args.addresses.now (c.args.task * engine.settings.pairs) r Commit refl refl r.phase admitted.allowed admitted.whole).log.start

-- What is known once the check has answered.
checked : (g : given.Over) (c : After-check g) (verdict : Verdict) → Checks g.F.Filter c.args.engine.now.settings.slots c.args.ring.now c.in_ok-record.record.reads c.args.engine.now.index c.in_ok-record.record.start verdict → CommitChecks g.F.Filter (state c.args.engine.now (g.M.Memory.contents c.args.memory.now) c.args.ring.now c.args.table.now c.args.addresses.now c.args.cells.now) c.args.task verdict
checked g c verdict answered =
    let s = state c.args.engine.now (g.M.Memory.contents c.args.memory.now) c.args.ring.now c.args.table.now c.args.addresses.now c.args.cells.now in
    let admitted = c.in_ok-record.ensures in
    let next = c.in_ok-place.ensures in
    let some : 0 < c.in_ok-record.record.logged = omega (arith, c.if-record-eq0.false) in
    record {
      accepts = next_accepts g.F.Filter s c.args.task c.in_ok-record.record admitted some next.1 next.2;
      task = c.in_ok-record.record;
      there = admitted.there;
      some = some;
      checks = answered;
    }

pub returns-in-Ok : goal.returns-in-Ok
unfolding checked
returns-in-Ok g c =
    let s = state c.args.engine.now (g.M.Memory.contents c.args.memory.now) c.args.ring.now c.args.table.now c.args.addresses.now c.args.cells.now in
    let fits = c.in_ok-record.ensures.addressed.fits.ring in
    let r = c.in_ok-record.record in
    let place = c.in_ok-place.place in
    let verdict = Ok c.in-Ok.field-0 in
    let passed = subst (λ (n : ℕ). Checks g.F.Filter n c.args.ring.now r.reads c.args.engine.now.index r.start verdict) fits (c.in-Ok.ensures.walked (begun g (goal.at.returns-in-Ok g c).In_ok-record)) in
    let put = subst (λ (n : ℕ). c.enter.new.ring ≡ set c.args.ring.now (place % n) (record { stamp = place; filter = r.writes; status = Writing })) fits c.enter.ensures in
    record {
      start = c.in-Ok.field-0.start;
      checked = checked g (goal.at.returns-in-Ok g c).After-check verdict passed;
      next = c.in_ok-place.ensures.0;
      after = entry_put s place place (record { stamp = place; filter = r.writes; status = Writing }) c.args.task (after_commit r c.in-Ok.field-0.start place) c.enter.new.ring _ put refl;
    }

pub returns-in-Err : goal.returns-in-Err
returns-in-Err g c =
    let s = state c.args.engine.now (g.M.Memory.contents c.args.memory.now) c.args.ring.now c.args.table.now c.args.addresses.now c.args.cells.now in
    let fits = c.in_ok-record.ensures.addressed.fits.ring in
    let r = c.in_ok-record.record in
    let verdict = Err c.in-Err.abort in
    let ended = subst (λ (n : ℕ). Checks g.F.Filter n c.args.ring.now r.reads c.args.engine.now.index r.start verdict) fits (c.in-Err.ensures.walked (begun g (goal.at.returns-in-Err g c).In_ok-record)) in (
      checked g (goal.at.returns-in-Err g c).After-check verdict ended,
      record { task = c.empty-in-Err.ensures.idle; emptied = c.empty-in-Err.ensures.emptied; after = record_put s c.args.task c.empty-in-Err.ensures.idle c.empty-in-Err.new.table c.empty-in-Err.ensures.is },
    )
