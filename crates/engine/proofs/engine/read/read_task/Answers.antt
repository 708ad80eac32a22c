use Rattle.std.proofs.Common.{Ok, Err, ℕ, ◌*◌, ◌≤◌, refl, subst, inl, inr}
use Rattle.std.proofs.lemmas.Result.{err_from_is_err_and}
use Rattle.rules.specs.declared.table.CallKind.TheVariants.{Read}
use Rattle.rules.specs.Calls.{read}
use Rattle.rules.specs.Check.{Verdict, Checks}
use Rattle.rules.specs.Records.{after_read}
use Rattle.rules.specs.Steps.{ReadChecks}
use Rattle.engine.specs.View.{state}
use Rattle.engine.proofs.Admissions.{rejected_step}
use Rattle.rules.proofs.Clears.{accepts}
use Rattle.rules.proofs.Frames.{record_put}
use Rattle.rules.proofs.Phases.{open_rules}
use Rattle.engine.proofs.engine.read.read_task.Given as given
use Rattle.engine.proofs.engine.read.read_task.Goals as goal
use Rattle.engine.proofs.engine.read.read_task.Goals.{In_ok-record, After-check}

pub returns-in_err-record : goal.returns-in_err-record
returns-in_err-record g c =
    let s = state c.args.engine.now (g.M.Memory.contents c.args.memory.now) c.args.ring.now c.args.table.now c.args.addresses.now c.args.cells.now in
    let p = err_from_is_err_and c.from_residual.result c.from_residual.ensures.1 in
    rw (p.1, p.2) (rejected_step s g.F.Filter c.args.task (read c.args.address) _ c.in_err-record.ensures)

pub lookup-requires : goal.lookup-requires
lookup-requires g c =
    let engine = c.args.engine.now in
    let admitted = c.in_ok-record.ensures in
    let logged = c.in_ok-record.record.logged in
    let rules = open_rules engine.settings.pairs engine.size engine.index engine.settings.slots c.args.ring.now c.args.addresses.now (c.args.task * engine.settings.pairs) c.in_ok-record.record Read refl refl c.in_ok-record.record.phase admitted.allowed admitted.whole in
    record { fits = admitted.addressed.fits; known = admitted.addressed.known; short = rules.log.logged }

pub returns-in-Some : goal.returns-in-Some
returns-in-Some g c =
    let s = state c.args.engine.now (g.M.Memory.contents c.args.memory.now) c.args.ring.now c.args.table.now c.args.addresses.now c.args.cells.now in
    let admitted = c.in_ok-record.ensures in
    let found = c.in-Some.ensures in
    inl (record {
      accepts = accepts g.F.Filter s c.args.task (read c.args.address) _ admitted (λ none. none) (λ none. none) (λ none. none) (λ _ none. none);
      task = c.in_ok-record.record;
      there = admitted.there;
      position = _;
      first = found.0;
      cell = found.1;
      compared = refl;
      after = refl {a = s};
    })

-- The caller's record begins at most at the index.
begun : (g : given.Over) (c : In_ok-record g) → c.in_ok-record.record.start ≤ c.args.engine.now.index
begun g c =
    let engine = c.args.engine.now in
    let r = c.in_ok-record.record in
    let admitted = c.in_ok-record.ensures in
    (open_rules engine.settings.pairs engine.size engine.index engine.settings.slots c.args.ring.now c.args.addresses.now (c.args.task * engine.settings.pairs) r Read refl refl r.phase admitted.allowed admitted.whole).log.start

-- What is known once the check has answered.
checked : (g : given.Over) (c : After-check g) (verdict : Verdict) → Checks g.F.Filter c.args.engine.now.settings.slots c.args.ring.now c.add-reads.result c.args.engine.now.index c.in_ok-record.record.start verdict → ReadChecks g.F.Filter (state c.args.engine.now (g.M.Memory.contents c.args.memory.now) c.args.ring.now c.args.table.now c.args.addresses.now c.args.cells.now) c.args.task c.args.address verdict
checked g c verdict answered =
    let s = state c.args.engine.now (g.M.Memory.contents c.args.memory.now) c.args.ring.now c.args.table.now c.args.addresses.now c.args.cells.now in
    let admitted = c.in_ok-record.ensures in
    record {
      accepts = accepts g.F.Filter s c.args.task (read c.args.address) c.in_ok-record.record admitted (λ none. none) (λ none. none) (λ none. none) (λ _ none. none);
      task = c.in_ok-record.record;
      there = admitted.there;
      new = c.in_default.ensures;
      reads = c.add-reads.result;
      widened = c.add-reads.ensures;
      checks = answered;
    }

pub returns-in_ok-cell-in-Ok : goal.returns-in_ok-cell-in-Ok
unfolding checked
returns-in_ok-cell-in-Ok g c =
    let s = state c.args.engine.now (g.M.Memory.contents c.args.memory.now) c.args.ring.now c.args.table.now c.args.addresses.now c.args.cells.now in
    let fits = c.in_ok-record.ensures.addressed.fits.ring in
    let passed = subst (λ (n : ℕ). Checks g.F.Filter n c.args.ring.now c.add-reads.result c.args.engine.now.index c.in_ok-record.record.start (Ok c.in-Ok.field-0)) fits (c.in-Ok.ensures.walked (begun g (goal.at.returns-in_ok-cell-in-Ok g c).In_ok-record)) in
    let cell = c.in_ok-cell-in-Ok.ensures in
    inr (record {
      start = c.in-Ok.field-0.start;
      checked = checked g (goal.at.returns-in_ok-cell-in-Ok g c).After-check (Ok c.in-Ok.field-0) passed;
      cell = record { within = cell.0; is = cell.1 };
      after = record_put s c.args.task (after_read c.in_ok-record.record c.in-Ok.field-0.start c.add-reads.result) _ refl;
    })

pub returns-in-Err : goal.returns-in-Err
returns-in-Err g c =
    let s = state c.args.engine.now (g.M.Memory.contents c.args.memory.now) c.args.ring.now c.args.table.now c.args.addresses.now c.args.cells.now in
    let fits = c.in_ok-record.ensures.addressed.fits.ring in
    let verdict = Err c.in-Err.abort in
    let ended = subst (λ (n : ℕ). Checks g.F.Filter n c.args.ring.now c.add-reads.result c.args.engine.now.index c.in_ok-record.record.start verdict) fits (c.in-Err.ensures.walked (begun g (goal.at.returns-in-Err g c).In_ok-record)) in (
      checked g (goal.at.returns-in-Err g c).After-check verdict ended,
      record { task = c.empty.ensures.idle; emptied = c.empty.ensures.emptied; after = record_put s c.args.task c.empty.ensures.idle c.empty.new.table c.empty.ensures.is },
    )
