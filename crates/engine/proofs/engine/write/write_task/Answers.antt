use Rattle.std.proofs.Common.{rules, ◌≡◌, ℕ, ◌+◌, ◌*◌, ◌≤◌, ◌<◌, length, set, refl, ap, inl, inr, arith}
use Rattle.std.proofs.lemmas.Result.{err_from_is_err_and}
use Rattle.rules.specs.declared.table.CallKind.TheVariants.{Write}
use Rattle.rules.specs.Calls.{write}
use Rattle.rules.specs.Records.{after_append}
use Rattle.engine.specs.View.{state}
use Rattle.engine.proofs.Admissions.{rejected_step}
use Rattle.rules.proofs.Clears.{accepts, refuses_full, room_found, room_left}
use Rattle.rules.proofs.Frames.{logged_put, pair_put}
use Rattle.rules.proofs.Phases.{open_rules}
use Rattle.rules.proofs.Rooms.{log_room}
use Rattle.engine.proofs.engine.write.write_task.Given as given
use Rattle.engine.proofs.engine.write.write_task.Goals as goal
use Rattle.engine.proofs.engine.write.write_task.Goals.{Else-record-engine}

pub returns-in_err-record : goal.returns-in_err-record
returns-in_err-record g c =
    let s = state c.args.engine.now (g.M.Memory.contents c.args.memory.now) c.args.ring.now c.args.table.now c.args.addresses.now c.args.cells.now in
    let p = err_from_is_err_and c.from_residual.result c.from_residual.ensures.1 in
    rw (p.1, p.2) (rejected_step s g.F.Filter c.args.task (write c.args.address c.args.cell) _ c.in_err-record.ensures)

pub lookup-requires : goal.lookup-requires
lookup-requires g c =
    let engine = c.args.engine.now in
    let admitted = c.in_ok-record.ensures in
    let logged = c.in_ok-record.record.logged in
    let rules = open_rules engine.settings.pairs engine.size engine.index engine.settings.slots c.args.ring.now c.args.addresses.now (c.args.task * engine.settings.pairs) c.in_ok-record.record Write refl refl c.in_ok-record.record.phase admitted.allowed admitted.whole in
    record { fits = admitted.addressed.fits; known = admitted.addressed.known; short = rules.log.logged }

pub returns-in-Some : goal.returns-in-Some
returns-in-Some g c =
    let s = state c.args.engine.now (g.M.Memory.contents c.args.memory.now) c.args.ring.now c.args.table.now c.args.addresses.now c.args.cells.now in
    let r = c.in_ok-record.record in
    let admitted = c.in_ok-record.ensures in
    let first = c.in-Some.ensures.0 in
    let k = c.in-Some.position in
    let put : set c.args.cells.now (c.log_base-base.result + k) c.args.cell ≡ set c.args.cells.now (c.args.task * c.args.engine.now.settings.pairs + k) c.args.cell = ap (λ (b : ℕ). set c.args.cells.now (b + k) c.args.cell) c.log_base-base.ensures in
    inl (record {
      accepts = accepts g.F.Filter s c.args.task (write c.args.address c.args.cell) r admitted (room_found g.F.Filter s c.args.task c.args.address c.args.cell r admitted.there k first) (λ none. none) (λ none. none) (λ _ none. none);
      task = r;
      there = admitted.there;
      position = k;
      first = first;
      counted = refl;
      after = logged_put s (c.args.task * c.args.engine.now.settings.pairs + k) c.args.cell _ put;
    })

pub returns-then-record-engine : goal.returns-then-record-engine
returns-then-record-engine g c =
    let s = state c.args.engine.now (g.M.Memory.contents c.args.memory.now) c.args.ring.now c.args.table.now c.args.addresses.now c.args.cells.now in
    let admitted = c.in_ok-record.ensures in
    record {
      refuses = refuses_full g.F.Filter s c.args.task (write c.args.address c.args.cell) c.in_ok-record.record admitted (record { task = c.in_ok-record.record; there = admitted.there; holds = (c.if-record-engine.true, c.in_default.ensures) });
      after = refl {a = s};
    }

-- There is room for one more pair in the log arrays.
room : (g : given.Over) (c : Else-record-engine g) → c.args.task * c.args.engine.now.settings.pairs + (c.in_ok-record.record.logged + 1) ≤ c.args.engine.now.settings.tasks * c.args.engine.now.settings.pairs
room g c =
    let engine = c.args.engine.now in
    let r = c.in_ok-record.record in
    let admitted = c.in_ok-record.ensures in
    let rules = open_rules engine.settings.pairs engine.size engine.index engine.settings.slots c.args.ring.now c.args.addresses.now (c.args.task * engine.settings.pairs) r Write refl refl r.phase admitted.allowed admitted.whole in
    let short : r.logged + 1 ≤ engine.settings.pairs = omega (arith, rules.log.logged, c.if-record-engine.false) in
    log_room c.args.task engine.settings.tasks engine.settings.pairs (r.logged + 1) admitted.addressed.known short

pub bounds-addresses-end : goal.bounds-addresses-end
bounds-addresses-end g c =
    let enough = room g (goal.at.bounds-addresses-end g c).Else-record-engine in
    omega (arith, enough, c.in_ok-record.ensures.addressed.fits.addresses, c.log_base-base.ensures)

pub offset_bounds-cells-end : goal.offset_bounds-cells-end
offset_bounds-cells-end g c =
    let enough = room g (goal.at.offset_bounds-cells-end g c).Else-record-engine in
    let short : c.log_base-base.result + c.in_ok-record.record.logged < length c.args.cells.now = omega (arith, enough, c.in_ok-record.ensures.addressed.fits.cells, c.log_base-base.ensures) in
    search rules

pub bounds-cells-end : goal.bounds-cells-end
bounds-cells-end g c =
    let enough = room g (goal.at.bounds-cells-end g c).Else-record-engine in
    omega (arith, enough, c.in_ok-record.ensures.addressed.fits.cells, c.log_base-base.ensures)

pub returns : goal.returns
returns g c =
    let s = state c.args.engine.now (g.M.Memory.contents c.args.memory.now) c.args.ring.now c.args.table.now c.args.addresses.now c.args.cells.now in
    let r = c.in_ok-record.record in
    let admitted = c.in_ok-record.ensures in
    let i = c.args.task * c.args.engine.now.settings.pairs + r.logged in
    let addresses_put : set c.args.addresses.now (c.log_base-base.result + r.logged) c.args.address ≡ set c.args.addresses.now i c.args.address = ap (λ (b : ℕ). set c.args.addresses.now (b + r.logged) c.args.address) c.log_base-base.ensures in
    let cells_put : set c.args.cells.now (c.log_base-base.result + r.logged) c.args.cell ≡ set c.args.cells.now i c.args.cell = ap (λ (b : ℕ). set c.args.cells.now (b + r.logged) c.args.cell) c.log_base-base.ensures in
    inr (record {
      accepts = accepts g.F.Filter s c.args.task (write c.args.address c.args.cell) r admitted (room_left g.F.Filter s c.args.task c.args.address c.args.cell r admitted.there c.if-record-engine.false) (λ none. none) (λ none. none) (λ _ none. none);
      task = r;
      there = admitted.there;
      new = c.in_default.ensures;
      writes = c.add-writes.result;
      widened = c.add-writes.ensures;
      counted = refl;
      after = pair_put s c.args.task (after_append r c.add-writes.result) i c.args.address c.args.cell _ _ _ refl addresses_put cells_put;
    })
