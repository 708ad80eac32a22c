use Rattle.std.proofs.Common.{rules as search_rules, length, ◌≡◌, ℕ, ◌+◌, ◌*◌, ◌%◌, ◌<◌, get_or, set, Some, None, refl, ap, ◌∙◌, subst, arith}
use Rattle.std.proofs.lemmas.Result.{err_from_is_err_and}
use Rattle.rules.specs.declared.ring.Entry.{Entry}
use Rattle.rules.specs.declared.ring.Status.TheVariants.{Complete}
use Rattle.rules.specs.Calls.{by, work}
use Rattle.rules.specs.Faults.{Accepts}
use Rattle.rules.specs.Lists.{At}
use Rattle.rules.specs.Records.{after_work}
use Rattle.rules.specs.Torn.{CommittedRules}
use Rattle.engine.specs.View.{state}
use Rattle.engine.proofs.Admissions.{rejected_step}
use Rattle.rules.proofs.AtLaws.{at_one}
use Rattle.rules.proofs.Clears.{wait_refuses, work_accepts}
use Rattle.rules.proofs.Frames.{entry_put, cell_put}
use Rattle.rules.proofs.Phases.{committed_rules}
use Rattle.rules.proofs.Rooms.{log_room}
use Rattle.walks.specs.Waiting.{Awaits}
use Rattle.walks.proofs.Waits.{awaited_waits, none_waits}
use Rattle.engine.proofs.engine.work.work_task.Given as given
use Rattle.engine.proofs.engine.work.work_task.Goals as goal
use Rattle.engine.proofs.engine.work.work_task.Goals.{In_ok-record, In_default, Else-record, After-log_base}

pub returns-in_err-record : goal.returns-in_err-record
returns-in_err-record g c =
    let s = state c.args.engine.now (g.M.Memory.contents c.args.memory.now) c.args.ring.now c.args.table.now c.args.addresses.now c.args.cells.now in
    let p = err_from_is_err_and c.from_residual.result c.from_residual.ensures.1 in
    record { step = rw (p.1, p.2) (rejected_step s g.F.Filter c.args.task work _ c.in_err-record.ensures); rest = refl; lender = refl }

-- The caller's record keeps the rules of a Committed one.
rules : (g : given.Over) (c : In_ok-record g) → CommittedRules c.args.engine.now.settings.pairs c.args.engine.now.size c.args.engine.now.index c.args.engine.now.settings.slots c.args.ring.now c.args.addresses.now (c.args.task * c.args.engine.now.settings.pairs) c.in_ok-record.record
rules g c =
    let engine = c.args.engine.now in
    let r = c.in_ok-record.record in
    let admitted = c.in_ok-record.ensures in
    committed_rules engine.settings.pairs engine.size engine.index engine.settings.slots c.args.ring.now c.args.addresses.now (c.args.task * engine.settings.pairs) r r.phase admitted.allowed admitted.whole

-- Cells are left.
more : (g : given.Over) (c : Else-record g) → c.in_ok-record.record.written < c.in_ok-record.record.logged
more g c = omega (arith, (rules g (goal.at.Else-record g c).In_ok-record).log.written, c.if-record.false)

pub returns-in-Some : goal.returns-in-Some
returns-in-Some g c =
    let s = state c.args.engine.now (g.M.Memory.contents c.args.memory.now) c.args.ring.now c.args.table.now c.args.addresses.now c.args.cells.now in
    let r = c.in_ok-record.record in
    let admitted = c.in_ok-record.ensures in
    let kept = rules g (goal.at.returns-in-Some g c).In_ok-record in
    let found = subst (λ (n : ℕ). Awaits g.F.Filter n c.args.ring.now r (Some c.in-Some.place)) admitted.addressed.fits.ring c.in-Some.ensures in
    record {
      step = record {
        refuses = wait_refuses g.F.Filter s c.args.task r admitted c.in-Some.place (awaited_waits g.F.Filter s r c.in-Some.place kept.start kept.log.written found);
        after = refl {a = s};
      };
      rest = refl;
      lender = refl;
    }

-- A writer that awaits no place is accepted.
accepted : (g : given.Over) (c : In_default g) → Accepts g.F.Filter (state c.args.engine.now (g.M.Memory.contents c.args.memory.now) c.args.ring.now c.args.table.now c.args.addresses.now c.args.cells.now) (by c.args.task work)
accepted g c =
    let s = state c.args.engine.now (g.M.Memory.contents c.args.memory.now) c.args.ring.now c.args.table.now c.args.addresses.now c.args.cells.now in
    let r = c.in_ok-record.record in
    let admitted = c.in_ok-record.ensures in
    let free = subst (λ (n : ℕ). Awaits g.F.Filter n c.args.ring.now r None) admitted.addressed.fits.ring c.in_default.ensures in
    work_accepts g.F.Filter s c.args.task r admitted (none_waits g.F.Filter s r free)

pub returns-then-record : goal.returns-then-record
returns-then-record g c =
    let s = state c.args.engine.now (g.M.Memory.contents c.args.memory.now) c.args.ring.now c.args.table.now c.args.addresses.now c.args.cells.now in
    let r = c.in_ok-record.record in
    let admitted = c.in_ok-record.ensures in
    let fits = admitted.addressed.fits.ring in
    let kept = rules g (goal.at.returns-then-record g c).In_ok-record in
    let pending = kept.unfinished in
    let completed = c.complete.ensures in
    let entry = completed.entry in
    let there = subst (λ (n : ℕ). At c.args.ring.now (r.place % n) entry) fits completed.there in
    let put = subst (λ (n : ℕ). c.complete.new.ring ≡ set c.args.ring.now (r.place % n) (record { stamp = entry.stamp; filter = entry.filter; status = Complete })) fits completed.is in
    record {
      step = record {
        accepts = accepted g (goal.at.returns-then-record g c).In_default;
        task = r;
        there = admitted.there;
        none = c.if-record.true;
        named = refl;
        entry = entry;
        present = record { counted = omega (arith, kept.start); there = there; stamped = ap (λ (e : Entry g.row.F.Denot). e.stamp) (at_one there pending.present.there) ∙ pending.present.stamped };
        idle = c.empty.ensures.idle;
        emptied = c.empty.ensures.emptied;
        after = entry_put s c.args.engine.now.index r.place (record { stamp = entry.stamp; filter = entry.filter; status = Complete }) c.args.task c.empty.ensures.idle c.complete.new.ring c.empty.new.table put c.empty.ensures.is;
      };
      rest = refl;
      lender = refl;
    }

-- The next pair of the log lies within the log arrays.
room : (g : given.Over) (c : Else-record g) → c.args.task * c.args.engine.now.settings.pairs + c.in_ok-record.record.written < c.args.engine.now.settings.tasks * c.args.engine.now.settings.pairs
room g c =
    let engine = c.args.engine.now in
    let r = c.in_ok-record.record in
    let admitted = c.in_ok-record.ensures in
    let kept = rules g (goal.at.Else-record g c).In_ok-record in
    let enough = log_room c.args.task engine.settings.tasks engine.settings.pairs r.logged admitted.addressed.known kept.log.logged in
    omega (arith, enough, more g c)

pub bounds-addresses-next : goal.bounds-addresses-next
bounds-addresses-next g c =
    let enough = room g (goal.at.bounds-addresses-next g c).Else-record in
    omega (arith, enough, c.in_ok-record.ensures.addressed.fits.addresses, c.log_base.ensures)

pub offset_bounds-cells-next : goal.offset_bounds-cells-next
offset_bounds-cells-next g c =
    let enough = room g (goal.at.offset_bounds-cells-next g c).Else-record in
    let short : c.log_base.result + c.in_ok-record.record.written < length c.args.cells.now = omega (arith, enough, c.in_ok-record.ensures.addressed.fits.cells, c.log_base.ensures) in
    search search_rules

pub bounds-cells-next : goal.bounds-cells-next
bounds-cells-next g c =
    let enough = room g (goal.at.bounds-cells-next g c).Else-record in
    omega (arith, enough, c.in_ok-record.ensures.addressed.fits.cells, c.log_base.ensures)

pub offset_bounds-table-task : goal.offset_bounds-table-task
offset_bounds-table-task g c =
    let addressed = c.in_ok-record.ensures.addressed in
    let short : c.args.task < length c.args.table.now = omega (arith, addressed.known, addressed.fits.table) in
    search search_rules

-- The address written is the next one of the log.
address_is : (g : given.Over) (c : After-log_base g) → get_or c.args.addresses.now (c.log_base.result + c.in_ok-record.record.written) 0 ≡ get_or c.args.addresses.now (c.args.task * c.args.engine.now.settings.pairs + c.in_ok-record.record.written) 0
address_is g c = ap (λ (b : ℕ). get_or c.args.addresses.now (b + c.in_ok-record.record.written) 0) c.log_base.ensures

pub returns-in_err-write_back : goal.returns-in_err-write_back
returns-in_err-write_back g c =
    let r = c.in_ok-record.record in
    let admitted = c.in_ok-record.ensures in
    let at = goal.at.returns-in_err-write_back g c in
    let kept = rules g at.In_ok-record in
    let refused = c.in_err-write_back.ensures.writes in
    absurd (omega (arith, address_is g at.After-log_base, refused.0, kept.log.inside r.written (more g at.Else-record), admitted.addressed.fits.memory))

pub returns : goal.returns
returns g c =
    let s = state c.args.engine.now (g.M.Memory.contents c.args.memory.now) c.args.ring.now c.args.table.now c.args.addresses.now c.args.cells.now in
    let r = c.in_ok-record.record in
    let admitted = c.in_ok-record.ensures in
    let at = goal.at.returns g c in
    let i = c.args.task * c.args.engine.now.settings.pairs + r.written in
    let wrote = c.in_ok-write_back.ensures in
    let cell = c.index-cells-next.result in
    let memory_put = subst (λ (a : ℕ). g.M.Memory.contents c.write_back.new.memory ≡ set (g.M.Memory.contents c.args.memory.now) a cell) (address_is g at.After-log_base) wrote.writes.1 in
    record {
      step = record {
        accepts = accepted g at.In_default;
        task = r;
        there = admitted.there;
        more = more g at.Else-record;
        cell = cell;
        logged = subst (λ (b : ℕ). At c.args.cells.now (b + r.written) cell) c.log_base.ensures (record { within = omega (arith, room g at.Else-record, admitted.addressed.fits.cells, c.log_base.ensures); is = c.index-cells-next.is });
        counted = refl;
        after = cell_put s c.args.task (after_work r) (get_or c.args.addresses.now i 0) cell (g.M.Memory.contents c.write_back.new.memory) _ memory_put refl;
      };
      rest = wrote.rest;
      lender = wrote.lender;
    }
