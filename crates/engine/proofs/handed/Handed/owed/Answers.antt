use Rattle.std.proofs.Common.{ℕ, ◌*◌, sum_by, refl, ap, ◌∙◌, subst, arith}
use Rattle.std.proofs.lemmas.List.{take_all}
use Rattle.rules.specs.declared.table.TaskRecord.{TaskRecord}
use Rattle.rules.specs.Lists.{At}
use Rattle.rules.specs.Steps.{owes}
use Rattle.rules.specs.Torn.{PhaseRules}
use Rattle.engine.specs.View.{seen}
use Rattle.rules.proofs.AtLaws.{at_below_more}
use Rattle.rules.proofs.Counts.{torn_refuses, whole_accepts, owes_more, owes_idle, owes_committed}
use Rattle.engine.proofs.Admissions.{lengths_refuse}
use Rattle.engine.proofs.handed.Handed.owed.Given as given
use Rattle.engine.proofs.handed.Handed.owed.Goals as goal
use Rattle.engine.proofs.handed.Handed.owed.Goals.{After-whole, in-Committed, in-Idle}

pub returns-then-not-fits : goal.returns-then-not-fits
returns-then-not-fits g c = record { refuses = lengths_refuse (seen g.M.Memory.contents c.args.self.now) g.F.Filter c.if-not-fits.ensures; after = refl }

-- The record of a turn stands in the table.
there : (g : given.Over) (c : After-whole g) → At c.args.self.now.table.now c.loop-task.task c.record-item.result
there g c = record { within = omega arith; is = c.record-item.is }

pub returns-then-not-whole : goal.returns-then-not-whole
returns-then-not-whole g c = record {
  refuses = torn_refuses g.F.Filter (seen g.M.Memory.contents c.args.self.now) c.if-not-fits.ensures c.loop-task.task (record { task = c.record-item.result; there = there g (goal.at.returns-then-not-whole g c).After-whole; holds = c.if-not-whole.ensures });
  after = refl;
}

pub loop-task-preserved : goal.loop-task-preserved
loop-task-preserved g c =
    let engine = c.args.self.now.engine.now in
    let t = c.loop-task.task in
    let r = c.record-item.result in
    let here = there g (goal.at.loop-task-preserved g c).After-whole in
    let rules = λ (k : ℕ) (x : TaskRecord g.row.F.Denot). PhaseRules engine.settings.pairs engine.size engine.index engine.settings.slots c.args.self.now.ring.now c.args.self.now.addresses.now (k * engine.settings.pairs) x x.phase in
    let whole = at_below_more rules c.loop-task.invariant.whole here c.if-not-whole.ensures in
    let summed = owes_more c.args.self.now.table.now t r here in
    elim c.match-record.branch [
      | in-Committed w ↦
          let owing = owes_committed r w.in-Committed.is in
          let kept = subst (PhaseRules engine.settings.pairs engine.size engine.index engine.settings.slots c.args.self.now.ring.now c.args.self.now.addresses.now (t * engine.settings.pairs) r) w.in-Committed.is c.if-not-whole.ensures in
          record { counted = omega (arith, w.owed-is, owing, summed, c.loop-task.invariant.counted); few = omega (arith, w.owed-is, kept.log.logged, engine.log_limits.1, c.loop-task.invariant.few); whole = whole }
      | in-Idle w ↦ let owing = owes_idle r w.in-Idle.is in record { counted = omega (arith, w.owed-is, owing, summed, c.loop-task.invariant.counted); few = omega (arith, w.owed-is, c.loop-task.invariant.few); whole = whole }
    ]

pub returns : goal.returns
returns g c =
    let s = seen g.M.Memory.contents c.args.self.now in
    let fits = c.if-not-fits.ensures in
    record {
      accepts = whole_accepts g.F.Filter s fits (λ t r at. c.loop-task.invariant.whole t r (omega (arith, at.within)) at);
      counted = c.loop-task.invariant.counted ∙ ap (sum_by owes) (take_all c.loop-task.task c.args.self.now.table.now (omega arith));
      after = refl;
    }
