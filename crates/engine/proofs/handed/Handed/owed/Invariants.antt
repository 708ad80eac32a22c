use Rattle.std.proofs.Common.{◌≡◌, ℕ, ◌*◌, ◌<◌, ◌≤◌, take, sum_by}
use Rattle.rules.specs.declared.table.TaskRecord.{TaskRecord}
use Rattle.rules.specs.Lists.{At}
use Rattle.rules.specs.Steps.{owes}
use Rattle.rules.specs.Torn.{PhaseRules}
use Rattle.engine.proofs.handed.Handed.owed.Given as goal

-- The records passed are whole, and `owed` is what they owe together.
abbrev pub invariant-loop-task : goal.invariant-loop-task
invariant-loop-task g l = record {
  counted : l.owed ≡ sum_by owes (take l.task l.self.table.now);
  few : l.owed ≤ l.task * 257;
  whole : (k : ℕ) (r : TaskRecord g.row.F.Denot) → k < l.task → At l.self.table.now k r → PhaseRules l.self.engine.now.settings.pairs l.self.engine.now.size l.self.engine.now.index l.self.engine.now.settings.slots l.self.ring.now l.self.addresses.now (k * l.self.engine.now.settings.pairs) r r.phase;
}
