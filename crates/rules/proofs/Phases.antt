-- What a whole record in a known phase keeps.
use Rattle.std.proofs.Common.{◌≡◌, ℕ, true, false, List}
use Rattle.std.proofs.lemmas.Bool.{both_ways}
use Rattle.rules.specs.declared.ring.Entry.{Entry}
use Rattle.rules.specs.declared.table.CallKind.{CallKind}
use Rattle.rules.specs.declared.table.CallKind.TheVariants.{Work}
use Rattle.rules.specs.declared.table.Phase.{Phase}
use Rattle.rules.specs.declared.table.Phase.TheVariants.{Idle, Open, Committed}
use Rattle.rules.specs.declared.table.TaskRecord.{TaskRecord}
use Rattle.rules.specs.Table.{allows}
use Rattle.rules.specs.Torn.{PhaseRules, OpenRules, CommittedRules}

module _ {F : Type 0} (pairs size index slots : ℕ) (ring : List (Entry F)) (addresses : List ℕ) (base : ℕ) (r : TaskRecord F) where
  -- A call that needs Open finds the rules of an Open record.
  pub open_rules : (call : CallKind) → allows Idle call ≡ false → allows Committed call ≡ false → (phase : Phase) → allows phase call ≡ true → PhaseRules pairs size index slots ring addresses base r phase → OpenRules pairs size index addresses base r
  open_rules call idle committed Idle allowed rules = absurd (both_ways (allows Idle call) idle allowed)
  open_rules call idle committed Open allowed rules = rules
  open_rules call idle committed Committed allowed rules = absurd (both_ways (allows Committed call) committed allowed)

  -- Work finds the rules of a Committed record.
  pub committed_rules : (phase : Phase) → allows phase Work ≡ true → PhaseRules pairs size index slots ring addresses base r phase → CommittedRules pairs size index slots ring addresses base r
  committed_rules Idle allowed rules = absurd (both_ways false (λ i. false) allowed)
  committed_rules Open allowed rules = absurd (both_ways false (λ i. false) allowed)
  committed_rules Committed allowed rules = rules
