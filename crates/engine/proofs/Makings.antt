-- What a making refuses, and the chain that an accepted one starts.
use Rattle.std.proofs.Common.{◌≡◌, ℕ, ◌<◌, ◌≤◌, List, length, Ok, Err, Result, subst, arith}
use Rattle.cells.specs.declared.refusal.Refusal.{Refusal}
use Rattle.cells.specs.declared.refusal.Refusal.TheVariants.{RingLength, TaskCount, LogLength, LastPlace, MemorySize, ArrayLength, TaskNumber, Address, BrokenLine, OutputFull, Torn, PhaseForbids, LogFull, PlacesSpent, RingFull, MustWait}
use Rattle.cells.specs.Refusals.{number}
use Rattle.filters.specs.declared.filter.Filter.{Ghosts}
use Rattle.rules.specs.declared.ring.Entry.{Entry}
use Rattle.rules.specs.declared.table.TaskRecord.{TaskRecord}
use Rattle.rules.specs.Making.{Between, MakingFault, MakingRefused, WithinLimits}
use Rattle.rules.specs.Promise.{made}
use Rattle.rules.specs.State.{State, Fits}
use Rattle.promise.proofs.Promised.{stands}
use Rattle.promise.proofs.Promised.Laws.{Lawful}
use Rattle.engine.specs.declared.engine.Engine.{Engine}
use Rattle.engine.specs.declared.engine.Settings.{Settings}
use Rattle.engine.specs.Limits.{Fresh, Limited, Limits}
use Rattle.engine.specs.View.{asked, state, Begun, MakeStep}

module _ {F C : Type 0} (s : State F C) where
  -- What was found within its limits before the refusal with the number n.
  record Passed (n : ℕ) : Type 0 where
    pub ring : 1 < n → Between 2 s.slots 1024
    pub tasks : 2 < n → Between 1 s.tasks 64
    pub log : 3 < n → Between 1 s.pairs 256
    pub last : 4 < n → Between 1 s.last 4294967295
    pub size : 5 < n → Between 0 s.size 65536
    pub end : n ≤ 6

  -- None of the refusals with a lower number holds.
  none_earlier : (n : ℕ) → Passed n → (q : Refusal) → number q < n → MakingFault s q → ⊥
  none_earlier n passed RingLength low fault = fault (passed.ring low)
  none_earlier n passed TaskCount low fault = fault (passed.tasks low)
  none_earlier n passed LogLength low fault = fault (passed.log low)
  none_earlier n passed LastPlace low fault = fault (passed.last low)
  none_earlier n passed MemorySize low fault = fault (passed.size low)
  none_earlier n passed ArrayLength low fault = omega (arith, passed.end)
  none_earlier n passed TaskNumber low fault = fault
  none_earlier n passed Address low fault = fault
  none_earlier n passed BrokenLine low fault = fault
  none_earlier n passed OutputFull low fault = fault
  none_earlier n passed Torn low fault = fault
  none_earlier n passed PhaseForbids low fault = fault
  none_earlier n passed LogFull low fault = fault
  none_earlier n passed PlacesSpent low fault = fault
  none_earlier n passed RingFull low fault = fault
  none_earlier n passed (MustWait place) low fault = fault

  -- A number outside its limits refuses the making.
  pub limits_refuse : (q : Refusal) → Limits (record { slots = s.slots; tasks = s.tasks; pairs = s.pairs; last = s.last }) s.size (Err q) → MakingRefused s q
  limits_refuse RingLength wrong = record { fault = wrong; earlier = none_earlier 1 (record { ring = λ h. absurd (omega arith); tasks = λ h. absurd (omega arith); log = λ h. absurd (omega arith); last = λ h. absurd (omega arith); size = λ h. absurd (omega arith); end = omega arith }) }
  limits_refuse TaskCount (ring, wrong) = record { fault = wrong; earlier = none_earlier 2 (record { ring = λ _. ring; tasks = λ h. absurd (omega arith); log = λ h. absurd (omega arith); last = λ h. absurd (omega arith); size = λ h. absurd (omega arith); end = omega arith }) }
  limits_refuse LogLength (ring, tasks, wrong) = record { fault = wrong; earlier = none_earlier 3 (record { ring = λ _. ring; tasks = λ _. tasks; log = λ h. absurd (omega arith); last = λ h. absurd (omega arith); size = λ h. absurd (omega arith); end = omega arith }) }
  limits_refuse LastPlace (ring, tasks, log, wrong) = record { fault = wrong; earlier = none_earlier 4 (record { ring = λ _. ring; tasks = λ _. tasks; log = λ _. log; last = λ h. absurd (omega arith); size = λ h. absurd (omega arith); end = omega arith }) }
  limits_refuse MemorySize (ring, tasks, log, last, wrong) = record { fault = wrong; earlier = none_earlier 5 (record { ring = λ _. ring; tasks = λ _. tasks; log = λ _. log; last = λ _. last; size = λ h. absurd (omega arith); end = omega arith }) }
  limits_refuse ArrayLength wrong = absurd wrong
  limits_refuse TaskNumber wrong = absurd wrong
  limits_refuse Address wrong = absurd wrong
  limits_refuse BrokenLine wrong = absurd wrong
  limits_refuse OutputFull wrong = absurd wrong
  limits_refuse Torn wrong = absurd wrong
  limits_refuse PhaseForbids wrong = absurd wrong
  limits_refuse LogFull wrong = absurd wrong
  limits_refuse PlacesSpent wrong = absurd wrong
  limits_refuse RingFull wrong = absurd wrong
  limits_refuse (MustWait place) wrong = absurd wrong

  -- Wrong lengths refuse the making once the numbers are right.
  pub making_unfit : Limited (record { slots = s.slots; tasks = s.tasks; pairs = s.pairs; last = s.last }) s.size → (Fits s → ⊥) → MakingRefused s ArrayLength
  making_unfit within wrong = record { fault = wrong; earlier = none_earlier 6 (record { ring = λ _. within.ring; tasks = λ _. within.tasks; log = λ _. within.log; last = λ _. within.last; size = λ _. within.size_within; end = omega arith }) }

module _ {F C : Type 0} {w : Settings} (memory : List C) {e : Engine} (fresh : Fresh w (length memory) e) (ring : List (Entry F)) (table : List (TaskRecord F)) (addresses : List ℕ) (cells : List C) where
  -- An engine that is made has the numbers that were asked for.
  pub fresh_state : state e memory ring table addresses cells ≡ asked w memory ring table addresses cells
  fresh_state = λ i. record { slots = (fresh.settings i).slots; tasks = (fresh.settings i).tasks; pairs = (fresh.settings i).pairs; last = (fresh.settings i).last; size = fresh.size i; index = fresh.index i; memory = memory; ring = ring; table = table; addresses = addresses; cells = cells }

  -- Where the arrays fit it, nothing refuses the making.
  pub fresh_within : Fits (state e memory ring table addresses cells) → WithinLimits (asked w memory ring table addresses cells)
  fresh_within fits = record { ring = fresh.within.ring; tasks = fresh.within.tasks; log = fresh.within.log; last = fresh.within.last; size = fresh.within.size_within; fits = subst Fits fresh_state fits }

module _ {F C : Type 0} (Φ : Ghosts F) (laws : Lawful Φ) (before : State F C) (after : Engine → State F C) (unmade : State F C) where
  -- The chain is the making alone, and the main promise holds of it as of any chain.
  pub begun : (r : Result Engine Refusal) → MakeStep Φ before r after unmade → Begun Φ before.memory r after
  begun (Ok e) step =
      let chain = made before (after e) step in
      (chain, stands Φ laws chain)
  begun (Err refusal) step = tt
