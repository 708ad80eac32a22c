-- What the played step refuses and accepts, the rules refuse and accept.
use Rattle.std.proofs.Common.{◌≡◌, ℕ, zero, suc, ◌+◌, ◌-◌, ◌<◌, ◌≤◌, false, Some, None, Ok, Err, Option, Result, ap, subst, ⊎_elim, arith, lit≤}
use Rattle.std.proofs.lemmas.Bool.{both_ways, cases_lt, cases_eq, cases_Bool}
use Rattle.cells.specs.declared.refusal.Refusal.{Refusal}
use Rattle.cells.specs.declared.refusal.Refusal.TheVariants.{RingLength, TaskCount, LogLength, LastPlace, MemorySize, ArrayLength, TaskNumber, Address, BrokenLine, OutputFull, Torn, PhaseForbids, LogFull, PlacesSpent, RingFull, MustWait}
use Rattle.cells.specs.Refusals.{number}
use Rattle.filters.specs.contracts.small.SmallFilter.TheImpl.{ghosts}
use Rattle.filters.specs.declared.small.Small.{Small}
use Rattle.rules.specs.declared.table.TaskRecord.{TaskRecord}
use Rattle.rules.specs.Calls.{Act, begin, read, write, commit, work, quit, by, kind}
use Rattle.rules.specs.Faults.{Blocking, Of, Waits, to_write, to_finish, Full, Commits, Waiting, TaskFault, Clear, Refuses, Accepts}
use Rattle.rules.specs.Lists.{At}
use Rattle.rules.specs.Places.{Pending}
use Rattle.rules.specs.State.{State}
use Rattle.rules.specs.Table.{allows}
use Rattle.rules.specs.Torn.{IsTorn}
use Rattle.rules.proofs.AtLaws.{at_one}
use Rattle.forced.specs.Play.{blocking_down, judge}
use Rattle.forced.proofs.Deciders.{confirmed, decides_pending}
use Rattle.forced.proofs.Judged.{record_there, judge_accepts, judge_refuses}
use Rattle.forced.proofs.Verdicts.{blocking_down_lem}

-- An equation or an order of numbers that is not refuted holds.
eq_stable : (m n : ℕ) → ((m ≡ n → ⊥) → ⊥) → m ≡ n
eq_stable m n un = ⊎_elim (λ e. e) (λ never. absurd (un never)) (cases_eq m n)

lt_stable : (m n : ℕ) → ((m < n → ⊥) → ⊥) → m < n
lt_stable m n un = ⊎_elim (λ less. less) (λ more. absurd (un (λ less. omega arith))) (cases_lt m n)

module _ (s : State Small ℕ) (t : ℕ) (act : Act ℕ) where
  -- What the played step makes of the call before it acts.
  abbrev judged : Result (TaskRecord Small) Refusal
  judged = judge ghosts s t act

  -- It does not both accept and refuse.
  clash : (r : TaskRecord Small) (q : Refusal) → judged ≡ Ok r → judged ≡ Err q → ⊥
  clash r q a b = let z : ◌≡◌ {A = ℕ} 0 1 = cc in omega arith

  -- It refuses with one refusal.
  one_refusal : (p q : Refusal) → judged ≡ Err p → judged ≡ Err q → p ≡ q
  one_refusal p q a b = cc

  -- By induction over the numbers: where no refusal of a kind is played though its fault holds, no fault of that kind holds.
  faultless : (K : Refusal → Type 0) → ((p q : Refusal) → number p < number q → K q → K p) → ((q : Refusal) → K q → TaskFault ghosts s t act q → judged ≡ Err q → ⊥) → (n : ℕ) (q : Refusal) → number q < n → K q → TaskFault ghosts s t act q → ⊥
  faultless K down never zero q low k fault = omega arith
  faultless K down never (suc n) q low k fault = never q k fault (judge_refuses ghosts s t act q (record { fault = fault; earlier = λ p less f. faultless K down never n p (omega arith) (down p q less k) f }))

  -- What is accepted has no fault.
  pub accepts : (r : TaskRecord Small) → judged ≡ Ok r → Accepts ghosts s (by t act)
  accepts r is q fault = faultless (λ _. Unit {0}) (λ x y low k. tt) (λ p k f other. clash r p is other) (number q + 1) q (omega arith) tt fault

  -- It is accepted with the caller's record.
  pub record_is : (r : TaskRecord Small) → judged ≡ Ok r → At s.table t r
  record_is r is =
      let found = record_there ghosts s t act (λ q low fault. accepts r is q fault) in
      let own = judge_accepts ghosts s t found.0 found.1 act (accepts r is) in
      let same : found.0 ≡ r = cc in
      subst (λ (x : TaskRecord Small). At s.table t x) same found.1

  -- What is refused has no fault with a lower number.
  earlier : (q : Refusal) → judged ≡ Err q → Clear ghosts s (by t act) (number q)
  earlier q is p less fault = faultless (λ x. number x < number q) (λ x y low k. omega arith) (λ x k f other. omega (arith, ap number (one_refusal x q other is))) (number p + 1) p (omega arith) less fault

  -- Its own fault cannot be refuted.
  unrefuted : (q : Refusal) → judged ≡ Err q → (TaskFault ghosts s t act q → ⊥) → ⊥
  unrefuted q is never =
      let free : Accepts ghosts s (by t act) = λ p fault. faultless (λ _. Unit {0}) (λ x y low k. tt) (λ x k f other. never (subst (λ (y : Refusal). TaskFault ghosts s t act y) (one_refusal x q other is) f)) (number p + 1) p (omega arith) tt fault in
      let found = record_there ghosts s t act (λ p low fault. free p fault) in
      clash found.0 q (judge_accepts ghosts s t found.0 found.1 act free) is

  -- Where it is none of the first refusals, the caller has a record.
  caller : (q : Refusal) → judged ≡ Err q → 8 ≤ number q → (r : TaskRecord Small) × At s.table t r
  caller q is late = record_there ghosts s t act (λ p low fault. earlier q is p (omega arith) fault)

  -- A fact of the caller's record that cannot be refuted of some record cannot be refuted of this one.
  of_this : (P : TaskRecord Small → Type 0) (r : TaskRecord Small) → At s.table t r → ((Of s t P → ⊥) → ⊥) → (P r → ⊥) → ⊥
  of_this P r there un never = un (λ of. never (subst P (at_one of.there there) of.holds))

module _ (s : State Small ℕ) (t : ℕ) where
  -- A wait that cannot be refuted is one.
  wait_stable : (r : TaskRecord Small) (place : ℕ) → ((Waits ghosts s r place → ⊥) → ⊥) → Waits ghosts s r place
  wait_stable r place un = ⊎_elim unwritten written (cases_lt r.written r.logged)
    where
      span : ℕ
      span = r.place - 1 - r.start

      unwritten : r.written < r.logged → Waits ghosts s r place
      unwritten left = go (blocking_down ghosts s.slots s.ring r.writes r.start span) (blocking_down_lem ghosts s.slots s.ring r.writes r.start span)
        where
          low : r.start < r.place
          low = lt_stable r.start r.place (λ never. un (λ waits. elim waits [ to_write w ↦ never (omega (arith, w.below, w.above)) | to_finish w ↦ omega (arith, w.none) ]))

          go : (o : Option ℕ) → Blocking ghosts s.slots s.ring r.writes r.start (r.start + span + 1) o → Waits ghosts s r place
          go None none = absurd (un (λ waits. elim waits [ to_write w ↦ none place w.above (omega (arith, w.below, low)) w.blocks | to_finish w ↦ omega (arith, w.none) ]))
          go (Some found) high =
              let same : found ≡ place = eq_stable found place (λ never. un (λ waits. elim waits [ to_write w ↦ ⊎_elim (λ less. high.highest place less (omega (arith, w.below, low)) w.blocks) (λ le. w.highest found (omega (arith, never)) (omega (arith, high.below, low)) high.blocks) (cases_lt found place) | to_finish w ↦ omega (arith, w.none) ])) in
              subst (λ (p : ℕ). Waits ghosts s r p) same (to_write (record { left = left; below = omega (arith, high.below, low); above = high.above; blocks = high.blocks; highest = λ i above below meets. high.highest i above (omega (arith, low)) meets }))

      written : r.logged ≤ r.written → Waits ghosts s r place
      written done = to_finish (record {
        none = eq_stable r.written r.logged (λ never. un (λ waits. elim waits [ to_write w ↦ omega (arith, w.left) | to_finish w ↦ never w.none ]));
        before = eq_stable (place + 1) r.place (λ never. un (λ waits. elim waits [ to_write w ↦ omega (arith, w.left) | to_finish w ↦ never w.before ]));
        pending = confirmed (decides_pending place) (λ never. un (λ waits. elim waits [ to_write w ↦ omega (arith, w.left) | to_finish w ↦ never w.pending ]));
      })

  -- A full log, a commit with a fact besides, and a wait, by call.
  full : (act : Act ℕ) → judge ghosts s t act ≡ Err LogFull → Full ghosts s t act
  full begin is = unrefuted s t begin LogFull is (λ f. f)
  full (read a) is = unrefuted s t (read a) LogFull is (λ f. f)
  full (write a c) is =
      let own = caller s t (write a c) LogFull is (lit≤ tt) in
      let un = of_this s t (write a c) _ own.0 own.1 (unrefuted s t (write a c) LogFull is) in
      record { task = own.0; there = own.1; holds = (eq_stable own.0.logged s.pairs (λ never. un (λ p. never p.0)), λ k low here. un (λ p. p.1 k low here)) }
  full commit is = unrefuted s t commit LogFull is (λ f. f)
  full work is = unrefuted s t work LogFull is (λ f. f)
  full quit is = unrefuted s t quit LogFull is (λ f. f)

  commits : (P : Type 0) → (((P → ⊥) → ⊥) → P) → (act : Act ℕ) (q : Refusal) → judge ghosts s t act ≡ Err q → 8 ≤ number q → ((Commits ghosts s t act P → ⊥) → ⊥) → Commits ghosts s t act P
  commits P stable begin q is late un = absurd (un (λ f. f))
  commits P stable (read a) q is late un = absurd (un (λ f. f))
  commits P stable (write a c) q is late un = absurd (un (λ f. f))
  commits P stable commit q is late un =
      let own = caller s t commit q is late in
      let un' = of_this s t commit _ own.0 own.1 un in
      record { task = own.0; there = own.1; holds = (lt_stable 0 own.0.logged (λ never. un' (λ p. never p.0)), stable (λ never. un' (λ p. never p.1))) }
  commits P stable work q is late un = absurd (un (λ f. f))
  commits P stable quit q is late un = absurd (un (λ f. f))

  waits : (act : Act ℕ) (place : ℕ) → judge ghosts s t act ≡ Err (MustWait place) → Waiting ghosts s t act place
  waits begin place is = unrefuted s t begin (MustWait place) is (λ f. f)
  waits (read a) place is = unrefuted s t (read a) (MustWait place) is (λ f. f)
  waits (write a c) place is = unrefuted s t (write a c) (MustWait place) is (λ f. f)
  waits commit place is = unrefuted s t commit (MustWait place) is (λ f. f)
  waits work place is =
      let own = caller s t work (MustWait place) is (lit≤ tt) in
      record { task = own.0; there = own.1; holds = wait_stable own.0 place (of_this s t work (λ r. Waits ghosts s r place) own.0 own.1 (unrefuted s t work (MustWait place) is)) }
  waits quit place is = unrefuted s t quit (MustWait place) is (λ f. f)

  -- The fault of the played refusal holds.
  fault : (act : Act ℕ) (q : Refusal) → judge ghosts s t act ≡ Err q → TaskFault ghosts s t act q
  fault act RingLength is = unrefuted s t act RingLength is (λ f. f)
  fault act TaskCount is = unrefuted s t act TaskCount is (λ f. f)
  fault act LogLength is = unrefuted s t act LogLength is (λ f. f)
  fault act LastPlace is = unrefuted s t act LastPlace is (λ f. f)
  fault act MemorySize is = unrefuted s t act MemorySize is (λ f. f)
  fault act ArrayLength is = λ fits. unrefuted s t act ArrayLength is (λ f. f fits)
  fault act TaskNumber is = ⊎_elim (λ less. absurd (unrefuted s t act TaskNumber is (λ more. omega arith))) (λ more. more) (cases_lt t s.tasks)
  fault act Address is = λ inside. unrefuted s t act Address is (λ f. f inside)
  fault act BrokenLine is = unrefuted s t act BrokenLine is (λ f. f)
  fault act OutputFull is = unrefuted s t act OutputFull is (λ f. f)
  fault act Torn is =
      let own = caller s t act Torn is (lit≤ tt) in
      record { task = own.0; there = own.1; holds = λ whole. of_this s t act (IsTorn s t) own.0 own.1 (unrefuted s t act Torn is) (λ torn. torn whole) }
  fault act PhaseForbids is =
      let own = caller s t act PhaseForbids is (lit≤ tt) in
      let allowed = allows own.0.phase (kind act) in
      record { task = own.0; there = own.1; holds = ⊎_elim (λ e. absurd (of_this s t act (λ r. allows r.phase (kind act) ≡ false) own.0 own.1 (unrefuted s t act PhaseForbids is) (λ f. both_ways (allows own.0.phase (kind act)) f e))) (λ e. e) (cases_Bool (allows own.0.phase (kind act))) }
  fault act LogFull is = full act is
  fault act PlacesSpent is = commits (s.index ≡ s.last) (eq_stable s.index s.last) act PlacesSpent is (lit≤ tt) (unrefuted s t act PlacesSpent is)
  fault act RingFull is = commits (Pending s.slots s.ring (s.index + 2 - s.slots)) (confirmed (decides_pending (s.index + 2 - s.slots))) act RingFull is (lit≤ tt) (unrefuted s t act RingFull is)
  fault act (MustWait place) is = waits act place is

  -- The rules refuse what is refused in play.
  pub refuses : (act : Act ℕ) (q : Refusal) → judge ghosts s t act ≡ Err q → Refuses ghosts s (by t act) q
  refuses act q is = record { fault = fault act q is; earlier = earlier s t act q is }
