-- The function that refuses goes through the refusals by number, so it refuses and accepts what the rules do.
use Rattle.std.proofs.Common.{◌≡◌, ℕ, ◌+◌, ◌-◌, ◌<◌, ◌≤◌, true, false, cond, not, ◌&&◌, eqb, ltb, leb, Some, None, Ok, Err, Decides, Option, Result, sym, refl, ap, ◌∙◌, subst, ⊎_elim, arith, lit<}
use Rattle.std.proofs.lemmas.Bool.{cases_lt, cases_Bool, cond-true, cond-false, le-leb, lt-leb, lt-ltb, le-ltb, not_from_true, not_from_false}
use Rattle.std.proofs.lemmas.Bool.Decides.{Decides-eqb, Decides-ltb, Decides-and, Decides-not}
use Rattle.std.specs.List.{slice_get}
use Rattle.cells.specs.declared.refusal.Refusal.{Refusal}
use Rattle.cells.specs.declared.refusal.Refusal.TheVariants.{RingLength, TaskCount, LogLength, LastPlace, MemorySize, ArrayLength, TaskNumber, Address, BrokenLine, OutputFull, Torn, PhaseForbids, LogFull, PlacesSpent, RingFull, MustWait}
use Rattle.filters.specs.declared.filter.Filter.{Ghosts}
use Rattle.rules.specs.declared.table.TaskRecord.{TaskRecord}
use Rattle.rules.specs.Calls.{Act, begin, read, write, commit, work, quit, by, kind, named}
use Rattle.rules.specs.Faults.{Blocking, Of, Waits, to_write, to_finish, Full, Commits, Waiting, Clear, Refuses, Accepts}
use Rattle.rules.specs.Lists.{At}
use Rattle.rules.specs.Logs.{Lacks}
use Rattle.rules.specs.Places.{Pending}
use Rattle.forced.specs.Play.{pendingb, blocking_down, find, noneb, insideb, fitsb, wholeb, refuse_if, waiting, wait_for, own, judge_record, judge}
use Rattle.rules.specs.State.{State, Fits, base}
use Rattle.rules.specs.Table.{allows}
use Rattle.rules.specs.Torn.{Whole, IsTorn, CommittedRules}
use Rattle.forced.proofs.Deciders.{refuted, confirmed, at_nth, at_within, decides_pending, decides_inside, decides_fits, decides_whole}
use Rattle.forced.proofs.Finds.{decides_lacks}
use Rattle.rules.proofs.Phases.{committed_rules}
use Rattle.forced.proofs.Verdicts.{blocking_down_lem, blocking_one}

module _ {F C : Type 0} (Φ : Ghosts F) (s : State F C) (r : TaskRecord F) (start : r.start < r.place) where
  -- How far the wait's walk goes.
  abbrev span : ℕ
  span = r.place - 1 - r.start

  -- What the wait's walk gives.
  abbrev walked : Option ℕ
  walked = blocking_down Φ s.slots s.ring r.writes r.start span

  -- The place before the writer's own, if unfinished.
  abbrev before : Option ℕ
  before = cond (pendingb s.slots s.ring (r.place - 1)) (Some (r.place - 1)) None

  -- The wait's walk goes over all places below the writer's own and above its start.
  walked_blocking : Blocking Φ s.slots s.ring r.writes r.start r.place walked
  walked_blocking =
      let top : r.start + span + 1 ≡ r.place = omega arith in
      subst (λ (p : ℕ). Blocking Φ s.slots s.ring r.writes r.start p walked) top (blocking_down_lem Φ s.slots s.ring r.writes r.start span)

  -- The place that the rules have a work wait for is the one given.
  wait_some : (place : ℕ) → Waits Φ s r place → wait_for Φ s r ≡ Some place
  unfolding wait_for
  wait_some place (to_write w) =
      cond-true (ltb r.written r.logged) walked before (lt-ltb r.written r.logged w.left) ∙
      blocking_one Φ s.slots s.ring r.writes r.start walked place walked_blocking (record { below = w.below; above = w.above; blocks = w.blocks; highest = w.highest })
  wait_some place (to_finish w) =
      let here : r.place - 1 ≡ place = omega (arith, w.before) in
      let none : r.logged ≤ r.written = omega (arith, w.none) in
      cond-false (ltb r.written r.logged) walked before (le-ltb r.written r.logged none) ∙
      cond-true (pendingb s.slots s.ring (r.place - 1)) (Some (r.place - 1)) None ((decides_pending (r.place - 1)).1 (subst (Pending s.slots s.ring) (sym here) w.pending)) ∙
      ap (λ (p : ℕ). Some p) here

  -- A work that need not wait is given no place.
  wait_none : r.written ≤ r.logged → ((place : ℕ) → Waits Φ s r place → ⊥) → wait_for Φ s r ≡ None
  unfolding wait_for
  wait_none within free =
      ⊎_elim
      (λ left. cond-true (ltb r.written r.logged) walked before (lt-ltb r.written r.logged left) ∙ none_walked left walked walked_blocking)
      (λ done. cond-false (ltb r.written r.logged) walked before (le-ltb r.written r.logged done) ∙ cond-false (pendingb s.slots s.ring (r.place - 1)) (Some (r.place - 1)) None (refuted (pendingb s.slots s.ring (r.place - 1)) (decides_pending (r.place - 1)) (λ pending. free (r.place - 1) (to_finish (record { none = omega arith; before = omega arith; pending = pending })))))
      (cases_lt r.written r.logged)
    where
      none_walked : r.written < r.logged → (o : Option ℕ) → Blocking Φ s.slots s.ring r.writes r.start r.place o → o ≡ None
      none_walked left None high = refl
      none_walked left (Some place) high = absurd (free place (to_write (record { left = left; below = high.below; above = high.above; blocks = high.blocks; highest = high.highest })))

module _ {F C : Type 0} (Φ : Ghosts F) (s : State F C) (t : ℕ) (act : Act C) where
  -- What is left to check after refusal 8, after 7 and after 6.
  abbrev after_inside : Result (TaskRecord F) Refusal
  after_inside = judge_record Φ s t act (slice_get s.table t)

  abbrev after_known : Result (TaskRecord F) Refusal
  after_known = refuse_if (not (insideb s.size (named act))) Address after_inside

  abbrev after_fits : Result (TaskRecord F) Refusal
  after_fits = refuse_if (leb s.tasks t) TaskNumber after_known

  -- What is clear up to a number is clear up to a lower one.
  clear_below : (n m : ℕ) → m ≤ n → Clear Φ s (by t act) n → Clear Φ s (by t act) m
  clear_below n m le clear q low fault = clear q (omega arith) fault

  -- Past refusal 6.
  past_fits : Clear Φ s (by t act) 7 → judge Φ s t act ≡ after_fits
  unfolding judge
  past_fits clear = cond-false (not (fitsb s)) (Err ArrayLength) after_fits (refuted (not (fitsb s)) (Decides-not (fitsb s) (decides_fits s)) (clear ArrayLength (lit< tt)))

  -- The task number is right.
  is_known : Clear Φ s (by t act) 8 → t < s.tasks
  is_known clear = ⊎_elim (λ low. low) (λ beyond. absurd (clear TaskNumber (lit< tt) beyond)) (cases_lt t s.tasks)

  -- Past refusal 7.
  past_known : Clear Φ s (by t act) 8 → judge Φ s t act ≡ after_known
  past_known clear = past_fits (clear_below 8 7 (omega arith) clear) ∙ cond-false (leb s.tasks t) (Err TaskNumber) after_known (lt-leb s.tasks t (is_known clear))

  -- Past refusal 8.
  past_inside : Clear Φ s (by t act) 9 → judge Φ s t act ≡ after_inside
  past_inside clear = past_known (clear_below 9 8 (omega arith) clear) ∙ cond-false (not (insideb s.size (named act))) (Err Address) after_inside (refuted (not (insideb s.size (named act))) (Decides-not (insideb s.size (named act)) (decides_inside s.size (named act))) (clear Address (lit< tt)))

  -- Where the lengths and the task number are right there is a record.
  pub record_there : Clear Φ s (by t act) 8 → (r : TaskRecord F) × At s.table t r
  record_there clear =
      let fits : Fits s = confirmed (decides_fits s) (clear ArrayLength (lit< tt)) in
      at_within s.table t (omega (arith, fits.table, is_known clear))

  module _ (r : TaskRecord F) (there : At s.table t r) where
    -- What is left to check after refusal 21.
    abbrev after_whole : Result (TaskRecord F) Refusal
    after_whole = refuse_if (not (allows r.phase (kind act))) PhaseForbids (own Φ s t r act)

    -- The caller's record is whole.
    is_whole : Clear Φ s (by t act) 22 → Whole s t r
    is_whole clear = confirmed (decides_whole s t r) (λ torn. clear Torn (lit< tt) (record { task = r; there = there; holds = torn }))

    -- Its phase allows the call.
    is_allowed : Clear Φ s (by t act) 23 → allows r.phase (kind act) ≡ true
    is_allowed clear = ⊎_elim (λ e. e) (λ e. absurd (clear PhaseForbids (lit< tt) (record { task = r; there = there; holds = e }))) (cases_Bool (allows r.phase (kind act)))

    -- To the record's refusals.
    to_record : Clear Φ s (by t act) 9 → judge Φ s t act ≡ judge_record Φ s t act (Some r)
    to_record clear = past_inside clear ∙ ap (λ (o : Option (TaskRecord F)). judge_record Φ s t act o) (at_nth there)

    -- Past refusal 21.
    past_whole : Clear Φ s (by t act) 22 → judge Φ s t act ≡ after_whole
    unfolding judge_record
    past_whole clear = to_record (clear_below 22 9 (omega arith) clear) ∙ cond-false (not (wholeb s t r)) (Err Torn) after_whole (not_from_true (wholeb s t r) ((decides_whole s t r).1 (is_whole clear)))

    -- Past refusal 22.
    to_own : Clear Φ s (by t act) 23 → judge Φ s t act ≡ own Φ s t r act
    to_own clear = past_whole (clear_below 23 22 (omega arith) clear) ∙ cond-false (not (allows r.phase (kind act))) (Err PhaseForbids) (own Φ s t r act) (not_from_true (allows r.phase (kind act)) (is_allowed clear))

  -- Refused with 21.
  judge_torn : Clear Φ s (by t act) 21 → Of s t (IsTorn s t) → judge Φ s t act ≡ Err Torn
  unfolding judge_record
  judge_torn clear torn = to_record torn.task torn.there (clear_below 21 9 (omega arith) clear) ∙ cond-true (not (wholeb s t torn.task)) (Err Torn) (after_whole torn.task torn.there) ((Decides-not (wholeb s t torn.task) (decides_whole s t torn.task)).1 torn.holds)

  -- Refused with 22.
  judge_forbids : Clear Φ s (by t act) 22 → Of s t (λ r. allows r.phase (kind act) ≡ false) → judge Φ s t act ≡ Err PhaseForbids
  judge_forbids clear of = past_whole of.task of.there clear ∙ cond-true (not (allows of.task.phase (kind act))) (Err PhaseForbids) (own Φ s t of.task act) (not_from_false (allows of.task.phase (kind act)) of.holds)

module _ {F C : Type 0} (Φ : Ghosts F) (s : State F C) (t : ℕ) (r : TaskRecord F) where
  -- The tests of the refusals 23 to 25 decide their conditions.
  decides_full : (a : ℕ) → Decides (eqb r.logged s.pairs && noneb (find s.addresses (base s t) a r.logged)) ((r.logged ≡ s.pairs) × Lacks s.addresses (base s t) r.logged a)
  decides_full a = Decides-and (eqb r.logged s.pairs) (noneb (find s.addresses (base s t) a r.logged)) (Decides-eqb r.logged s.pairs) (decides_lacks s.addresses (base s t) a r.logged)

  decides_spent : Decides (ltb 0 r.logged && eqb s.index s.last) ((0 < r.logged) × (s.index ≡ s.last))
  decides_spent = Decides-and (ltb 0 r.logged) (eqb s.index s.last) (Decides-ltb 0 r.logged) (Decides-eqb s.index s.last)

  -- The place that must be finished before a commit.
  abbrev oldest : ℕ
  oldest = s.index + 2 - s.slots

  decides_ring : Decides (ltb 0 r.logged && pendingb s.slots s.ring oldest) ((0 < r.logged) × Pending s.slots s.ring oldest)
  decides_ring = Decides-and (ltb 0 r.logged) (pendingb s.slots s.ring oldest) (Decides-ltb 0 r.logged) (decides_pending oldest)

  -- What is left to check of a commit after refusal 24.
  abbrev after_places : Result (TaskRecord F) Refusal
  after_places = refuse_if (ltb 0 r.logged && pendingb s.slots s.ring oldest) RingFull (Ok r)

  module _ (there : At s.table t r) where
    -- The rules that a work finds its record to keep.
    work_rules : Clear Φ s (by t work) 23 → CommittedRules s.pairs s.size s.index s.slots s.ring s.addresses (base s t) r
    work_rules clear = committed_rules s.pairs s.size s.index s.slots s.ring s.addresses (base s t) r r.phase (is_allowed Φ s t work r there clear) (is_whole Φ s t work r there (clear_below Φ s t work 23 22 (omega arith) clear))

    -- Past refusal 24.
    past_places : Clear Φ s (by t commit) 25 → own Φ s t r commit ≡ after_places
    unfolding own
    past_places clear = cond-false (ltb 0 r.logged && eqb s.index s.last) (Err PlacesSpent) after_places (refuted (ltb 0 r.logged && eqb s.index s.last) decides_spent (λ p. clear PlacesSpent (lit< tt) (record { task = r; there = there; holds = p })))

    -- An accepted call is given the caller's record.
    own_accepts : (act : Act C) → Accepts Φ s (by t act) → own Φ s t r act ≡ Ok r
    unfolding own
    own_accepts begin free = refl
    own_accepts (read a) free = refl
    own_accepts (write a c) free = cond-false (eqb r.logged s.pairs && noneb (find s.addresses (base s t) a r.logged)) (Err LogFull) (Ok r) (refuted (eqb r.logged s.pairs && noneb (find s.addresses (base s t) a r.logged)) (decides_full a) (λ p. free LogFull (record { task = r; there = there; holds = p })))
    own_accepts commit free = past_places (λ q low fault. free q fault) ∙ cond-false (ltb 0 r.logged && pendingb s.slots s.ring oldest) (Err RingFull) (Ok r) (refuted (ltb 0 r.logged && pendingb s.slots s.ring oldest) decides_ring (λ p. free RingFull (record { task = r; there = there; holds = p })))
    own_accepts work free =
        let rules = work_rules (λ q low fault. free q fault) in
        ap (λ (o : Option ℕ). waiting r o) (wait_none Φ s r rules.start rules.log.written (λ place waits. free (MustWait place) (record { task = r; there = there; holds = waits })))
    own_accepts quit free = refl

    -- The function accepts what the rules accept, with the caller's record.
    pub judge_accepts : (act : Act C) → Accepts Φ s (by t act) → judge Φ s t act ≡ Ok r
    judge_accepts act free = to_own Φ s t act r there (λ q low fault. free q fault) ∙ own_accepts act free

module _ {F C : Type 0} (Φ : Ghosts F) (s : State F C) (t : ℕ) where
  -- Refused with 23, which only a write is.
  judge_full : (act : Act C) → Clear Φ s (by t act) 23 → Full Φ s t act → judge Φ s t act ≡ Err LogFull
  unfolding own
  judge_full begin clear fault = absurd fault
  judge_full (read a) clear fault = absurd fault
  judge_full (write a c) clear fault =
      let r = fault.task in
      to_own Φ s t (write a c) r fault.there clear ∙ cond-true (eqb r.logged s.pairs && noneb (find s.addresses (base s t) a r.logged)) (Err LogFull) (Ok r) ((decides_full Φ s t r a).1 fault.holds)
  judge_full commit clear fault = absurd fault
  judge_full work clear fault = absurd fault
  judge_full quit clear fault = absurd fault

  -- Refused with 24, which only a commit is.
  judge_spent : (act : Act C) → Clear Φ s (by t act) 24 → Commits Φ s t act (s.index ≡ s.last) → judge Φ s t act ≡ Err PlacesSpent
  unfolding own
  judge_spent begin clear fault = absurd fault
  judge_spent (read a) clear fault = absurd fault
  judge_spent (write a c) clear fault = absurd fault
  judge_spent commit clear fault =
      let r = fault.task in
      to_own Φ s t commit r fault.there (clear_below Φ s t commit 24 23 (omega arith) clear) ∙ cond-true (ltb 0 r.logged && eqb s.index s.last) (Err PlacesSpent) (after_places Φ s t r) ((decides_spent Φ s t r).1 fault.holds)
  judge_spent work clear fault = absurd fault
  judge_spent quit clear fault = absurd fault

  -- Refused with 25, which only a commit is.
  judge_ring : (act : Act C) → Clear Φ s (by t act) 25 → Commits Φ s t act (Pending s.slots s.ring (s.index + 2 - s.slots)) → judge Φ s t act ≡ Err RingFull
  judge_ring begin clear fault = absurd fault
  judge_ring (read a) clear fault = absurd fault
  judge_ring (write a c) clear fault = absurd fault
  judge_ring commit clear fault =
      let r = fault.task in
      to_own Φ s t commit r fault.there (clear_below Φ s t commit 25 23 (omega arith) clear) ∙ past_places Φ s t r fault.there clear ∙ cond-true (ltb 0 r.logged && pendingb s.slots s.ring (s.index + 2 - s.slots)) (Err RingFull) (Ok r) ((decides_ring Φ s t r).1 fault.holds)
  judge_ring work clear fault = absurd fault
  judge_ring quit clear fault = absurd fault

  -- Refused with 26, which only a work is.
  judge_waits : (act : Act C) (place : ℕ) → Clear Φ s (by t act) 26 → Waiting Φ s t act place → judge Φ s t act ≡ Err (MustWait place)
  unfolding own
  judge_waits begin place clear fault = absurd fault
  judge_waits (read a) place clear fault = absurd fault
  judge_waits (write a c) place clear fault = absurd fault
  judge_waits commit place clear fault = absurd fault
  judge_waits work place clear fault =
      let r = fault.task in
      let far = clear_below Φ s t work 26 23 (omega arith) clear in
      to_own Φ s t work r fault.there far ∙ ap (λ (o : Option ℕ). waiting r o) (wait_some Φ s r (work_rules Φ s t r fault.there far).start place fault.holds)
  judge_waits quit place clear fault = absurd fault

  -- A refused call is refused with its number.
  pub judge_refuses : (act : Act C) (q : Refusal) → Refuses Φ s (by t act) q → judge Φ s t act ≡ Err q
  unfolding judge
  judge_refuses act RingLength refuses = absurd refuses.fault
  judge_refuses act TaskCount refuses = absurd refuses.fault
  judge_refuses act LogLength refuses = absurd refuses.fault
  judge_refuses act LastPlace refuses = absurd refuses.fault
  judge_refuses act MemorySize refuses = absurd refuses.fault
  judge_refuses act ArrayLength refuses = cond-true (not (fitsb s)) (Err ArrayLength) (after_fits Φ s t act) ((Decides-not (fitsb s) (decides_fits s)).1 refuses.fault)
  judge_refuses act TaskNumber refuses = past_fits Φ s t act refuses.earlier ∙ cond-true (leb s.tasks t) (Err TaskNumber) (after_known Φ s t act) (le-leb s.tasks t refuses.fault)
  judge_refuses act Address refuses = past_known Φ s t act refuses.earlier ∙ cond-true (not (insideb s.size (named act))) (Err Address) (after_inside Φ s t act) ((Decides-not (insideb s.size (named act)) (decides_inside s.size (named act))).1 refuses.fault)
  judge_refuses act BrokenLine refuses = absurd refuses.fault
  judge_refuses act OutputFull refuses = absurd refuses.fault
  judge_refuses act Torn refuses = judge_torn Φ s t act refuses.earlier refuses.fault
  judge_refuses act PhaseForbids refuses = judge_forbids Φ s t act refuses.earlier refuses.fault
  judge_refuses act LogFull refuses = judge_full act refuses.earlier refuses.fault
  judge_refuses act PlacesSpent refuses = judge_spent act refuses.earlier refuses.fault
  judge_refuses act RingFull refuses = judge_ring act refuses.earlier refuses.fault
  judge_refuses act (MustWait place) refuses = judge_waits act place refuses.earlier refuses.fault
