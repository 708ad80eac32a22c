-- From what the checks found to the refusal, or to acceptance: checks go by number.
use Rattle.std.proofs.Common.{◌≡◌, ℕ, ◌+◌, ◌-◌, ◌<◌, false, None, Err, ap, ◌∙◌, subst, arith, lit<}
use Rattle.std.proofs.lemmas.Bool.{both_ways}
use Rattle.cells.specs.declared.refusal.Refusal.{Refusal}
use Rattle.cells.specs.declared.refusal.Refusal.TheVariants.{RingLength, TaskCount, LogLength, LastPlace, MemorySize, ArrayLength, TaskNumber, Address, BrokenLine, OutputFull, Torn, PhaseForbids, LogFull, PlacesSpent, RingFull, MustWait}
use Rattle.cells.specs.Refusals.{number}
use Rattle.filters.specs.declared.filter.Filter.{Ghosts}
use Rattle.rules.specs.declared.table.TaskRecord.{TaskRecord}
use Rattle.rules.specs.Admission.{Admitted, Rejected, NextPlace}
use Rattle.rules.specs.declared.table.CallKind.TheVariants.{Commit, Work}
use Rattle.rules.specs.Calls.{Act, write, commit, work, by, kind, named, Inside}
use Rattle.rules.specs.Faults.{Meets, Of, Waits, to_write, to_finish, Full, Commits, Waiting, Clear, Refuses, Accepts}
use Rattle.rules.specs.Lists.{At}
use Rattle.rules.specs.Logs.{First}
use Rattle.rules.specs.Places.{Pending}
use Rattle.rules.specs.State.{State, Fits, base}
use Rattle.rules.specs.Table.{allows}
use Rattle.rules.specs.Torn.{Whole, IsTorn}
use Rattle.rules.proofs.AtLaws.{at_one}

-- Every number is below 27.
number_bound : (q : Refusal) → number q < 27
number_bound RingLength = lit< tt
number_bound TaskCount = lit< tt
number_bound LogLength = lit< tt
number_bound LastPlace = lit< tt
number_bound MemorySize = lit< tt
number_bound ArrayLength = lit< tt
number_bound TaskNumber = lit< tt
number_bound Address = lit< tt
number_bound BrokenLine = lit< tt
number_bound OutputFull = lit< tt
number_bound Torn = lit< tt
number_bound PhaseForbids = lit< tt
number_bound LogFull = lit< tt
number_bound PlacesSpent = lit< tt
number_bound RingFull = lit< tt
number_bound (MustWait place) = lit< tt

module _ {F C : Type 0} (Φ : Ghosts F) (s : State F C) (t : ℕ) (act : Act C) where
  -- The place whose entry the next writer but one would take over.
  abbrev oldest : ℕ
  oldest = s.index + 2 - s.slots

  -- What was checked, of each refusal that a task's call can have, as far as the number n.
  record Checked (n : ℕ) : Type 0 where
    pub fits : 6 < n → Fits s
    pub known : 7 < n → t < s.tasks
    pub inside : 8 < n → Inside s.size (named act)
    pub whole : 21 < n → Of s t (IsTorn s t) → ⊥
    pub allowed : 22 < n → Of s t (λ r. allows r.phase (kind act) ≡ false) → ⊥
    pub room : 23 < n → Full Φ s t act → ⊥
    pub places : 24 < n → Commits Φ s t act (s.index ≡ s.last) → ⊥
    pub ring : 25 < n → Commits Φ s t act (Pending s.slots s.ring oldest) → ⊥
    pub free : 26 < n → (place : ℕ) → Waiting Φ s t act place → ⊥

  -- No fault with a lower number than n holds, if all was checked that far.
  clear : (n : ℕ) → Checked n → Clear Φ s (by t act) n
  clear n c RingLength low fault = fault
  clear n c TaskCount low fault = fault
  clear n c LogLength low fault = fault
  clear n c LastPlace low fault = fault
  clear n c MemorySize low fault = fault
  clear n c ArrayLength low fault = fault (c.fits low)
  clear n c TaskNumber low fault = let known = c.known low in omega arith
  clear n c Address low fault = fault (c.inside low)
  clear n c BrokenLine low fault = fault
  clear n c OutputFull low fault = fault
  clear n c Torn low fault = c.whole low fault
  clear n c PhaseForbids low fault = c.allowed low fault
  clear n c LogFull low fault = c.room low fault
  clear n c PlacesSpent low fault = c.places low fault
  clear n c RingFull low fault = c.ring low fault
  clear n c (MustWait place) low fault = c.free low place fault

  module _ (r : TaskRecord F) (a : Admitted s t (kind act) (named act) r) where
    -- The caller's record is whole, so none that stands there is torn.
    not_torn : Of s t (IsTorn s t) → ⊥
    not_torn torn = torn.holds (subst (Whole s t) (at_one a.there torn.there) a.whole)

    -- The caller's phase allows the call.
    not_forbidden : Of s t (λ r. allows r.phase (kind act) ≡ false) → ⊥
    not_forbidden of = both_ways (allows r.phase (kind act)) (ap (λ (x : TaskRecord F). allows x.phase (kind act)) (at_one a.there of.there) ∙ of.holds) a.allowed

    -- The rest of the checks, where the shared ones are passed.
    module _ (n : ℕ)
        (room : 23 < n → Full Φ s t act → ⊥)
        (places : 24 < n → Commits Φ s t act (s.index ≡ s.last) → ⊥)
        (ring : 25 < n → Commits Φ s t act (Pending s.slots s.ring oldest) → ⊥)
        (free : 26 < n → (place : ℕ) → Waiting Φ s t act place → ⊥) where
      pub clear_after : Clear Φ s (by t act) n
      clear_after = clear n (record {
        fits = λ _. a.addressed.fits;
        known = λ _. a.addressed.known;
        inside = λ _. a.addressed.inside;
        whole = λ _. not_torn;
        allowed = λ _. not_forbidden;
        room = room;
        places = places;
        ring = ring;
        free = free;
      })

    -- An admitted call without a fault of its own is accepted.
    pub accepts : (Full Φ s t act → ⊥) → (Commits Φ s t act (s.index ≡ s.last) → ⊥) → (Commits Φ s t act (Pending s.slots s.ring oldest) → ⊥) → ((place : ℕ) → Waiting Φ s t act place → ⊥) → Accepts Φ s (by t act)
    accepts room places ring free q fault = clear_after 27 (λ _. room) (λ _. places) (λ _. ring) (λ _. free) q (number_bound q) fault

    -- The first refusal beyond the shared checks.
    pub refuses_full : Full Φ s t act → Refuses Φ s (by t act) LogFull
    refuses_full full = record { fault = full; earlier = clear_after 23 (λ h. absurd (omega arith)) (λ h. absurd (omega arith)) (λ h. absurd (omega arith)) (λ h. absurd (omega arith)) }

  -- A call that the shared checks reject is refused with that number.
  pub rejects : (q : Refusal) → Rejected s t (kind act) (named act) q → Refuses Φ s (by t act) q
  rejects RingLength no_fault = absurd no_fault
  rejects TaskCount no_fault = absurd no_fault
  rejects LogLength no_fault = absurd no_fault
  rejects LastPlace no_fault = absurd no_fault
  rejects MemorySize no_fault = absurd no_fault
  rejects ArrayLength wrong = record { fault = wrong; earlier = clear 6 (record { fits = λ h. absurd (omega arith); known = λ h. absurd (omega arith); inside = λ h. absurd (omega arith); whole = λ h. absurd (omega arith); allowed = λ h. absurd (omega arith); room = λ h. absurd (omega arith); places = λ h. absurd (omega arith); ring = λ h. absurd (omega arith); free = λ h. absurd (omega arith) }) }
  rejects TaskNumber (fits, beyond) = record { fault = beyond; earlier = clear 7 (record { fits = λ _. fits; known = λ h. absurd (omega arith); inside = λ h. absurd (omega arith); whole = λ h. absurd (omega arith); allowed = λ h. absurd (omega arith); room = λ h. absurd (omega arith); places = λ h. absurd (omega arith); ring = λ h. absurd (omega arith); free = λ h. absurd (omega arith) }) }
  rejects Address (fits, known, outside) = record { fault = outside; earlier = clear 8 (record { fits = λ _. fits; known = λ _. known; inside = λ h. absurd (omega arith); whole = λ h. absurd (omega arith); allowed = λ h. absurd (omega arith); room = λ h. absurd (omega arith); places = λ h. absurd (omega arith); ring = λ h. absurd (omega arith); free = λ h. absurd (omega arith) }) }
  rejects BrokenLine no_fault = absurd no_fault
  rejects OutputFull no_fault = absurd no_fault
  rejects Torn (a, torn) = record { fault = torn; earlier = clear 21 (record { fits = λ _. a.fits; known = λ _. a.known; inside = λ _. a.inside; whole = λ h. absurd (omega arith); allowed = λ h. absurd (omega arith); room = λ h. absurd (omega arith); places = λ h. absurd (omega arith); ring = λ h. absurd (omega arith); free = λ h. absurd (omega arith) }) }
  rejects PhaseForbids (a, forbidden) = record {
    fault = record { task = forbidden.task; there = forbidden.there; holds = forbidden.holds.1 };
    earlier = clear 22 (record { fits = λ _. a.fits; known = λ _. a.known; inside = λ _. a.inside; whole = λ _ torn. torn.holds (subst (Whole s t) (at_one forbidden.there torn.there) forbidden.holds.0); allowed = λ h. absurd (omega arith); room = λ h. absurd (omega arith); places = λ h. absurd (omega arith); ring = λ h. absurd (omega arith); free = λ h. absurd (omega arith) });
  }
  rejects LogFull no_fault = absurd no_fault
  rejects PlacesSpent no_fault = absurd no_fault
  rejects RingFull no_fault = absurd no_fault
  rejects (MustWait place) no_fault = absurd no_fault

module _ {F C : Type 0} (Φ : Ghosts F) (s : State F C) (t a : ℕ) (c : C) (r : TaskRecord F) (there : At s.table t r) where
  -- A write of a logged address needs no room.
  pub room_found : (k : ℕ) → First s.addresses (base s t) r.logged a k → Full Φ s t (write a c) → ⊥
  room_found k first full = full.holds.1 k (subst (λ (x : TaskRecord F). k < x.logged) (at_one there full.there) first.within) first.here

  -- A log that is not full has room.
  pub room_left : (r.logged ≡ s.pairs → ⊥) → Full Φ s t (write a c) → ⊥
  room_left short full = short (ap (λ (x : TaskRecord F). x.logged) (at_one there full.there) ∙ full.holds.0)

module _ {F C : Type 0} (Φ : Ghosts F) (s : State F C) (t : ℕ) (r : TaskRecord F) (a : Admitted s t Commit None r) (some : 0 < r.logged) where
  -- A writer that may not take the next place is refused with that number.
  pub next_refuses : (q : Refusal) → NextPlace s.slots s.last s.index s.ring (Err q) → Refuses Φ s (by t commit) q
  next_refuses RingLength none = absurd none
  next_refuses TaskCount none = absurd none
  next_refuses LogLength none = absurd none
  next_refuses LastPlace none = absurd none
  next_refuses MemorySize none = absurd none
  next_refuses ArrayLength none = absurd none
  next_refuses TaskNumber none = absurd none
  next_refuses Address none = absurd none
  next_refuses BrokenLine none = absurd none
  next_refuses OutputFull none = absurd none
  next_refuses Torn none = absurd none
  next_refuses PhaseForbids none = absurd none
  next_refuses LogFull none = absurd none
  next_refuses PlacesSpent spent = record {
    fault = record { task = r; there = a.there; holds = (some, spent) };
    earlier = clear_after Φ s t commit r a 24 (λ _ none. none) (λ h. absurd (omega arith)) (λ h. absurd (omega arith)) (λ h. absurd (omega arith));
  }
  next_refuses RingFull (left, pending) = record {
    fault = record { task = r; there = a.there; holds = (some, pending) };
    earlier = clear_after Φ s t commit r a 25 (λ _ none. none) (λ _ spent. left spent.holds.1) (λ h. absurd (omega arith)) (λ h. absurd (omega arith));
  }
  next_refuses (MustWait place) none = absurd none

  -- A writer that may take the next place is accepted.
  pub next_accepts : (s.index ≡ s.last → ⊥) → (Pending s.slots s.ring (s.index + 2 - s.slots) → ⊥) → Accepts Φ s (by t commit)
  next_accepts left free = accepts Φ s t commit r a (λ none. none) (λ spent. left spent.holds.1) (λ full. free full.holds.1) (λ _ none. none)

module _ {F C : Type 0} (Φ : Ghosts F) (s : State F C) (t : ℕ) (r : TaskRecord F) (a : Admitted s t Commit None r) where
  -- A commit with nothing logged takes no place.
  pub nothing_accepts : r.logged ≡ 0 → Accepts Φ s (by t commit)
  nothing_accepts none = accepts Φ s t commit r a (λ never. never) (λ spent. not_some spent.there spent.holds.0) (λ full. not_some full.there full.holds.0) (λ _ never. never)
    where
      not_some : {x : TaskRecord F} → At s.table t x → 0 < x.logged → ⊥
      not_some {x} there some = omega (arith, ap (λ (y : TaskRecord F). y.logged) (at_one a.there there))

module _ {F C : Type 0} (Φ : Ghosts F) (s : State F C) (t : ℕ) (r : TaskRecord F) (a : Admitted s t Work None r) where
  -- A work that must wait is refused with the place.
  pub wait_refuses : (place : ℕ) → Waits Φ s r place → Refuses Φ s (by t work) (MustWait place)
  wait_refuses place waits = record {
    fault = record { task = r; there = a.there; holds = waits };
    earlier = clear_after Φ s t work r a 26 (λ _ never. never) (λ _ never. never) (λ _ never. never) (λ h. absurd (omega arith));
  }

  -- A work that need not wait is accepted.
  pub work_accepts : ((place : ℕ) → Waits Φ s r place → ⊥) → Accepts Φ s (by t work)
  work_accepts free = accepts Φ s t work r a (λ never. never) (λ never. never) (λ never. never) (λ place waiting. free place (subst (λ (x : TaskRecord F). Waits Φ s x place) (at_one waiting.there a.there) waiting.holds))

  -- With none left, only the place before the writer's own is waited for.
  pub finish_free : r.written ≡ r.logged → ((place : ℕ) → place + 1 ≡ r.place → Pending s.slots s.ring place → ⊥) → (place : ℕ) → Waits Φ s r place → ⊥
  finish_free none free place (to_write waits) = omega (arith, waits.left)
  finish_free none free place (to_finish waits) = free place waits.before waits.pending

  -- With cells left, only a blocking place is waited for.
  pub write_free : (r.written ≡ r.logged → ⊥) → ((i : ℕ) → r.start < i → i < r.place → Meets Φ s.slots s.ring r.writes i → ⊥) → (place : ℕ) → Waits Φ s r place → ⊥
  write_free left free place (to_write waits) = free place waits.above waits.below waits.blocks
  write_free left free place (to_finish waits) = left waits.none
