-- Each test decides the fact that it is named after.
use Rattle.std.proofs.Common.{◌≡◌, ℕ, ◌+◌, ◌*◌, ◌%◌, ◌<◌, ◌≤◌, Bool, true, false, cond, eqb, ltb, leb, List, [], ◌∷◌, length, get_or, Some, None, Decides, Option, sym, refl, ap, ◌∙◌, ⊎_elim, arith}
use Rattle.std.proofs.lemmas.Option.{slice_get-get_or, slice_get_past as nth_past}
use Rattle.std.proofs.lemmas.Bool.{both_ways, leb-true, le-leb, lt-ltb, eq-eqb, eqb-true, ltb-true, cond-true, and_parts, and_from, cases_lt, cases_Bool}
use Rattle.std.proofs.lemmas.Bool.Decides.{Decides-eqb, Decides-ltb, Decides-and, Decides-below_and}
use Rattle.std.specs.List.{slice_get}
use Rattle.filters.specs.declared.filter.Filter.{Ghosts}
use Rattle.rules.specs.declared.ring.Entry.{Entry}
use Rattle.rules.specs.declared.ring.Status.{Status}
use Rattle.rules.specs.declared.ring.Status.TheVariants.{Writing, Complete}
use Rattle.rules.specs.declared.table.Phase.{Phase}
use Rattle.rules.specs.declared.table.Phase.TheVariants.{Idle, Open, Committed}
use Rattle.rules.specs.declared.table.TaskRecord.{TaskRecord}
use Rattle.rules.specs.Calls.{Inside}
use Rattle.rules.specs.Faults.{Meets}
use Rattle.rules.specs.Lists.{At}
use Rattle.rules.specs.Places.{Present, Pending}
use Rattle.forced.specs.Play.{writingb, stamped, entry_at, writes, pendingb, blocks_at, inside_all, insideb, fitsb, logb, phaseb, wholeb}
use Rattle.rules.specs.State.{State, Fits, base}
use Rattle.rules.specs.Torn.{LogRules, PhaseRules, Whole}

-- A test of a refuted fact fails.
pub refuted : {P : Type 0} (r : Bool) → Decides r P → (P → ⊥) → r ≡ false
refuted true d never = absurd (never (d.0 refl))
refuted false d never = refl

-- A decided fact that is not refuted holds.
pub confirmed : {P : Type 0} {r : Bool} → Decides r P → ((P → ⊥) → ⊥) → P
confirmed {P} {r} d never = ⊎_elim d.0 (λ e. absurd (never (λ p. both_ways r e (d.1 p)))) (cases_Bool r)

-- A test decides what is equivalent to the fact that it decides.
pub decides_as : {P Q : Type 0} {r : Bool} → Decides r P → (P → Q) → (Q → P) → Decides r Q
decides_as d to from = (λ e. to (d.0 e), λ q. d.1 (from q))

-- The test of ≤ decides it.
decides_leb : (a b : ℕ) → Decides (leb a b) (a ≤ b)
decides_leb a b = (leb-true a b, le-leb a b)

module _ {X : Type 0} where
  -- What stands at an index is what is looked up there.
  pub at_nth : {xs : List X} {i : ℕ} {x : X} → At xs i x → slice_get xs i ≡ Some x
  at_nth {xs} {i} {x} there = slice_get-get_or xs i x there.within ∙ ap (λ (y : X). Some y) (sym there.is)

  -- What is looked up at an index stands there.
  pub nth_at : (xs : List X) (i : ℕ) (x : X) → slice_get xs i ≡ Some x → At xs i x
  nth_at xs i x found =
      ⊎_elim
      (λ short. record { within = short; is = let e = slice_get-get_or xs i x short in cc })
      (λ past. let e = nth_past xs i past in let z : ◌≡◌ {A = ℕ} 0 1 = cc in absurd (omega arith))
      (cases_lt i (length xs))

  -- At an index within a list something stands.
  pub at_within : (xs : List X) (i : ℕ) → i < length xs → (x : X) × At xs i x
  at_within [] i short = absurd (omega arith)
  at_within (x ∷ xs) i short = (get_or (x ∷ xs) i x, nth_at (x ∷ xs) i (get_or (x ∷ xs) i x) (slice_get-get_or (x ∷ xs) i x short))

  -- A value that passed a test.
  kept : (b : Bool) (o : Option X) (x : X) → cond b o None ≡ Some x → (b ≡ true) × (o ≡ Some x)
  kept true o x e = (refl, e)
  kept false o x e = let z : ◌≡◌ {A = ℕ} 0 1 = cc in absurd (omega arith)

-- The test of a status tells that it is writing.
writing_true : (status : Status) → writingb status ≡ true → status ≡ Writing
writing_true Writing e = refl
writing_true Complete e = absurd (both_ways false refl e)

module _ {F : Type 0} {slots : ℕ} {ring : List (Entry F)} where
  -- The entry of a present place is looked up.
  pub entry_found : {i : ℕ} {e : Entry F} → Present slots ring i e → entry_at slots ring i ≡ Some e
  unfolding entry_at
  entry_found {i} {e} here =
      cond-true (ltb 0 i) (stamped i (slice_get ring (i % slots))) None (lt-ltb 0 i here.counted) ∙ ap (λ (o : Option (Entry F)). stamped i o) (at_nth here.there) ∙ cond-true (eqb e.stamp i) (Some e) None (eq-eqb e.stamp i here.stamped)

  -- A place whose entry is looked up is present.
  pub entry_present : (i : ℕ) (e : Entry F) → entry_at slots ring i ≡ Some e → Present slots ring i e
  unfolding entry_at
  entry_present i e found = go (slice_get ring (i % slots)) refl counted.1
    where
      counted : (ltb 0 i ≡ true) × (stamped i (slice_get ring (i % slots)) ≡ Some e)
      counted = kept (ltb 0 i) (stamped i (slice_get ring (i % slots))) e found

      go : (o : Option (Entry F)) → slice_get ring (i % slots) ≡ o → stamped i o ≡ Some e → Present slots ring i e
      go None is none = let z : ◌≡◌ {A = ℕ} 0 1 = cc in absurd (omega arith)
      go (Some f) is some =
          let both = kept (eqb f.stamp i) (Some f) e some in
          let same : f ≡ e = let h = both.1 in cc in
          record {
            counted = ltb-true 0 i counted.0;
            there = nth_at ring (i % slots) e (is ∙ ap (λ (g : Entry F). Some g) same);
            stamped = ap (λ (g : Entry F). g.stamp) (sym same) ∙ eqb-true f.stamp i both.0;
          }

  -- At an absent place nothing is looked up.
  pub entry_absent : (i : ℕ) → ((e : Entry F) → Present slots ring i e → ⊥) → entry_at slots ring i ≡ None
  entry_absent i absent = go (entry_at slots ring i) refl
    where
      go : (o : Option (Entry F)) → entry_at slots ring i ≡ o → o ≡ None
      go None is = refl
      go (Some e) is = absurd (absent e (entry_present i e is))

  -- The test of a place decides whether it is unfinished.
  pub decides_pending : (i : ℕ) → Decides (pendingb slots ring i) (Pending slots ring i)
  decides_pending i = (go (entry_at slots ring i) refl, λ pending. ap (λ (o : Option (Entry F)). writes o) (entry_found pending.present) ∙ ap writingb pending.writing)
    where
      go : (o : Option (Entry F)) → entry_at slots ring i ≡ o → writes o ≡ true → Pending slots ring i
      go None is e = absurd (both_ways false refl e)
      go (Some entry) is e = record { entry = entry; present = entry_present i entry is; writing = writing_true entry.status e }

  -- The test of an entry decides whether its place is unfinished and meets the write filter.
  pub decides_meets : (Φ : Ghosts F) (ws : F) (i : ℕ) → Decides (blocks_at Φ ws (entry_at slots ring i)) (Meets Φ slots ring ws i)
  decides_meets Φ ws i = (go (entry_at slots ring i) refl, λ meets. ap (λ (o : Option (Entry F)). blocks_at Φ ws o) (entry_found meets.pending.present) ∙ and_from (writingb meets.pending.entry.status) (Φ.meeting meets.pending.entry.filter ws) (ap writingb meets.pending.writing) meets.met)
    where
      go : (o : Option (Entry F)) → entry_at slots ring i ≡ o → blocks_at Φ ws o ≡ true → Meets Φ slots ring ws i
      go None is e = absurd (both_ways false refl e)
      go (Some entry) is e =
          let both = and_parts (writingb entry.status) (Φ.meeting entry.filter ws) e in
          record { pending = record { entry = entry; present = entry_present i entry is; writing = writing_true entry.status both.0 }; met = both.1 }

-- The test of an address decides whether it lies below the size.
pub decides_inside : (size : ℕ) (address : Option ℕ) → Decides (insideb size address) (Inside size address)
decides_inside size None = (λ e. tt, λ p. refl)
decides_inside size (Some a) = Decides-ltb a size

module _ {F C : Type 0} (s : State F C) where
  -- The test of the lengths decides whether they are those of the engine's record.
  pub decides_fits : Decides (fitsb s) (Fits s)
  unfolding fitsb
  decides_fits = decides_as
      (Decides-and _ _ (Decides-eqb (length s.ring) s.slots) (Decides-and _ _ (Decides-eqb (length s.table) s.tasks) (Decides-and _ _ (Decides-eqb (length s.addresses) (s.tasks * s.pairs)) (Decides-and _ _ (Decides-eqb (length s.cells) (s.tasks * s.pairs)) (Decides-eqb (length s.memory) s.size)))))
      (λ p. record { ring = p.0; table = p.1.0; addresses = p.1.1.0; cells = p.1.1.1.0; memory = p.1.1.1.1 })
      (λ f. (f.ring, (f.table, (f.addresses, (f.cells, f.memory)))))

  module _ (t : ℕ) (r : TaskRecord F) where
    -- The tests of a record decide whether it keeps the rules of its phase: those that Open and Committed share, those of a phase, those of its own.
    decides_log : Decides (logb s t r) (LogRules s.pairs s.size s.index s.addresses (base s t) r)
    unfolding inside_all
    decides_log = decides_as
        (Decides-and _ _ (decides_leb r.logged s.pairs) (Decides-and _ _ (decides_leb r.written r.logged) (Decides-and _ _ (decides_leb r.start s.index) (Decides-below_and (λ k. ltb (get_or s.addresses (base s t + k) 0) s.size) (λ k. get_or s.addresses (base s t + k) 0 < s.size) (inside_all s.addresses (base s t) s.size) (λ k. Decides-ltb (get_or s.addresses (base s t + k) 0) s.size) refl (λ _. refl) r.logged))))
        (λ p. record { logged = p.0; written = p.1.0; start = p.1.1.0; inside = p.1.1.1 })
        (λ l. (l.logged, (l.written, (l.start, l.inside))))

    decides_phase : (phase : Phase) → Decides (phaseb s t r phase) (PhaseRules s.pairs s.size s.index s.slots s.ring s.addresses (base s t) r phase)
    decides_phase Idle = (λ e. tt, λ p. refl)
    decides_phase Open = decides_as
        (Decides-and _ _ decides_log (Decides-and _ _ (Decides-eqb r.place 0) (Decides-eqb r.written 0)))
        (λ p. record { log = p.0; place = p.1.0; written = p.1.1 })
        (λ o. (o.log, (o.place, o.written)))
    decides_phase Committed = decides_as
        (Decides-and _ _ decides_log (Decides-and _ _ (decides_leb 1 r.logged) (Decides-and _ _ (Decides-ltb r.start r.place) (Decides-and _ _ (decides_leb r.place s.index) (decides_pending r.place)))))
        (λ p. record { log = p.0; some = p.1.0; start = p.1.1.0; place = p.1.1.1.0; unfinished = p.1.1.1.1 })
        (λ o. (o.log, (o.some, (o.start, (o.place, o.unfinished)))))

    pub decides_whole : Decides (wholeb s t r) (Whole s t r)
    unfolding wholeb
    decides_whole = decides_phase r.phase
