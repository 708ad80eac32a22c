-- Begin's walk, the search of a log and the check's walk, as they are played, are what the rules say.
use Rattle.std.proofs.Common.{◌≡◌, ℕ, zero, suc, ◌+◌, ◌-◌, ◌≤◌, Bool, true, false, cond, eqb, ltb, List, get_or, Some, None, Ok, Err, Option, sym, refl, ap, ◌∙◌, subst, inl, inr, ⊎_elim, arith}
use Rattle.std.proofs.lemmas.Bool.{both_ways, cases_eq, eqb-true, ltb-true, ltb-false}
use Rattle.filters.specs.declared.filter.Filter.{Ghosts}
use Rattle.rules.specs.declared.answer.Abort.TheVariants.{Conflict, Overrun}
use Rattle.rules.specs.declared.ring.Entry.{Entry}
use Rattle.rules.specs.declared.ring.Status.{Status}
use Rattle.rules.specs.declared.ring.Status.TheVariants.{Writing, Complete}
use Rattle.rules.specs.Check.{Advanced, AllAsked, Checks}
use Rattle.rules.specs.Logs.{First}
use Rattle.rules.specs.Places.{Present, Pending, Settled}
use Rattle.rules.proofs.Walks.{complete_settled, advanced_pending, advanced_finished}
use Rattle.forced.specs.Play.{writingb, pendingb, settled_from, entry_at, check_at, check_down, verdict, or_here, find, noneb}
use Rattle.forced.proofs.Deciders.{entry_found, entry_present, decides_pending}
use Rattle.forced.proofs.Finds.{decides_lacks}

module _ {F : Type 0} (slots : ℕ) (ring : List (Entry F)) where
  -- Begin's walk from a place down ends at the first that is not unfinished.
  pub settled_from_lem : (index : ℕ) → Settled slots ring index (settled_from slots ring index)
  unfolding settled_from
  settled_from_lem zero = record { within = omega arith; finished = λ pending. omega (arith, pending.present.counted); passed = λ i above below. absurd (omega arith) }
  settled_from_lem (suc n) = go (pendingb slots ring (suc n)) refl (settled_from_lem n)
    where
      go : (b : Bool) → pendingb slots ring (suc n) ≡ b → Settled slots ring n (settled_from slots ring n) → Settled slots ring (suc n) (cond b (settled_from slots ring n) (suc n))
      go true is rest = record {
        within = omega (arith, rest.within);
        finished = rest.finished;
        passed = λ i above below. ⊎_elim (λ same. subst (Pending slots ring) (sym same) ((decides_pending (suc n)).0 is)) (λ other. rest.passed i above (omega arith)) (cases_eq i (suc n));
      }
      go false is rest = record { within = omega arith; finished = λ pending. both_ways (pendingb slots ring (suc n)) is ((decides_pending (suc n)).1 pending); passed = λ i above below. absurd (omega arith) }

module _ (addresses : List ℕ) (base a : ℕ) where
  -- What the search of a log finds is the first position with the address.
  pub found_first : (n k : ℕ) → find addresses base a n ≡ Some k → First addresses base n a k
  unfolding find
  found_first zero k is = let z : ◌≡◌ {A = ℕ} 0 1 = cc in absurd (omega arith)
  found_first (suc n) k is = go (find addresses base a n) refl (eqb (get_or addresses (base + n) 0) a) refl is (λ j e. found_first n j e)
    where
      go : (o : Option ℕ) → find addresses base a n ≡ o → (here : Bool) → eqb (get_or addresses (base + n) 0) a ≡ here → or_here o n here ≡ Some k → ((j : ℕ) → find addresses base a n ≡ Some j → First addresses base n a j) → First addresses base (suc n) a k
      go (Some m) was here test e rest =
          let same : m ≡ k = cc in
          let first = rest k (was ∙ ap (λ (j : ℕ). Some j) same) in
          record { within = omega (arith, first.within); here = first.here; before = first.before }
      go None was true test e rest =
          let same : n ≡ k = cc in
          subst (First addresses base (suc n) a) same (record { within = omega arith; here = eqb-true (get_or addresses (base + n) 0) a test; before = (decides_lacks addresses base a n).0 (ap noneb was) })
      go None was false test e rest = let z : ◌≡◌ {A = ℕ} 0 1 = cc in absurd (omega arith)

module _ {F : Type 0} (Φ : Ghosts F) (slots : ℕ) (ring : List (Entry F)) (reads : F) (index start : ℕ) (near : index - start ≤ slots) where
  -- Past a place that is present the new start stays right.
  moved : (place new : ℕ) (e : Entry F) → place ≤ index → Present slots ring place e → Advanced slots ring index place new → Advanced slots ring index (place - 1) (cond (writingb e.status) (place - 1) new)
  moved place new e within here before = go e.status refl
    where
      go : (status : Status) → e.status ≡ status → Advanced slots ring index (place - 1) (cond (writingb status) (place - 1) new)
      go Writing is = advanced_pending here.counted within (record { entry = e; present = here; writing = is })
      go Complete is = advanced_finished (complete_settled here is) before

  -- The check's walk with n places left, past places that are all present and apart.
  walked : (n new compared : ℕ) → start + n ≤ index → AllAsked Φ slots ring reads index (start + n) → Advanced slots ring index (start + n) new → compared ≡ index - (start + n) → Checks Φ slots ring reads index start (check_down Φ slots ring reads start n new compared)
  unfolding check_down
  walked zero new compared within asked advanced counted =
      let here : start + 0 ≡ start = omega arith in
      record { near = near; asked = λ i above below. asked i (omega arith) below; advanced = subst (λ (i : ℕ). Advanced slots ring index i new) here advanced; counted = omega arith }
  walked (suc n) new compared within asked advanced counted = go (entry_at slots ring (start + suc n)) refl (λ new' compared' asked' advanced' counted'. walked n new' compared' (omega arith) asked' advanced' counted')
    where
      down : start + suc n - 1 ≡ start + n
      down = omega arith

      go : (o : Option (Entry F)) → entry_at slots ring (start + suc n) ≡ o → ((new' compared' : ℕ) → AllAsked Φ slots ring reads index (start + n) → Advanced slots ring index (start + n) new' → compared' ≡ index - (start + n) → Checks Φ slots ring reads index start (check_down Φ slots ring reads start n new' compared')) → Checks Φ slots ring reads index start (check_at Φ reads (start + suc n) new compared (λ new' compared'. check_down Φ slots ring reads start n new' compared') o)
      go None is rest = inr (record { near = near; place = start + suc n; low = omega arith; high = within; asked = asked; absent = λ e here. let other = entry_found here in let z : ◌≡◌ {A = ℕ} 0 1 = cc in omega arith; counted = counted })
      go (Some e) is rest = test (Φ.meeting e.filter reads) refl
        where
          here : Present slots ring (start + suc n) e
          here = entry_present (start + suc n) e is

          test : (b : Bool) → Φ.meeting e.filter reads ≡ b → Checks Φ slots ring reads index start (cond b (Err (Conflict (start + suc n) (compared + 1))) (check_down Φ slots ring reads start n (cond (writingb e.status) (start + suc n - 1) new) (compared + 1)))
          test true meets = record { near = near; low = omega arith; high = within; asked = asked; met = record { entry = e; present = here; meets = meets }; counted = omega arith }
          test false apart = rest (cond (writingb e.status) (start + suc n - 1) new) (compared + 1)
              (λ i above below. ⊎_elim (λ same. record { entry = e; present = subst (λ (p : ℕ). Present slots ring p e) (sym same) here; apart = apart }) (λ other. asked i (omega arith) below) (cases_eq i (start + suc n)))
              (subst (λ (i : ℕ). Advanced slots ring index i (cond (writingb e.status) (start + suc n - 1) new)) down (moved (start + suc n) new e within here advanced))
              (omega arith)

module _ {F : Type 0} (Φ : Ghosts F) (slots : ℕ) (ring : List (Entry F)) (reads : F) (index start : ℕ) (below : start ≤ index) where
  -- The played verdict is the check's.
  pub verdict_checks : Checks Φ slots ring reads index start (verdict Φ slots ring reads index start)
  unfolding verdict
  verdict_checks = go (ltb slots (index - start)) refl
    where
      go : (b : Bool) → ltb slots (index - start) ≡ b → Checks Φ slots ring reads index start (cond b (Err (Overrun 0)) (check_down Φ slots ring reads start (index - start) index 0))
      go true is = inl (record { far = ltb-true slots (index - start) is; counted = refl })
      go false is = walked Φ slots ring reads index start (ltb-false slots (index - start) is) (index - start) index 0 (omega arith) (λ i above low. absurd (omega arith)) (record { low = omega arith; high = omega arith; finished = λ i above low. absurd (omega arith); next = inl refl }) (omega arith)
