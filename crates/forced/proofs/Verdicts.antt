-- The check's walk and the wait's walk, as functions, give what the rules say.
use Rattle.std.proofs.Common.{◌≡◌, ℕ, zero, suc, ◌+◌, ◌-◌, ◌<◌, ◌≤◌, Bool, true, false, cond, ltb, List, Some, None, Ok, Err, Option, sym, refl, ap, ◌∙◌, subst, inl, inr, ⊎_elim, arith}
use Rattle.std.proofs.lemmas.Bool.{cases_eq, cases_order, both_ways, cond-true, cond-false, lt-ltb, le-ltb}
use Rattle.filters.specs.declared.filter.Filter.{Ghosts}
use Rattle.rules.specs.declared.answer.Abort.TheVariants.{Conflict, Overrun}
use Rattle.rules.specs.declared.ring.Entry.{Entry}
use Rattle.rules.specs.declared.ring.Status.{Status}
use Rattle.rules.specs.declared.ring.Status.TheVariants.{Writing, Complete}
use Rattle.rules.specs.Check.{Verdict, Advanced, Asked, Met, Checks}
use Rattle.rules.specs.Faults.{Meets, Highest, Blocking}
use Rattle.rules.specs.Places.{Present}
use Rattle.forced.specs.Play.{writingb, entry_at, check_at, check_down, verdict, blocks_at, blocking_down}
use Rattle.forced.proofs.Deciders.{entry_found, entry_absent, decides_meets}
use Rattle.forced.proofs.Finds.{advanced_one}
use Rattle.rules.proofs.Walks.{complete_settled, advanced_pending, advanced_finished}

module _ {F : Type 0} (Φ : Ghosts F) (slots : ℕ) (ring : List (Entry F)) (reads : F) (start : ℕ) where
  -- The walk with n places left, the new start and the number compared so far.
  abbrev walk : ℕ → ℕ → ℕ → Verdict
  walk n new compared = check_down Φ slots ring reads start n new compared

  -- What the walk does at its next place.
  abbrev at : ℕ → ℕ → ℕ → Option (Entry F) → Verdict
  at n new compared o = check_at Φ reads (start + suc n) new compared (λ new' compared'. walk n new' compared') o

  -- The new start after a place with this status.
  abbrev moved : ℕ → ℕ → Status → ℕ
  moved n new status = cond (writingb status) (start + suc n - 1) new

  -- Past a place that is present and apart the walk goes on.
  walk_asked : (n new compared : ℕ) (asked : Asked Φ slots ring reads (start + suc n)) → walk (suc n) new compared ≡ walk n (moved n new asked.entry.status) (compared + 1)
  unfolding check_down
  walk_asked n new compared asked = ap (λ (o : Option (Entry F)). at n new compared o) (entry_found asked.present) ∙ cond-false (Φ.meeting asked.entry.filter reads) (Err (Conflict (start + suc n) (compared + 1))) (walk n (moved n new asked.entry.status) (compared + 1)) asked.apart

  -- At a place that meets the walk ends with a conflict.
  walk_met : (n new compared : ℕ) → Met Φ slots ring reads (start + suc n) → walk (suc n) new compared ≡ Err (Conflict (start + suc n) (compared + 1))
  unfolding check_down
  walk_met n new compared met = ap (λ (o : Option (Entry F)). at n new compared o) (entry_found met.present) ∙ cond-true (Φ.meeting met.entry.filter reads) (Err (Conflict (start + suc n) (compared + 1))) (walk n (moved n new met.entry.status) (compared + 1)) met.meets

  -- At an absent place the walk ends with an overrun.
  walk_absent : (n new compared : ℕ) → ((e : Entry F) → Present slots ring (start + suc n) e → ⊥) → walk (suc n) new compared ≡ Err (Overrun compared)
  unfolding check_down
  walk_absent n new compared absent = ap (λ (o : Option (Entry F)). at n new compared o) (entry_absent (start + suc n) absent)

  -- The walk keeps the new start right.
  advanced_moved : (index n new : ℕ) (e : Entry F) → start + suc n ≤ index → Present slots ring (start + suc n) e → Advanced slots ring index (start + suc n) new → Advanced slots ring index (start + n) (moved n new e.status)
  advanced_moved index n new e within here before = go e.status refl
    where
      down : start + suc n - 1 ≡ start + n
      down = omega arith

      go : (status : Status) → e.status ≡ status → Advanced slots ring index (start + n) (moved n new status)
      go Writing is = subst (λ (i : ℕ). Advanced slots ring index i (start + suc n - 1)) down (advanced_pending here.counted within (record { entry = e; present = here; writing = is }))
      go Complete is = subst (λ (i : ℕ). Advanced slots ring index i new) down (advanced_finished (complete_settled here is) before)

  -- A walk past places that are all present and apart passes.
  walk_passes : (index final n new compared : ℕ) → start + n ≤ index → ((i : ℕ) → start < i → i ≤ start + n → Asked Φ slots ring reads i) → Advanced slots ring index (start + n) new → Advanced slots ring index start final → walk n new compared ≡ Ok (record { start = final; compared = compared + n })
  unfolding check_down
  walk_passes index final zero new compared within asked before after =
      let here : start + 0 ≡ start = omega arith in
      let same : new ≡ final = advanced_one (subst (λ (i : ℕ). Advanced slots ring index i new) here before) after in
      let none : compared ≡ compared + 0 = omega arith in
      λ i. Ok (record { start = same i; compared = none i })
  walk_passes index final (suc n) new compared within asked before after =
      let here : Asked Φ slots ring reads (start + suc n) = asked (start + suc n) (omega arith) (omega arith) in
      let counted : compared + 1 + n ≡ compared + suc n = omega arith in
      walk_asked n new compared here ∙
      walk_passes index final n (moved n new here.entry.status) (compared + 1) (omega arith) (λ i low high. asked i low (omega arith)) (advanced_moved index n new here.entry within here.present before) after ∙
      ap (λ (c : ℕ). Ok (record { start = final; compared = c })) counted

  -- A walk down to a place at which it ends, past places that are present and apart.
  walk_ends : (end : ℕ → Verdict) (place : ℕ) → start < place → ((m new compared : ℕ) → start + suc m ≡ place → walk (suc m) new compared ≡ end compared) → (n new compared : ℕ) → place ≤ start + n → ((i : ℕ) → place < i → i ≤ start + n → Asked Φ slots ring reads i) → walk n new compared ≡ end (compared + (start + n - place))
  walk_ends end place low ends zero new compared within asked = absurd (omega arith)
  walk_ends end place low ends (suc n) new compared within asked =
      ⊎_elim
      (λ same.
      let none : compared ≡ compared + (start + suc n - place) = omega arith in
      ends n new compared same ∙ ap end none)
      (λ other.
      let here : Asked Φ slots ring reads (start + suc n) = asked (start + suc n) (omega arith) (omega arith) in
      let counted : compared + 1 + (start + n - place) ≡ compared + (start + suc n - place) = omega arith in
      walk_asked n new compared here ∙
      walk_ends end place low ends n (moved n new here.entry.status) (compared + 1) (omega arith) (λ i above below. asked i above (omega arith)) ∙
      ap end counted)
      (cases_eq (start + suc n) place)

  -- Near enough, the check is the walk.
  near_walk : (index : ℕ) → index - start ≤ slots → verdict Φ slots ring reads index start ≡ walk (index - start) index 0
  unfolding verdict
  near_walk index near = cond-false (ltb slots (index - start)) (Err (Overrun 0)) (walk (index - start) index 0) (le-ltb slots (index - start) near)

  -- The check gives the verdict that the rules give.
  pub verdict_is : (index : ℕ) (v : Verdict) → Checks Φ slots ring reads index start v → verdict Φ slots ring reads index start ≡ v
  unfolding verdict
  verdict_is index (Ok passed) passes =
      let top : start + (index - start) ≡ index = omega (arith, passes.advanced.low, passes.advanced.high) in
      let counted : 0 + (index - start) ≡ passed.compared = omega (arith, passes.counted) in
      near_walk index passes.near ∙
      walk_passes index passed.start (index - start) index 0 (omega arith) (λ i low high. passes.asked i low (omega arith)) (record { low = omega arith; high = omega arith; finished = λ i above below. absurd (omega arith); next = inl refl }) passes.advanced ∙
      ap (λ (c : ℕ). Ok (record { start = passed.start; compared = c })) counted
  verdict_is index (Err (Conflict place compared)) conflicts =
      let low = conflicts.low in
      let high = conflicts.high in
      let counted : 0 + (start + (index - start) - place) + 1 ≡ compared = omega (arith, conflicts.counted) in
      near_walk index conflicts.near ∙
      walk_ends (λ c. Err (Conflict place (c + 1))) place low (λ m new c same. walk_met m new c (subst (Met Φ slots ring reads) (sym same) conflicts.met) ∙ ap (λ (p : ℕ). Err (Conflict p (c + 1))) same) (index - start) index 0 (omega arith) (λ i above below. conflicts.asked i above (omega arith)) ∙
      ap (λ (c : ℕ). Err (Conflict place c)) counted
  verdict_is index (Err (Overrun compared)) (inl far) =
      cond-true (ltb slots (index - start)) (Err (Overrun 0)) (walk (index - start) index 0) (lt-ltb slots (index - start) far.far) ∙ ap (λ (c : ℕ). Err (Overrun c)) (sym far.counted)
  verdict_is index (Err (Overrun compared)) (inr lost) =
      let low = lost.low in
      let high = lost.high in
      let counted : 0 + (start + (index - start) - lost.place) ≡ compared = omega (arith, lost.counted) in
      near_walk index lost.near ∙
      walk_ends (λ c. Err (Overrun c)) lost.place low (λ m new c same. walk_absent m new c (λ e here. lost.absent e (subst (λ (p : ℕ). Present slots ring p e) same here))) (index - start) index 0 (omega arith) (λ i above below. lost.asked i above (omega arith)) ∙
      ap (λ (c : ℕ). Err (Overrun c)) counted

module _ {F : Type 0} (Φ : Ghosts F) (slots : ℕ) (ring : List (Entry F)) (ws : F) (start : ℕ) where
  -- The wait's walk gives the highest blocking place, if there is one.
  pub blocking_down_lem : (n : ℕ) → Blocking Φ slots ring ws start (start + n + 1) (blocking_down Φ slots ring ws start n)
  unfolding blocking_down
  blocking_down_lem zero = λ i above below meets. omega arith
  blocking_down_lem (suc n) = go (blocks_at Φ ws (entry_at slots ring (start + suc n))) refl (blocking_down_lem n)
    where
      below : (o : Option ℕ) → (Meets Φ slots ring ws (start + suc n) → ⊥) → Blocking Φ slots ring ws start (start + n + 1) o → Blocking Φ slots ring ws start (start + suc n + 1) o
      below None free none = λ i above low meets. ⊎_elim (λ same. free (subst (Meets Φ slots ring ws) same meets)) (λ other. none i above (omega arith) meets) (cases_eq i (start + suc n))
      below (Some found) free high = record {
        below = omega (arith, high.below);
        above = high.above;
        blocks = high.blocks;
        highest = λ i above low meets. ⊎_elim (λ same. free (subst (Meets Φ slots ring ws) same meets)) (λ other. high.highest i above (omega arith) meets) (cases_eq i (start + suc n));
      }

      go : (b : Bool) → blocks_at Φ ws (entry_at slots ring (start + suc n)) ≡ b → Blocking Φ slots ring ws start (start + n + 1) (blocking_down Φ slots ring ws start n) → Blocking Φ slots ring ws start (start + suc n + 1) (cond b (Some (start + suc n)) (blocking_down Φ slots ring ws start n))
      go true is rest = record {
        below = omega arith;
        above = omega arith;
        blocks = (decides_meets Φ ws (start + suc n)).0 is;
        highest = λ i above low meets. omega arith;
      }
      go false is rest = below (blocking_down Φ slots ring ws start n) (λ meets. both_ways (blocks_at Φ ws (entry_at slots ring (start + suc n))) is ((decides_meets Φ ws (start + suc n)).1 meets)) rest

  -- The highest blocking place is one.
  pub blocking_one : {place : ℕ} (o : Option ℕ) (found : ℕ) → Blocking Φ slots ring ws start place o → Highest Φ slots ring ws start place found → o ≡ Some found
  blocking_one None found none high = absurd (none found high.above high.below high.blocks)
  blocking_one (Some k) found first high = ap (λ (i : ℕ). Some i) (⊎_elim (λ same. same) (λ apart. ⊎_elim (λ less. absurd (first.highest found less high.below high.blocks)) (λ more. absurd (high.highest k more first.below first.blocks)) apart) (cases_order k found))
