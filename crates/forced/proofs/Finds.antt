-- The search of a log and begin's walk, as functions, give what the rules say.
use Rattle.std.proofs.Common.{◌≡◌, ℕ, zero, suc, ◌+◌, ◌<◌, ◌≤◌, Bool, true, false, not, ◌&&◌, eqb, List, get_or, Some, None, Decides, Option, sym, refl, ap, ◌∙◌, subst, inl, inr, ⊎_elim, arith}
use Rattle.std.proofs.lemmas.Bool.{cases_eq, cases_lt, cond-true, cond-false, eq-eqb}
use Rattle.std.proofs.lemmas.Bool.Decides.{Decides-eqb, Decides-not, Decides-below_and}
use Rattle.rules.specs.declared.ring.Entry.{Entry}
use Rattle.rules.specs.Check.{Advanced}
use Rattle.rules.specs.Logs.{Lacks, First}
use Rattle.rules.specs.Places.{Pending, Settled}
use Rattle.forced.specs.Play.{pendingb, settled_from, or_here, find, noneb}
use Rattle.forced.proofs.Deciders.{refuted, decides_pending}

-- One position more leaves nothing found exactly if nothing was and this one is another.
none_more : (o : Option ℕ) (n : ℕ) (here : Bool) → noneb (or_here o n here) ≡ (not here && noneb o)
none_more None n true = refl
none_more None n false = refl
none_more (Some k) n true = refl
none_more (Some k) n false = refl

module _ (addresses : List ℕ) (b a : ℕ) where
  -- The search finds nothing exactly if the log lacks the address.
  pub decides_lacks : (n : ℕ) → Decides (noneb (find addresses b a n)) (Lacks addresses b n a)
  unfolding find
  decides_lacks n = Decides-below_and (λ k. not (eqb (get_or addresses (b + k) 0) a)) (λ k. get_or addresses (b + k) 0 ≡ a → ⊥) (λ m. noneb (find addresses b a m)) (λ k. Decides-not (eqb (get_or addresses (b + k) 0) a) (Decides-eqb (get_or addresses (b + k) 0) a)) refl (λ m. none_more (find addresses b a m) m (eqb (get_or addresses (b + m) 0) a)) n

  -- The search of a log that lacks the address finds nothing.
  pub find_none : (n : ℕ) → Lacks addresses b n a → find addresses b a n ≡ None
  find_none n lacks = go (find addresses b a n) ((decides_lacks n).1 lacks)
    where
      go : (o : Option ℕ) → noneb o ≡ true → o ≡ None
      go None e = refl
      go (Some k) e = let z : ◌≡◌ {A = ℕ} 0 1 = cc in absurd (omega arith)

  -- The search finds the first position that has the address.
  pub find_first : (n k : ℕ) → First addresses b n a k → find addresses b a n ≡ Some k
  unfolding find
  find_first zero k first = absurd (omega (arith, first.within))
  find_first (suc n) k first =
      ⊎_elim
      (λ same.
      let none : find addresses b a n ≡ None = find_none n (subst (λ (m : ℕ). Lacks addresses b m a) same first.before) in
      let here : eqb (get_or addresses (b + n) 0) a ≡ true = eq-eqb (get_or addresses (b + n) 0) a (subst (λ (m : ℕ). get_or addresses (b + m) 0 ≡ a) same first.here) in
      ap (λ (o : Option ℕ). or_here o n (eqb (get_or addresses (b + n) 0) a)) none ∙ ap (λ (h : Bool). or_here None n h) here ∙ ap (λ (m : ℕ). Some m) (sym same))
      (λ other.
      ap (λ (o : Option ℕ). or_here o n (eqb (get_or addresses (b + n) 0) a)) (find_first n k (record { within = omega (arith, first.within); here = first.here; before = first.before })))
      (cases_eq k n)

module _ {F : Type 0} {slots : ℕ} {ring : List (Entry F)} where
  -- Begin's walk ends at the first place that is not unfinished.
  pub settled_is : (index start : ℕ) → Settled slots ring index start → settled_from slots ring index ≡ start
  unfolding settled_from
  settled_is zero start settled = omega (arith, settled.within)
  settled_is (suc n) start settled =
      ⊎_elim
      (λ same.
      cond-false (pendingb slots ring (suc n)) (settled_from slots ring n) (suc n) (refuted (pendingb slots ring (suc n)) (decides_pending (suc n)) (subst (λ (i : ℕ). Pending slots ring i → ⊥) same settled.finished)) ∙ sym same)
      (λ other.
      let low : start < suc n = omega (arith, settled.within) in
      cond-true (pendingb slots ring (suc n)) (settled_from slots ring n) (suc n) ((decides_pending (suc n)).1 (settled.passed (suc n) low (omega arith))) ∙
      settled_is n start (record { within = omega arith; finished = settled.finished; passed = λ i above below. settled.passed i above (omega arith) }))
      (cases_eq start (suc n))

  -- The new start is one.
  pub advanced_one : {index old new new' : ℕ} → Advanced slots ring index old new → Advanced slots ring index old new' → new ≡ new'
  advanced_one {index} {old} {new} {new'} p q =
      let low : new ≤ new' = not_above p q in
      let high : new' ≤ new = not_above q p in
      omega arith
    where
      open_at : {m k : ℕ} → m < k → Advanced slots ring index old m → Advanced slots ring index old k → ⊥
      open_at {m} {k} less a c = elim a.next [ inl top ↦ omega (arith, c.high) | inr pending ↦ c.finished (m + 1) (omega (arith, a.low)) (omega arith) pending ]

      not_above : {m k : ℕ} → Advanced slots ring index old m → Advanced slots ring index old k → m ≤ k
      not_above {m} {k} a c = ⊎_elim (λ less. absurd (open_at less c a)) (λ le. le) (cases_lt k m)
