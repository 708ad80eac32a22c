-- What stands at an index stands there alone.
use Rattle.std.proofs.Common.{◌≡◌, ℕ, ◌+◌, ◌<◌, List, length, get_or, set, sym, ap, ◌∙◌, subst, subst₂, ⊎_elim, arith}
use Rattle.std.proofs.lemmas.List.{get_or_default, get_or-set_same, get_or-set_other, length-set}
use Rattle.std.proofs.lemmas.Bool.{cases_eq}
use Rattle.rules.specs.Lists.{At}

module _ {X : Type 0} where
  -- Two elements at one index are one.
  pub at_one : {xs : List X} {i : ℕ} {x y : X} → At xs i x → At xs i y → x ≡ y
  at_one {xs} {i} {x} {y} p q = p.is ∙ get_or_default xs i x y p.within ∙ sym q.is

  -- What stands where an element was written is that element.
  pub at_set_same : (xs : List X) (i : ℕ) (y : X) {k : ℕ} {x : X} → At (set xs i y) k x → k ≡ i → x ≡ y
  at_set_same xs i y {k} {x} there same =
      let within : i < length xs = omega (arith, there.within, length-set xs i y) in
      there.is ∙ ap (λ (j : ℕ). get_or (set xs i y) j x) same ∙ get_or-set_same xs i y x within

  -- What stands elsewhere stood there before.
  pub at_set_other : (xs : List X) (i : ℕ) (y : X) {k : ℕ} {x : X} → At (set xs i y) k x → (k ≡ i → ⊥) → At xs k x
  at_set_other xs i y {k} {x} there other = record {
    within = omega (arith, there.within, length-set xs i y);
    is = there.is ∙ get_or-set_other xs i k y x other;
  }

  -- What holds of each element below i, and of the one at i, holds of each below i + 1.
  pub at_below_more : (P : ℕ → X → Type 0) {xs : List X} {i : ℕ} {x : X} → ((k : ℕ) (y : X) → k < i → At xs k y → P k y) → At xs i x → P i x → (k : ℕ) (y : X) → k < i + 1 → At xs k y → P k y
  at_below_more P {xs} {i} {x} below here holds k y short there =
      ⊎_elim
      (λ same. subst₂ P (sym same) (at_one here (subst (λ (j : ℕ). At xs j y) same there)) holds)
      (λ other. below k y (omega arith) there)
      (cases_eq k i)
