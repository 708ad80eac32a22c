-- A list with another element at one index, and a function with another value at one number.
use Rattle.std.proofs.Common.{◌≡◌, ℕ, zero, suc, ◌<◌, cond, eqb, List, [], ◌∷◌, length, get_or, set, sym, refl, ◌∙◌, subst, arith}
use Rattle.std.proofs.lemmas.List.{length-set, get_or-set_same, get_or-set_other, get_or_default}
use Rattle.std.proofs.lemmas.Bool.{eq-eqb, ne_eqb, cond-true, cond-false}
use Rattle.rules.specs.Lists.{At}

module _ {X : Type 0} where
  -- One element more in front.
  pub at_cons : {xs : List X} {i : ℕ} {x y : X} → At xs i y → At (x ∷ xs) (suc i) y
  at_cons here = record { within = omega (arith, here.within); is = here.is }

  -- One element less in front.
  pub at_tail : {xs : List X} {i : ℕ} {x y : X} → At (x ∷ xs) (suc i) y → At xs i y
  at_tail here = record { within = omega (arith, here.within); is = here.is }

  -- The element in front stands at zero.
  pub at_first : {xs : List X} {x : X} → At (x ∷ xs) zero x
  at_first = record { within = omega arith; is = refl }

  -- In an empty list nothing stands at an index.
  pub at_none : {i : ℕ} {x : X} → At [] i x → ⊥
  at_none here = omega (arith, here.within)

  -- Below the length some element stands.
  pub at_some : (xs : List X) (i : ℕ) → i < length xs → (x : X) × At xs i x
  at_some [] i short = absurd (omega arith)
  at_some (x ∷ xs) zero short = (x, at_first)
  at_some (x ∷ xs) (suc i) short = let (y, here) = at_some xs i (omega arith) in (y, at_cons here)

  -- What stands there is read at any default.
  pub at_read : {xs : List X} {i : ℕ} {x : X} → At xs i x → (d : X) → get_or xs i d ≡ x
  at_read {xs} {i} {x} here d = get_or_default xs i d x here.within ∙ sym here.is

  -- What is read below the length stands there.
  pub at_made : (xs : List X) (i : ℕ) (x : X) → i < length xs → get_or xs i x ≡ x → At xs i x
  at_made xs i x short e = record { within = short; is = sym e }

  -- What another list holds at the index too.
  pub at_same : {xs ys : List X} {i : ℕ} {x : X} → xs ≡ ys → At xs i x → At ys i x
  at_same {i = i} {x = x} e here = subst (λ (l : List X). At l i x) e here

  -- What is set stands there.
  pub at_set_same : (xs : List X) (i : ℕ) (y : X) → i < length xs → At (set xs i y) i y
  at_set_same xs i y short = record { within = rw length-set short; is = sym (get_or-set_same xs i y y short) }

  -- What stands elsewhere still stands there.
  pub at_set_other : {xs : List X} {i j : ℕ} {x : X} → (y : X) → (j ≡ i → ⊥) → At xs j x → At (set xs i y) j x
  at_set_other {xs} {i} {j} {x} y apart here = record { within = rw length-set here.within; is = here.is ∙ sym (get_or-set_other xs i j y x apart) }

  -- What stands elsewhere stood there before.
  pub at_set_back : (xs : List X) (i j : ℕ) (x y : X) → At (set xs i y) j x → (j ≡ i → ⊥) → At xs j x
  at_set_back xs i j x y here apart = record { within = omega (arith, here.within, length-set xs i y); is = here.is ∙ get_or-set_other xs i j y x apart }

  -- The list ys is xs with y at i.
  pub record Turned (xs ys : List X) (i : ℕ) (y : X) : Type 0 where
    pub mine : At ys i y
    pub others : (j : ℕ) (x : X) → (j ≡ i → ⊥) → At xs j x → At ys j x
    pub back : (j : ℕ) (x : X) → (j ≡ i → ⊥) → At ys j x → At xs j x

  -- A set turns the list so.
  pub turned_set : (xs : List X) (i : ℕ) (y : X) → i < length xs → Turned xs (set xs i y) i y
  turned_set xs i y short = record {
    mine = at_set_same xs i y short;
    others = λ j x apart here. at_set_other y apart here;
    back = λ j x apart here. at_set_back xs i j x y here apart;
  }

  -- A list is itself with what stands at i.
  pub turned_same : {xs : List X} {i : ℕ} {x : X} → At xs i x → Turned xs xs i x
  turned_same here = record { mine = here; others = λ j x apart h. h; back = λ j x apart h. h }

  -- A function with another value at one number.
  unfoldable pub put : (ℕ → X) → ℕ → X → ℕ → X
  put f i x j = cond (eqb j i) x (f j)

  -- At that number it has the new value.
  pub put_at : (f : ℕ → X) (i j : ℕ) (x : X) → j ≡ i → put f i x j ≡ x
  unfolding put
  put_at f i j x same = cond-true (eqb j i) x (f j) (eq-eqb j i same)

  -- At any other number it has the old value.
  pub put_other : (f : ℕ → X) (i j : ℕ) (x : X) → (j ≡ i → ⊥) → put f i x j ≡ f j
  unfolding put
  put_other f i j x apart = cond-false (eqb j i) x (f j) (ne_eqb j i apart)
