-- Logs laid over cells, one whole log after another.
use Rattle.std.proofs.Common.{◌≡◌, ℕ, zero, suc, ◌<◌, ◌≤◌, List, [], ◌∷◌, length, get_or, set, sym, refl, ap, ◌∙◌, subst, ⊎_elim, arith}
use Rattle.std.proofs.lemmas.List.{length-set, get_or-set_same, get_or-set_other}
use Rattle.std.proofs.lemmas.Bool.{cases_eq}
use Rattle.rules.specs.Book.{Book, log_in, overlaid, laid}
use Rattle.rules.specs.Lists.{At}
use Rattle.promise.proofs.Promised.Turns.{at_cons, at_tail, at_first}

module _ {C : Type 0} where
  -- No pair of the log has the address.
  abbrev pub Without : List (ℕ × C) → ℕ → Type 0
  Without l a = (k : ℕ) (c : C) → At l k (a, c) → ⊥

  -- No address stands twice in the log.
  abbrev pub Once : List (ℕ × C) → Type 0
  Once l = (k j a : ℕ) (c d : C) → At l k (a, c) → At l j (a, d) → k ≡ j

  -- A log laid over cells leaves their number.
  pub overlaid-length : (cells : List C) (l : List (ℕ × C)) → length (overlaid cells l) ≡ length cells
  overlaid-length cells [] = refl
  overlaid-length cells (p ∷ ps) = overlaid-length (set cells p.0 p.1) ps ∙ length-set cells p.0 p.1

  -- A log leaves a cell that it does not name.
  pub overlaid_without : (cells : List C) (l : List (ℕ × C)) (a : ℕ) (d : C) → Without l a → get_or (overlaid cells l) a d ≡ get_or cells a d
  overlaid_without cells [] a d without = refl
  overlaid_without cells (p ∷ ps) a d without =
      overlaid_without (set cells p.0 p.1) ps a d (λ k c here. without (suc k) c (at_cons here))
      ∙ get_or-set_other cells p.0 a p.1 d (λ e. without zero p.1 (subst (λ (x : ℕ). At (p ∷ ps) zero (x, p.1)) (sym e) at_first))

  -- A log puts its cell at an address that it names once.
  pub overlaid_with : (cells : List C) (l : List (ℕ × C)) (k a : ℕ) (c d : C) → Once l → At l k (a, c) → a < length cells → get_or (overlaid cells l) a d ≡ c
  overlaid_with cells [] k a c d once here inside = absurd (omega (arith, here.within))
  overlaid_with cells (p ∷ ps) zero a c d once here inside =
      overlaid_without (set cells p.0 p.1) ps a d (λ k x there. let e : zero ≡ suc k = once zero (suc k) a c x here (at_cons there) in omega arith)
      ∙ subst (λ (q : ℕ × C). get_or (set cells q.0 q.1) a d ≡ c) here.is (get_or-set_same cells a c d inside)
  overlaid_with cells (p ∷ ps) (suc k) a c d once here inside =
      overlaid_with (set cells p.0 p.1) ps k a c d
      (λ i j x y z p q. let e : suc i ≡ suc j = once (suc i) (suc j) x y z (at_cons p) (at_cons q) in omega arith)
      (at_tail here)
      (rw length-set inside)

  -- The cells after the logs of places 1 to k.
  abbrev pub layers : List C → (ℕ → List (ℕ × C)) → ℕ → List C
  layers origin log zero = origin
  layers origin log (suc k) = overlaid (layers origin log k) (log (suc k))

  -- So do all logs.
  pub layers-length : (origin : List C) (log : ℕ → List (ℕ × C)) (k : ℕ) → length (layers origin log k) ≡ length origin
  layers-length origin log zero = refl
  layers-length origin log (suc k) = overlaid-length (layers origin log k) (log (suc k)) ∙ layers-length origin log k

  -- They are those logs' alone.
  pub layers_same : (origin : List C) (f g : ℕ → List (ℕ × C)) (k : ℕ) → ((i : ℕ) → 0 < i → i ≤ k → f i ≡ g i) → layers origin f k ≡ layers origin g k
  layers_same origin f g zero same = refl
  layers_same origin f g (suc k) same =
      ap (λ (x : List C). overlaid x (f (suc k))) (layers_same origin f g k (λ i low high. same i low (omega arith)))
      ∙ ap (λ (l : List (ℕ × C)). overlaid (layers origin g k) l) (same (suc k) (omega arith) (omega arith))

  -- The book's cells after k logs are the layers of the logs that stand in its pages.
  pub laid-layers : (b : Book C) (k : ℕ) → laid b k ≡ layers b.origin (log_in b.pages) k
  unfolding laid
  laid-layers b zero = refl
  laid-layers b (suc k) = ap (λ (x : List C). overlaid x (log_in b.pages (suc k))) (laid-layers b k)

  -- A cell that no log from m to n names is the same after m and after n logs.
  pub layers_still : (origin : List C) (log : ℕ → List (ℕ × C)) (m n a : ℕ) (d : C) → m ≤ n → ((i : ℕ) → m < i → i ≤ n → Without (log i) a) → get_or (layers origin log n) a d ≡ get_or (layers origin log m) a d
  layers_still origin log m zero a d low without = let e : zero ≡ m = omega arith in ap (λ (k : ℕ). get_or (layers origin log k) a d) e
  layers_still origin log m (suc n) a d low without =
      ⊎_elim
      (λ same. ap (λ (k : ℕ). get_or (layers origin log k) a d) (sym same))
      (λ other.
      overlaid_without (layers origin log n) (log (suc n)) a d (without (suc n) (omega arith) (omega arith))
      ∙ layers_still origin log m n a d (omega arith) (λ i above below. without i above (omega arith)))
      (cases_eq m (suc n))

  -- After the log of place i its cells stand at its addresses.
  pub layers_with : (origin : List C) (log : ℕ → List (ℕ × C)) (i k a : ℕ) (c d : C) → 0 < i → Once (log i) → At (log i) k (a, c) → a < length origin → get_or (layers origin log i) a d ≡ c
  layers_with origin log zero k a c d counted once here inside = absurd (omega arith)
  layers_with origin log (suc i) k a c d counted once here inside =
      overlaid_with (layers origin log i) (log (suc i)) k a c d once here (rw layers-length inside)
