-- What is outstanding: sums over the pages, and the oldest unfinished writer.
use Rattle.std.proofs.Common.{◌≡◌, ℕ, zero, suc, ◌+◌, ◌<◌, ◌≤◌, ◌⊎◌, List, [], ◌∷◌, set, sum_by, sym, refl, ap, ◌∙◌, inl, inr, ⊎_elim, arith}
use Rattle.std.proofs.lemmas.List.Sums.{sum_by-cons, sum_by-set}
use Rattle.std.proofs.lemmas.Bool.{cases_lt}
use Rattle.rules.specs.Book.{Standing, running, writing, finished, Page, owed}
use Rattle.rules.specs.Lists.{At}
use Rattle.rules.specs.Promise.{In}
use Rattle.promise.proofs.Promised.Pages.{in_none, in_cons, running≢writing, finished≢writing}
use Rattle.promise.proofs.Promised.Turns.{at_first, at_cons, at_read}

-- A sum of nothing but zeros.
pub sum_none : {X : Type 0} (f : X → ℕ) (xs : List X) → ((i : ℕ) (x : X) → At xs i x → f x ≡ 0) → sum_by f xs ≡ 0
sum_none f [] none = refl
sum_none f (x ∷ xs) none = omega (arith, sum_by-cons f x xs, none zero x at_first, sum_none f xs (λ i y here. none (suc i) y (at_cons here)))

-- A standing is that of an unfinished writer, or it is not and owes nothing.
unfinished_or_not : (st : Standing) → (((i n : ℕ) → st ≡ writing i n → ⊥) × (owed st ≡ 0)) ⊎ ((i : ℕ) × (n : ℕ) × (st ≡ writing i n))
unfinished_or_not running = inl ((λ i n e. running≢writing e), refl)
unfinished_or_not (writing i n) = inr (i, n, refl)
unfinished_or_not (finished i) = inl ((λ j n e. finished≢writing e), refl)

module _ {C : Type 0} where
  -- An unfinished writer with the lowest place among the pages.
  pub record Lowest (pages : List (Page C)) : Type 0 where
    pub page : Page C
    pub place : ℕ
    pub owes : ℕ
    pub there : In pages page
    pub standing : page.standing ≡ writing place owes
    pub least : (q : Page C) → In pages q → (i n : ℕ) → q.standing ≡ writing i n → place ≤ i

  -- No page is an unfinished writer.
  abbrev AllSettled : List (Page C) → Type 0
  AllSettled pages = (q : Page C) → In pages q → (i n : ℕ) → q.standing ≡ writing i n → ⊥

  -- The page in front is one of the pages.
  in_first : {p : Page C} {ps : List (Page C)} → In (p ∷ ps) p
  in_first = record { index = zero; there = at_first }

  -- So are those behind it.
  in_later : {p q : Page C} {ps : List (Page C)} → In ps q → In (p ∷ ps) q
  in_later here = record { index = suc here.index; there = at_cons here.there }

  -- The page in front is unfinished: it is the lowest, or the lowest of the others is.
  lowest_front : (p : Page C) (ps : List (Page C)) (i n : ℕ) → p.standing ≡ writing i n → AllSettled ps ⊎ Lowest ps → Lowest (p ∷ ps)
  lowest_front p ps i n is (inl none) = record {
    page = p;
    place = i;
    owes = n;
    there = in_first;
    standing = is;
    least = in_cons (λ (q : Page C). (j m : ℕ) → q.standing ≡ writing j m → i ≤ j)
        (λ j m e. let same : i ≡ j = let both = sym is ∙ e in cc in omega arith)
        (λ q here j m e. absurd (none q here j m e));
  }
  lowest_front p ps i n is (inr low) =
      ⊎_elim
      (λ less. record {
        page = p;
        place = i;
        owes = n;
        there = in_first;
        standing = is;
        least = in_cons (λ (q : Page C). (j m : ℕ) → q.standing ≡ writing j m → i ≤ j)
            (λ j m e. let same : i ≡ j = let both = sym is ∙ e in cc in omega arith)
            (λ q here j m e. let least = low.least q here j m e in omega arith);
      })
      (λ more. record {
        page = low.page;
        place = low.place;
        owes = low.owes;
        there = in_later low.there;
        standing = low.standing;
        least = in_cons (λ (q : Page C). (j m : ℕ) → q.standing ≡ writing j m → low.place ≤ j)
            (λ j m e. let same : i ≡ j = let both = sym is ∙ e in cc in omega arith)
            (λ q here j m e. low.least q here j m e);
      })
      (cases_lt i low.place)

  -- The page in front is not: nothing changes.
  lowest_behind : (p : Page C) (ps : List (Page C)) → ((i n : ℕ) → p.standing ≡ writing i n → ⊥) → AllSettled ps ⊎ Lowest ps → AllSettled (p ∷ ps) ⊎ Lowest (p ∷ ps)
  lowest_behind p ps settled (inl none) = inl (in_cons (λ (q : Page C). (j m : ℕ) → q.standing ≡ writing j m → ⊥) settled none)
  lowest_behind p ps settled (inr low) = inr (record {
    page = low.page;
    place = low.place;
    owes = low.owes;
    there = in_later low.there;
    standing = low.standing;
    least = in_cons (λ (q : Page C). (j m : ℕ) → q.standing ≡ writing j m → low.place ≤ j) (λ j m e. absurd (settled j m e)) low.least;
  })

  -- Either no page is an unfinished writer, or there is one with the lowest place.
  find_lowest : (pages : List (Page C)) → AllSettled pages ⊎ Lowest pages
  find_lowest [] = inl (λ q here. absurd (in_none here))
  find_lowest (p ∷ ps) =
      ⊎_elim
      (λ settled. lowest_behind p ps settled.0 (find_lowest ps))
      (λ found. inr (lowest_front p ps found.0 found.1 found.2 (find_lowest ps)))
      (unfinished_or_not p.standing)

  -- While anything is outstanding there is an oldest unfinished writer.
  pub lowest : (pages : List (Page C)) → 0 < sum_by (λ (p : Page C). owed p.standing) pages → Lowest pages
  lowest pages some =
      ⊎_elim
      (λ none. absurd (omega (
        arith,
        sum_none (λ (p : Page C). owed p.standing) pages (λ i p here.
            ⊎_elim (λ settled. settled.1) (λ found. absurd (none p (record { index = i; there = here }) found.0 found.1 found.2)) (unfinished_or_not p.standing)),
      )))
      (λ low. low)
      (find_lowest pages)

  -- A page in place of another changes the sum by the difference of the two.
  pub sum_turned : {pages : List (Page C)} {k : ℕ} {p : Page C} → (q : Page C) → At pages k p → sum_by (λ (x : Page C). owed x.standing) (set pages k q) + owed p.standing ≡ sum_by (λ (x : Page C). owed x.standing) pages + owed q.standing
  sum_turned {pages} {k} {p} q here =
      omega (
        arith,
        sum_by-set (λ (x : Page C). owed x.standing) pages k q p here.within,
        ap (λ (x : Page C). owed x.standing) (at_read here p),
      )
