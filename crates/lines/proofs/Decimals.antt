-- Facts of `decimal`: its digits, its length, and that it has one reading.
use Rattle.std.proofs.Common.{◌≡◌, ℕ, zero, suc, ◌+◌, ◌-◌, ◌*◌, ◌/◌, ◌%◌, ◌^◌, ◌<◌, ◌≤◌, List, [], ◌∷◌, ◌++◌, map, length, get_or, drop, sym, refl, ap, ◌∙◌, subst, inl, inr, append_assoc, arith, length-append}
use lib.ListN.{length-map}
use Rattle.std.specs.Fmt.{decimal as shown}
use Rattle.std.specs.Int.Digits.{digits_of}
use Rattle.std.proofs.lemmas.Fmt.{decimal_digit as shown_digit, decimal-digits_of as shown-digits_of}
use Rattle.std.proofs.lemmas.Int.Digits.{digits_of_step, length-digits_of-le}
use Rattle.std.proofs.lemmas.List.{map_push}
use Rattle.std.proofs.lemmas.Bool.{cases_lt}
use Rattle.lines.specs.Decimal.{decimal}
use Rattle.lines.specs.Reading.{Digit}

-- A number above 0 is written as the digits of the number.
decimal_some : (n : ℕ) → 0 < n → decimal n ≡ map (λ d. 48 + d) (digits_of 10 n)
unfolding decimal
decimal_some zero some = absurd (omega arith)
decimal_some (suc n) some = refl

-- A number below ten is one digit.
pub decimal_digit : (n : ℕ) → n < 10 → decimal n ≡ (48 + n) ∷ []
unfolding decimal
decimal_digit zero small = refl
decimal_digit (suc n) small =
    let z : suc n / 10 ≡ 0 = omega arith in
    let e : suc n % 10 ≡ suc n = omega arith in
    ap (map (λ d. 48 + d)) (digits_of_step 10 (suc n) (omega arith) (omega arith) ∙ (λ i. digits_of 10 (z i) ++ (e i ∷ [])))

-- Below 2 ^ 64 the library prints the same digits.
pub decimal_shown : (n : ℕ) → n < 2 ^ 64 → shown n ≡ decimal n
decimal_shown zero small = shown_digit 0 (omega arith) ∙ sym (decimal_digit 0 (omega arith))
decimal_shown (suc n) small = shown-digits_of (suc n) (omega arith) small ∙ sym (decimal_some (suc n) (omega arith))

-- A larger number is what stands before its last digit, and then that digit.
pub decimal_step : (n : ℕ) → 10 ≤ n → decimal n ≡ decimal (n / 10) ++ ((48 + n % 10) ∷ [])
decimal_step n large =
    decimal_some n (omega arith)
    ∙ ap (map (λ d. 48 + d)) (digits_of_step 10 n (omega arith) (omega arith))
    ∙ map_push (λ d. 48 + d) (digits_of 10 (n / 10)) (n % 10)
    ∙ ap (λ ds. ds ++ ((48 + n % 10) ∷ [])) (sym (decimal_some (n / 10) (omega arith)))

-- What holds of one digit, and goes on to one digit more, holds of every decimal.
module _ (P : ℕ → List ℕ → Type 0) (one : (n : ℕ) → n < 10 → P n ((48 + n) ∷ [])) (more : (n : ℕ) (ds : List ℕ) → 10 ≤ n → P (n / 10) ds → P n (ds ++ ((48 + n % 10) ∷ []))) where
  below : (k n : ℕ) → n ≤ k → P n (decimal n)
  below zero n le = subst (P n) (sym (decimal_digit n (omega arith))) (one n (omega arith))
  below (suc k) n le =
      elim (cases_lt n 10) [
        | inl small ↦ subst (P n) (sym (decimal_digit n small)) (one n small)
        | inr large ↦ subst (P n) (sym (decimal_step n large)) (more n (decimal (n / 10)) large (below k (n / 10) (omega arith)))
      ]

  pub decimal_by_steps : (n : ℕ) → P n (decimal n)
  decimal_by_steps n = below n n (omega arith)

-- A decimal has a digit.
pub decimal-length_ge : (n : ℕ) → 1 ≤ length (decimal n)
decimal-length_ge = decimal_by_steps (λ n ds. 1 ≤ length ds) (λ n small. omega arith) (λ n ds large h. omega (arith, length-append ds ((48 + n % 10) ∷ [])))

-- A number below 10 ^ k has at most k digits.
pub decimal-length_le : (k n : ℕ) → 0 < k → n < 10 ^ k → length (decimal n) ≤ k
unfolding decimal
decimal-length_le k zero some small = omega arith
decimal-length_le k (suc n) some small = omega (arith, length-map (digits_of 10 (suc n)) (λ d. 48 + d), length-digits_of-le 10 k (suc n) (omega arith) small)

-- A number of 32 bits has at most ten digits.
pub decimal-length_le_ten : (n : ℕ) → n < 2 ^ 32 → length (decimal n) ≤ 10
decimal-length_le_ten n small = decimal-length_le 10 n (omega arith) (omega arith)

-- Every byte of the list is a digit.
abbrev pub Digits : List ℕ → Type 0
Digits [] = Unit {0}
Digits (b ∷ bs) = Digit b × Digits bs

-- One digit more at the end leaves digits.
digits_push : (ds : List ℕ) (d : ℕ) → Digits ds → Digit d → Digits (ds ++ (d ∷ []))
digits_push [] d h g = (g, tt)
digits_push (b ∷ bs) d h g = (h.0, digits_push bs d h.1 g)

-- A decimal is made of digits.
pub decimal-digits : (n : ℕ) → Digits (decimal n)
decimal-digits = decimal_by_steps (λ n ds. Digits ds) (λ n small. ((omega arith, omega arith), tt)) (λ n ds large h. digits_push ds (48 + n % 10) h (omega arith, omega arith))

-- Only the number 0 begins with the digit 0.
pub decimal_lead : (n : ℕ) → get_or (decimal n) 0 0 ≡ 48 → n ≡ 0
decimal_lead n = (decimal_by_steps (λ m ds. (0 < length ds) × (get_or ds 0 0 ≡ 48 → m ≡ 0)) (λ m small. (omega arith, λ e. omega arith)) more n).1
  where
    more : (m : ℕ) (ds : List ℕ) → 10 ≤ m → (0 < length ds) × (get_or ds 0 0 ≡ 48 → m / 10 ≡ 0) → (0 < length (ds ++ ((48 + m % 10) ∷ []))) × (get_or (ds ++ ((48 + m % 10) ∷ [])) 0 0 ≡ 48 → m ≡ 0)
    more m [] large h = absurd (omega arith)
    more m (d ∷ ds) large h = (omega arith, λ e. absurd (omega (arith, h.1 e)))

-- The number that digits write behind those of n.
abbrev read_after : ℕ → List ℕ → ℕ
read_after n [] = n
read_after n (b ∷ bs) = read_after (n * 10 + (b - 48)) bs

-- Digits that follow others go on from their number.
read_after_append : (n : ℕ) (xs ys : List ℕ) → read_after n (xs ++ ys) ≡ read_after (read_after n xs) ys
read_after_append n [] ys = refl
read_after_append n (x ∷ xs) ys = read_after_append (n * 10 + (x - 48)) xs ys

-- More digits never make a number smaller.
read_after_ge : (n : ℕ) (ds : List ℕ) → n ≤ read_after n ds
read_after_ge n [] = omega arith
read_after_ge n (b ∷ bs) = omega (arith, read_after_ge (n * 10 + (b - 48)) bs)

-- A decimal is read back as its number.
decimal_read : (n : ℕ) → read_after 0 (decimal n) ≡ n
decimal_read = decimal_by_steps (λ n ds. read_after 0 ds ≡ n) (λ n small. omega arith) (λ n ds large h. omega (arith, read_after_append 0 ds ((48 + n % 10) ∷ []), h))

-- Two numbers with one spelling are equal.
pub decimal_same : (m n : ℕ) → decimal m ≡ decimal n → m ≡ n
decimal_same m n e = sym (decimal_read m) ∙ ap (read_after 0) e ∙ decimal_read n

-- A number whose decimal begins with that of another is at least as large.
pub decimal_ge : (m n : ℕ) (ds : List ℕ) → decimal n ≡ decimal m ++ ds → m ≤ n
decimal_ge m n ds e =
    let read : n ≡ read_after 0 (decimal m ++ ds) = sym (decimal_read n) ∙ ap (read_after 0) e in
    let from : read_after m ds ≡ n = ap (λ k. read_after k ds) (sym (decimal_read m)) ∙ sym (read_after_append 0 (decimal m) ds) ∙ sym read in
    omega (arith, from, read_after_ge m ds)

-- A digit behind a number above 0 makes the number ten times as large and adds itself.
pub decimal_more : (n d : ℕ) → 0 < n → d < 10 → decimal (n * 10 + d) ≡ decimal n ++ ((48 + d) ∷ [])
decimal_more n d some small =
    let front : (n * 10 + d) / 10 ≡ n = omega arith in
    let end : (n * 10 + d) % 10 ≡ d = omega arith in
    decimal_step (n * 10 + d) (omega arith) ∙ (λ i. decimal (front i) ++ ((48 + end i) ∷ []))

-- Digits that another digit follows are only the front of a run of digits that no digit follows.
runs_on : (xs ys : List ℕ) (b : ℕ) (bs rest : List ℕ) → Digits xs → Digit b → (Digit (get_or rest 0 0) → ⊥) → xs ++ (b ∷ bs) ≡ ys ++ rest → (ds : List ℕ) × (ys ≡ xs ++ (b ∷ ds))
runs_on [] [] b bs rest h g stop e = absurd (stop (subst (λ zs. Digit (get_or zs 0 0)) e g))
runs_on [] (y ∷ ys) b bs rest h g stop e = (ys, ap (λ z. z ∷ ys) (sym (ap (λ zs. get_or zs 0 0) e)))
runs_on (x ∷ xs) [] b bs rest h g stop e = absurd (stop (subst (λ zs. Digit (get_or zs 0 0)) e h.0))
runs_on (x ∷ xs) (y ∷ ys) b bs rest h g stop e =
    let (ds, more) = runs_on xs ys b bs rest h.1 g stop (ap (drop 1) e) in
    (ds, (λ i. sym (ap (λ zs. get_or zs 0 0) e) i ∷ more i))

-- Two runs of digits that no digit follows are the same where they begin the same text.
pub digits-unique : (xs ys r s : List ℕ) → Digits xs → Digits ys → (Digit (get_or r 0 0) → ⊥) → (Digit (get_or s 0 0) → ⊥) → xs ++ r ≡ ys ++ s → (xs ≡ ys) × (r ≡ s)
digits-unique [] [] r s h g p q e = (refl, e)
digits-unique [] (y ∷ ys) r s h g p q e = absurd (p (subst (λ zs. Digit (get_or zs 0 0)) (sym e) g.0))
digits-unique (x ∷ xs) [] r s h g p q e = absurd (q (subst (λ zs. Digit (get_or zs 0 0)) e h.0))
digits-unique (x ∷ xs) (y ∷ ys) r s h g p q e =
    let (same, left) = digits-unique xs ys r s h.1 g.1 p q (ap (drop 1) e) in
    ((λ i. ap (λ zs. get_or zs 0 0) e i ∷ same i), left)

-- A decimal that no digit follows is read off in one way.
pub decimal-unique : (m n : ℕ) (r s : List ℕ) → (Digit (get_or r 0 0) → ⊥) → (Digit (get_or s 0 0) → ⊥) → decimal m ++ r ≡ decimal n ++ s → (m ≡ n) × (r ≡ s)
decimal-unique m n r s p q e =
    let (same, left) = digits-unique (decimal m) (decimal n) r s (decimal-digits m) (decimal-digits n) p q e in
    (decimal_same m n same, left)

-- A decimal begins with a digit.
pub decimal_first : (n : ℕ) (rest : List ℕ) → Digit (get_or (decimal n ++ rest) 0 0)
decimal_first n rest = first (decimal n) (decimal-length_ge n) (decimal-digits n)
  where
    first : (ds : List ℕ) → 1 ≤ length ds → Digits ds → Digit (get_or (ds ++ rest) 0 0)
    first [] some h = absurd (omega arith)
    first (d ∷ ds) some h = h.0

-- A digit behind the one digit 0 leaves no number there.
pub zero_then_digit : (b : ℕ) (bs : List ℕ) → Digit b → (n : ℕ) (rest : List ℕ) → (Digit (get_or rest 0 0) → ⊥) → decimal 0 ++ (b ∷ bs) ≡ decimal n ++ rest → ⊥
zero_then_digit b bs g n rest stop e =
    let zero_is : decimal 0 ≡ 48 ∷ [] = decimal_digit 0 (omega arith) in
    let (ds, is) = runs_on (decimal 0) (decimal n) b bs rest (decimal-digits 0) g stop e in
    let spelt : decimal n ≡ 48 ∷ b ∷ ds = is ∙ ap (λ x. x ++ (b ∷ ds)) zero_is in
    let nought : n ≡ 0 = decimal_lead n (ap (λ zs. get_or zs 0 0) spelt) in
    let short : decimal n ≡ 48 ∷ [] = ap decimal nought ∙ zero_is in
    omega (arith, ap length spelt, ap length short)

-- Where the digits so far and the next one pass a bound, no number within the bound stands there.
pub passes : (bound v d : ℕ) (bs : List ℕ) → 0 < v → d < 10 → bound < v * 10 + d → (n : ℕ) (rest : List ℕ) → n ≤ bound → (Digit (get_or rest 0 0) → ⊥) → decimal v ++ ((48 + d) ∷ bs) ≡ decimal n ++ rest → ⊥
passes bound v d bs some small above n rest within stop e =
    let (ds, is) = runs_on (decimal v) (decimal n) (48 + d) bs rest (decimal-digits v) (omega arith, omega arith) stop e in
    let front : decimal n ≡ decimal (v * 10 + d) ++ ds = is ∙ sym (append_assoc (decimal v) ((48 + d) ∷ []) ds) ∙ ap (λ x. x ++ ds) (sym (decimal_more v d some small)) in
    omega (arith, decimal_ge (v * 10 + d) n ds front)
