-- Facts of a line while it is put together.
use Rattle.std.proofs.Common.{◌≡◌, ℕ, ◌+◌, ◌-◌, ◌*◌, ◌<◌, ◌≤◌, List, [], ◌∷◌, ◌++◌, map, length, get_or, take, sym, ap, ◌∙◌, inl, inr, append_assoc, append-nil, arith}
use Rattle.std.proofs.lemmas.List.{map_more}
use Rattle.std.proofs.lemmas.Bool.{cases_eq}
use Rattle.lines.specs.Decimal.{decimal}
use Rattle.lines.specs.Line.{spaced}

-- One word more stands at the end, behind a space.
pub spaced-push : (words : List (List ℕ)) (word : List ℕ) → spaced (words ++ (word ∷ [])) ≡ spaced words ++ (32 ∷ word)
spaced-push [] word = ap (λ w. 32 ∷ w) (append-nil word)
spaced-push (w ∷ ws) word = ap (λ x. 32 ∷ (w ++ x)) (spaced-push ws word) ∙ ap (λ x. 32 ∷ x) (sym (append_assoc w (spaced ws) (32 ∷ word)))

-- A loop over the numbers writes the next one behind a space.
pub spaced_more : (ns : List ℕ) (i : ℕ) → i < length ns → spaced (map decimal (take (i + 1) ns)) ≡ spaced (map decimal (take i ns)) ++ (32 ∷ decimal (get_or ns i 0))
spaced_more ns i below = ap spaced (map_more decimal ns i 0 below) ∙ spaced-push (map decimal (take i ns)) (decimal (get_or ns i 0))

-- A loop that writes the number at i: the line is as long as the first number makes it, and at most eleven bytes longer for every other.
pub room_more : (ns : List ℕ) (i len len' : ℕ) → len ≤ 1 + 11 * i → (0 < i → len ≤ 2 + length (decimal (get_or ns 0 0)) + 11 * (i - 1)) → len' ≡ len + length (decimal (get_or ns i 0)) + 1 → length (decimal (get_or ns i 0)) ≤ 10 → 0 < i + 1 → len' ≤ 2 + length (decimal (get_or ns 0 0)) + 11 * (i + 1 - 1)
room_more ns i len len' short behind more ten some =
    elim (cases_eq i 0) [
      | inl first ↦ omega (arith, ap (λ k. length (decimal (get_or ns k 0))) first)
      | inr later ↦ let above : 0 < i = omega (arith, later) in omega (arith, behind above)
    ]
