-- How a number is read off a text, digit by digit.
use Rattle.std.proofs.Common.{◌≡◌, ℕ, ◌+◌, ◌*◌, ◌<◌, List, [], ◌∷◌, ◌++◌, get_or, drop, sym, ap, ◌∙◌, subst, append_assoc, add-zero, arith}
use Rattle.std.proofs.lemmas.List.{drop_more, get_or-drop}
use Rattle.lines.specs.Decimal.{decimal}
use Rattle.lines.specs.Grammar.{most}
use Rattle.lines.specs.Reading.{Digit, DigitAt, NoNumber}
use Rattle.lines.proofs.Decimals.{decimal_digit, decimal_more, decimal_first, zero_then_digit, passes}

-- The first byte of what is left of a text is the byte at the position.
pub first_left : (text : List ℕ) (at : ℕ) → get_or (drop at text) 0 0 ≡ get_or text at 0
first_left text at = get_or-drop at text 0 0 ∙ ap (λ i. get_or text i 0) (add-zero at)

module _ (text : List ℕ) (at : ℕ) where
  -- A digit at the position is the first byte of what is left.
  digit_left : (d : ℕ) → DigitAt text at d → drop at text ≡ (48 + d) ∷ drop (at + 1) text
  digit_left d h = drop_more text at 0 h.inside ∙ ap (λ b. b ∷ drop (at + 1) text) h.byte

  -- The first digit is a number.
  pub number_one : (d : ℕ) → DigitAt text at d → drop at text ≡ decimal d ++ drop (at + 1) text
  number_one d h = digit_left d h ∙ ap (λ ds. ds ++ drop (at + 1) text) (sym (decimal_digit d h.one))

  -- Where no digit stands, no number does.
  pub no_number_none : (Digit (get_or text at 0) → ⊥) → NoNumber text at
  no_number_none none n rest le stop e = none (subst Digit (sym (ap (λ zs. get_or zs 0 0) e) ∙ first_left text at) (decimal_first n rest))

module _ (text : List ℕ) (at end v d : ℕ) (so : drop at text ≡ decimal v ++ drop end text) (next : DigitAt text end d) where
  -- What stands at the position, with the next digit in sight.
  in_sight : drop at text ≡ decimal v ++ ((48 + d) ∷ drop (end + 1) text)
  in_sight = so ∙ ap (λ zs. decimal v ++ zs) (digit_left text end d next)

  -- A digit behind a number above 0 makes a longer number.
  pub number_more : 0 < v → drop at text ≡ decimal (v * 10 + d) ++ drop (end + 1) text
  number_more some =
      in_sight
      ∙ sym (append_assoc (decimal v) ((48 + d) ∷ []) (drop (end + 1) text))
      ∙ ap (λ ds. ds ++ drop (end + 1) text) (sym (decimal_more v d some next.one))

  -- A digit behind a leading zero leaves no number.
  pub no_number_zero : v ≡ 0 → NoNumber text at
  no_number_zero z n rest le stop e =
      zero_then_digit (48 + d) (drop (end + 1) text) (omega arith, omega (arith, next.one)) n rest stop (ap (λ k. decimal k ++ ((48 + d) ∷ drop (end + 1) text)) (sym z) ∙ sym in_sight ∙ e)

  -- A digit that makes the number too large leaves no number.
  pub no_number_past : 0 < v → most < v * 10 + d → NoNumber text at
  no_number_past some above n rest le stop e = passes most v d (drop (end + 1) text) some next.one above n rest le stop (sym in_sight ∙ e)
