-- The one spelling of a number.
use Rattle.std.specs.Prelude.{ℕ, zero, suc, ◌+◌, List, [], ◌∷◌, map}
use Rattle.std.specs.Int.Digits.{digits_of}

-- The digits of n to the base ten as bytes, the highest first and not 0; the number 0 is the one digit 0.
unfoldable pub decimal : ℕ → List ℕ
decimal zero = 48 ∷ []
decimal (suc n) = map (λ d. 48 + d) (digits_of 10 (suc n))
