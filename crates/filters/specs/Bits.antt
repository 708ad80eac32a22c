-- Bits of a number, counted from the least significant one.
use Rattle.std.specs.Prelude.{◌≡◌, ℕ, ◌^◌, Bool, not, ◌==◌, bit_and, bit_or}
use Rattle.std.specs.Int.{bit_at}

-- Bit k of n is set.
abbrev pub Bit : ℕ → ℕ → Type 0
Bit n k = bit_at n k ≡ 1

-- n with bit k set.
abbrev pub with_bit : ℕ → ℕ → ℕ
with_bit n k = bit_or n (2 ^ k)

-- Two numbers have a set bit in common.
abbrev pub share : ℕ → ℕ → Bool
share m n = not (bit_and m n == 0)
