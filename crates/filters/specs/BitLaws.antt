-- Laws of single bits: what setting one does, what two numbers share, and when a number has none.
use Rattle.std.specs.Prelude.{◌≡◌, ℕ, ◌^◌, ◌<◌, true, false, not, ◌==◌, bit_and}
use Rattle.std.specs.Int.{bit_at}
use Rattle.std.proofs.Common.{ap, subst, arith}
use Rattle.std.proofs.lemmas.Nat.{and_comm, pow_pos}
use Rattle.std.proofs.lemmas.Nat.Bits.{bit_at-lt, bit_at-zero, bit_at_or, bit_at_and, bit_at-pow_same, same_from_bits_below}
use Rattle.std.proofs.lemmas.Bool.{ne_eqb}
use Rattle.filters.specs.Bits.{Bit, with_bit, share}

-- Setting a bit sets it.
pub set_sets : (n k : ℕ) → Bit (with_bit n k) k
set_sets n k = omega (arith, bit_at_or n (2 ^ k) k, bit_at-pow_same k, bit_at-lt n k)

-- Setting a bit keeps the bits that are set.
pub set_keeps : (n j k : ℕ) → Bit n k → Bit (with_bit n j) k
set_keeps n j k h = omega (arith, bit_at_or n (2 ^ j) k, bit_at-lt (2 ^ j) k)

-- Zero has no set bit.
pub zero_none : (k : ℕ) → Bit 0 k → ⊥
zero_none k h = omega (arith, bit_at-zero k)

-- A number below 2 ^ w with no set bit below w is zero.
pub none_zero : (w n : ℕ) → n < 2 ^ w → ((k : ℕ) → k < w → Bit n k → ⊥) → n ≡ 0
none_zero w n h none =
    same_from_bits_below w n 0 h (pow_pos w)
    (λ k p. let unset : bit_at n k ≡ 1 → ⊥ = none k p in omega (arith, bit_at-lt n k, bit_at-zero k))

-- Two numbers with a set bit in common share one: the bit is set in their intersection, which is not zero.
pub bit_shared : (m n k : ℕ) → Bit m k → Bit n k → share m n ≡ true
bit_shared m n k p q =
    let both : Bit (bit_and m n) k = omega (arith, bit_at_and m n k) in
    ap not (ne_eqb (bit_and m n) 0 (λ e. zero_none k (subst (λ x. Bit x k) e both)))

-- Zero shares a bit with no number.
pub zero_apart : (m n : ℕ) → m ≡ 0 → share m n ≡ false
zero_apart m n e = ap (λ x. share x n) e

-- Sharing does not depend on the order.
pub share_comm : (m n : ℕ) → share m n ≡ share n m
share_comm m n = ap (λ x. not (x == 0)) (and_comm m n)
