-- The small filter leaves nothing open: its new value and its adding are functions of its bits.
use Rattle.std.specs.Prelude.{◌≡◌, ℕ, ◌%◌, ◌^◌, ◌<◌}
use mathlib.Core.HLevel.{is_prop→PathP}
use Rattle.std.proofs.Math.Bridge.{le_prop}
use Rattle.std.proofs.Common.{arith, lit<}
use Rattle.std.proofs.lemmas.Nat.{pow_below, or_lt}
use Rattle.filters.specs.Bits.{with_bit}
use Rattle.filters.specs.contracts.small.SmallFilter.TheImpl.{ghosts}
use Rattle.filters.specs.declared.small.Small.{Small}
use Rattle.forced.specs.Play.{Exact}

-- Two small filters with the same bits are one, since the bound on the bits is a proposition.
pub small_one : (f g : Small) → f.bits ≡ g.bits → f ≡ g
small_one f g e = λ i. record { bits = e i; narrow = is_prop→PathP (λ j. e j < 2 ^ 32) (λ j. le_prop) f.narrow g.narrow i }

-- No bit is set.
abbrev pub empty_bits : Small
empty_bits = record { bits = 0; narrow = lit< tt }

-- The bit of the address, its remainder by 32, is set.
abbrev pub add_bit : Small → ℕ → Small
add_bit f a = record { bits = with_bit f.bits (a % 32); narrow = or_lt 32 f.bits (2 ^ (a % 32)) f.narrow (pow_below (a % 32) 32 (omega arith)) }

abbrev pub small_exact : Exact ghosts
small_exact = record {
  new = empty_bits;
  add = add_bit;
  fresh_is = λ f e. small_one f empty_bits e;
  added_is = λ f g a e. small_one g (add_bit f a) e;
}
