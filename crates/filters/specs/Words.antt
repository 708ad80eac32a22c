-- The 1,024 bits of a large filter, as 32 words of 32 bits.
use Rattle.std.specs.Prelude.{ℕ, ◌/◌, ◌%◌, ◌^◌, ◌<◌, Bool, List, map, take, slice_index, slice_set}
use Rattle.std.specs.List.{list_any, zip}
use Rattle.filters.specs.declared.small.Small.{Small}
use Rattle.filters.specs.Bits.{Bit, with_bit, share}

-- The bits of each small filter.
abbrev pub bits_of : List Small → List ℕ
bits_of words = map (λ s. s.bits) words

-- Each of the 32 words has 32 bits.
abbrev pub Narrow : List ℕ → Type 0
Narrow words = (k : ℕ) → k < 32 → slice_index words k < 2 ^ 32

-- The word that holds the bit of an address.
abbrev pub word_of : ℕ → ℕ
word_of a = a % 1024 / 32

-- The bit of an address within its word.
abbrev pub bit_of : ℕ → ℕ
bit_of a = a % 32

-- The bit of address a is set in the words.
abbrev pub Marked : List ℕ → ℕ → Type 0
Marked words a = Bit (slice_index words (word_of a)) (bit_of a)

-- The words with the bit of address a set.
abbrev pub mark : List ℕ → ℕ → List ℕ
mark words a = slice_set words (word_of a) (with_bit (slice_index words (word_of a)) (bit_of a))

-- The two words of a pair share a set bit.
abbrev pub share_pair : ℕ × ℕ → Bool
share_pair pair = share pair.0 pair.1

-- The words of some pair share a set bit.
abbrev pub share_pairs : List ℕ → List ℕ → Bool
share_pairs v w = list_any share_pair (zip v w)

-- The two words at some place, of 32, share a set bit.
abbrev pub share_word : List ℕ → List ℕ → Bool
share_word v w = share_pairs (take 32 v) (take 32 w)
