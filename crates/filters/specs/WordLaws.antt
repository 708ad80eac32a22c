-- Laws of the 32 words of a large filter: what marking an address does, and when two filters share a bit.
use Rattle.std.specs.Prelude.{◌≡◌, ℕ, zero, suc, ◌||◌, [], ◌∷◌, refl, ◌+◌, ◌*◌, ◌<◌, true, false, List, length, replicate, take, slice_index}
use Rattle.std.specs.List.{zip, list_any}
use Rattle.std.proofs.Common.{⊎_elim, sym, ap, ap₂, subst, subst₂, ◌∙◌, arith}
use Rattle.std.proofs.lemmas.Bool.{cases_eq, cases_lt, or_from}
use Rattle.std.proofs.lemmas.List.{length-map, length-take, get_or-take, get_or_past, take_all, get_or-set_same, get_or-set_other, get_or-replicate}
use Rattle.std.proofs.lemmas.List.Folds.{list_any_at}
use Rattle.std.proofs.lemmas.Slice.Zip.{length-zip, get_or-zip}
use Rattle.filters.specs.declared.small.Small.{Small}
use Rattle.filters.specs.Bits.{Bit, with_bit, share}
use Rattle.filters.specs.Words.{bits_of, Narrow, word_of, bit_of, Marked, mark, share_pair, share_pairs, share_word}
use Rattle.filters.specs.BitLaws.{set_sets, set_keeps, zero_none, none_zero, bit_shared, zero_apart, share_comm}

-- Each address has its word among the 32.
word_below : (a : ℕ) → word_of a < 32
word_below a = omega arith

-- The small filters have as many words of bits.
pub full_bits : (words : List Small) → length words ≡ 32 → length (bits_of words) ≡ 32
full_bits words full = length-map words (λ (s : Small). s.bits) ∙ full

-- The bits of each small filter are narrow.
pub narrow_bits : (words : List Small) → Narrow (bits_of words)
narrow_bits [] k h = omega arith
narrow_bits (s ∷ words) zero h = s.narrow
narrow_bits (s ∷ words) (suc k) h = narrow_bits words k (omega arith)

-- Words that are all zero have no address marked.
pub none_marked : (a : ℕ) → Marked (replicate 32 0) a → ⊥
none_marked a h =
    zero_none (bit_of a) (subst (λ x. Bit x (bit_of a)) (get_or-replicate 32 (word_of a) 0 0 (word_below a)) h)

module _ (words : List ℕ) (full : length words ≡ 32) where
  -- The word of a marked address has the address's bit set.
  word_marked : (a : ℕ) → slice_index (mark words a) (word_of a) ≡ with_bit (slice_index words (word_of a)) (bit_of a)
  word_marked a = get_or-set_same words (word_of a) (with_bit (slice_index words (word_of a)) (bit_of a)) 0 (omega arith)

  -- Marking an address marks it.
  pub mark_marks : (a : ℕ) → Marked (mark words a) a
  mark_marks a =
      subst (λ x. Bit x (bit_of a)) (sym (word_marked a)) (set_sets (slice_index words (word_of a)) (bit_of a))

  -- Marking an address keeps the addresses of its own word that are marked.
  same_word : (a b : ℕ) → Marked words b → word_of b ≡ word_of a → Marked (mark words a) b
  same_word a b h e =
      let kept : Bit (with_bit (slice_index words (word_of a)) (bit_of a)) (bit_of b) =
      set_keeps (slice_index words (word_of a)) (bit_of a) (bit_of b) (subst (λ w. Bit (slice_index words w) (bit_of b)) e h) in
      subst (λ w. Bit (slice_index (mark words a) w) (bit_of b)) (sym e)
      (subst (λ x. Bit x (bit_of b)) (sym (word_marked a)) kept)

  -- Marking an address keeps all that are marked, since the other words stay.
  pub mark_keeps : (a b : ℕ) → Marked words b → Marked (mark words a) b
  mark_keeps a b h =
      ⊎_elim (same_word a b h)
      (λ ne. subst (λ x. Bit x (bit_of b))
      (sym (get_or-set_other words (word_of a) (word_of b) (with_bit (slice_index words (word_of a)) (bit_of a)) 0 ne)) h)
      (cases_eq (word_of b) (word_of a))

-- A marked address has its word among the words.
marked_within : (v : List ℕ) (a : ℕ) → Marked v a → word_of a < length v
marked_within v a marked =
    ⊎_elim (λ h. h)
    (λ past. absurd (zero_none (bit_of a) (subst (λ x. Bit x (bit_of a)) (get_or_past v (word_of a) 0 past) marked)))
    (cases_lt (word_of a) (length v))

-- It has the word still among the first 32.
marked_first : (v : List ℕ) (a : ℕ) → Marked v a → Marked (take 32 v) a
marked_first v a marked = subst (λ x. Bit x (bit_of a)) (sym (get_or-take 32 v (word_of a) 0 (word_below a))) marked

-- Words with an address marked in both share a bit in its word.
marked_pairs : (v w : List ℕ) (a : ℕ) → Marked v a → Marked w a → share_pairs v w ≡ true
marked_pairs v w a p q =
    let in_v = marked_within v a p in
    let in_w = marked_within w a q in
    list_any_at share_pair (zip v w) (word_of a) (0, 0) (omega (arith, length-zip v w))
    (ap share_pair (get_or-zip v w (word_of a) (0, 0) in_v in_w)
    ∙ bit_shared (slice_index v (word_of a)) (slice_index w (word_of a)) (bit_of a) p q)

-- Two filters with an address marked in both share a bit in its word.
pub marked-share : (v w : List ℕ) (a : ℕ) → Marked v a → Marked w a → share_word v w ≡ true
marked-share v w a p q = marked_pairs (take 32 v) (take 32 w) a (marked_first v a p) (marked_first w a q)

-- Whether small filters meet at some place is whether their bits do.
share_bits : (v w : List Small) → list_any (λ (p : Small × Small). share p.0.bits p.1.bits) (zip v w) ≡ share_pairs (bits_of v) (bits_of w)
share_bits [] w = refl
share_bits (x ∷ v) [] = refl
share_bits (x ∷ v) (y ∷ w) = ap (λ rest. share x.bits y.bits || rest) (share_bits v w)

-- All of 32 words are the first 32.
pub share_full : (v w : List Small) → length v ≡ 32 → length w ≡ 32 → list_any (λ (p : Small × Small). share p.0.bits p.1.bits) (zip v w) ≡ share_word (bits_of v) (bits_of w)
share_full v w v_full w_full =
    let first_v : take 32 (bits_of v) ≡ bits_of v = take_all 32 (bits_of v) (omega (arith, full_bits v v_full)) in
    let first_w : take 32 (bits_of w) ≡ bits_of w = take_all 32 (bits_of w) (omega (arith, full_bits w w_full)) in
    share_bits v w ∙ ap₂ share_pairs (sym first_v) (sym first_w)

-- Bit b of word k is the bit of address 32 k + b, so a word has no bit set if no address is marked.
word_zero : (v : List ℕ) → Narrow v → ((a : ℕ) → Marked v a → ⊥) → (k : ℕ) → k < 32 → slice_index v k ≡ 0
word_zero v narrow none k h =
    none_zero 32 (slice_index v k) (narrow k h)
    (λ b p x.
    let at : k ≡ word_of (k * 32 + b) = omega arith in
    let bit : b ≡ bit_of (k * 32 + b) = omega arith in
    none (k * 32 + b) (subst₂ (λ w j. Bit (slice_index v w) j) at bit x))

-- Words that are all zero share no bit with any words.
zeros_apart : (v w : List ℕ) → ((k : ℕ) → k < length v → slice_index v k ≡ 0) → share_pairs v w ≡ false
zeros_apart [] w zeros = refl
zeros_apart (x ∷ v) [] zeros = refl
zeros_apart (x ∷ v) (y ∷ w) zeros =
    or_from (share x y) (share_pairs v w) (zero_apart x y (zeros 0 (omega arith)))
    (zeros_apart v w (λ k h. zeros (suc k) (omega arith)))

-- Words with no address marked share no bit with any words.
pub none_share : (v w : List ℕ) → Narrow v → ((a : ℕ) → Marked v a → ⊥) → share_word v w ≡ false
none_share v w narrow none =
    zeros_apart (take 32 v) (take 32 w)
    (λ k h.
    let first : k < 32 = omega (arith, length-take 32 v) in
    get_or-take 32 v k 0 first ∙ word_zero v narrow none k first)

-- Sharing does not depend on the order.
pairs_comm : (v w : List ℕ) → share_pairs v w ≡ share_pairs w v
pairs_comm [] [] = refl
pairs_comm [] (y ∷ w) = refl
pairs_comm (x ∷ v) [] = refl
pairs_comm (x ∷ v) (y ∷ w) = ap₂ ◌||◌ (share_comm x y) (pairs_comm v w)

pub share_word_comm : (v w : List ℕ) → share_word v w ≡ share_word w v
share_word_comm v w = pairs_comm (take 32 v) (take 32 w)
