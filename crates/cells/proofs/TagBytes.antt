-- The tags of a list of bytes, and what a store of one tag changes.
use Rattle.std.proofs.Common.{◌≡◌, ℕ, ◌+◌, ◌*◌, ◌/◌, ◌%◌, ◌^◌, ◌<◌, ◌≢◌, List, length, get_or, set, sym, ◌∙◌, inl, inr, arith}
use Rattle.std.proofs.lemmas.Nat.{mod-pow-add}
use Rattle.std.proofs.lemmas.List.FromFn.{get_or-map-range_with_len, length-map-range_with_len}
use Rattle.std.proofs.lemmas.List.{drop-set-lt, get_or-set_other, get_or-set_same, length-set, same_lists}
use Rattle.std.proofs.lemmas.Bool.{cases_eq}
use Rattle.cells.specs.declared.tags.Tag.{Tag}
use Rattle.cells.specs.Tags.{big_endian, count, leftover, stored, tag_at, tags}

-- The size is the number of tags.
pub length-tags : (bytes : List ℕ) → length (tags bytes) ≡ count bytes
length-tags bytes = length-map-range_with_len (tag_at bytes) 0 (count bytes)

-- The tag at an address is the one that its five bytes hold.
pub get_or-tags : (bytes : List ℕ) (k : ℕ) (d : Tag) → k < count bytes → get_or (tags bytes) k d ≡ tag_at bytes k
get_or-tags bytes k d below = get_or-map-range_with_len (tag_at bytes) 0 (count bytes) k k d below (omega arith)

-- A value is its four bytes: a read joins what a store split.
joined_split : (v : ℕ) → v < 2 ^ 32 → big_endian (v / 2 ^ 24 % 2 ^ 8) (v / 2 ^ 16 % 2 ^ 8) (v / 2 ^ 8 % 2 ^ 8) (v % 2 ^ 8) ≡ v
joined_split v fits = omega (arith, mod-pow-add v 8 24, mod-pow-add v 8 16, mod-pow-add v 8 8)

module _ (bytes : List ℕ) (k : ℕ) (tag : Tag) (below : k < count bytes) (fits : tag.value < 2 ^ 32) where
  -- A store leaves as many bytes as there were.
  length-stored : length (stored bytes k tag) ≡ length bytes
  length-stored = simp length-set

  -- The tag at the address of the store is the stored one.
  tag_at_same : tag_at (stored bytes k tag) k ≡ tag
  tag_at_same =
      let value = joined_split tag.value fits in
      grind (arith, get_or-set_same, get_or-set_other, length-set)

  -- No stored byte is among the five of another tag.
  tag_at_other : (j : ℕ) → j ≢ k → tag_at (stored bytes k tag) j ≡ tag_at bytes j
  tag_at_other j apart = grind (arith, get_or-set_other)

  -- So a store sets just the tag at its address.
  pub tags-stored : tags (stored bytes k tag) ≡ set (tags bytes) k tag
  tags-stored =
      let after = stored bytes k tag in
      same_lists _ _
      (simp (length-set, length-map-range_with_len))
      (λ j d h.
      let within : j < count bytes = omega (arith, length-tags after, length-stored) in
      let is : get_or (tags after) j d ≡ tag_at after j = get_or-tags after j d (omega (arith, length-stored)) in
      elim (cases_eq j k) [
        | inl here ↦
            let same = tag_at_same in
            let put = get_or-set_same (tags bytes) k tag d (omega (arith, length-tags bytes)) in
            cc
        | inr apart ↦
            is ∙ tag_at_other j apart ∙ sym (get_or-tags bytes j d within)
            ∙ sym (get_or-set_other (tags bytes) k j tag d apart)
      ])

  -- Each stored byte is in front of the leftover bytes.
  pub leftover-stored : leftover (stored bytes k tag) ≡ leftover bytes
  leftover-stored =
      let front : 5 * k + 4 < 5 * count bytes = omega arith in
      simp length-set (grind (arith, drop-set-lt))
