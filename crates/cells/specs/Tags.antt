-- The tags memory: a list of bytes, five bytes a tag.
use Rattle.std.specs.Prelude.{ℕ, ◌+◌, ◌*◌, ◌/◌, ◌%◌, ◌^◌, List, map, length, drop, set, slice_index, slice_set}
use Rattle.std.specs.List.{range_with_len}
use Rattle.cells.specs.declared.tags.Tag.{Tag}

-- There are as many tags as whole groups of five bytes.
abbrev pub count : List ℕ → ℕ
count bytes = length bytes / 5

-- Four bytes as one number, most significant byte first.
abbrev pub big_endian : ℕ → ℕ → ℕ → ℕ → ℕ
big_endian b1 b2 b3 b4 = b1 * 2 ^ 24 + b2 * 2 ^ 16 + b3 * 2 ^ 8 + b4

-- The tag k stands in the five bytes from 5 * k on: the quality, then the four bytes of the value.
abbrev pub tag_at : List ℕ → ℕ → Tag
tag_at bytes k = record {
  quality = slice_index bytes (5 * k);
  value = big_endian (slice_index bytes (5 * k + 1)) (slice_index bytes (5 * k + 2)) (slice_index bytes (5 * k + 3)) (slice_index bytes (5 * k + 4));
}

-- The tags, in order of their addresses.
abbrev pub tags : List ℕ → List Tag
tags bytes = map (tag_at bytes) (range_with_len 0 (count bytes))

-- The bytes behind the last whole tag.
abbrev pub leftover : List ℕ → List ℕ
leftover bytes = drop (5 * count bytes) bytes

-- The bytes with a tag put at the address k: the quality, then the four bytes of the value.
abbrev pub stored : List ℕ → ℕ → Tag → List ℕ
stored bytes k tag =
    let quality = set bytes (5 * k) tag.quality in
    let first = set quality (5 * k + 1) (tag.value / 2 ^ 24 % 2 ^ 8) in
    let second = set first (5 * k + 2) (tag.value / 2 ^ 16 % 2 ^ 8) in
    let third = set second (5 * k + 3) (tag.value / 2 ^ 8 % 2 ^ 8) in
    slice_set third (5 * k + 4) (tag.value % 2 ^ 8)
