-- Bytes of 0 are tags of 0.
use Rattle.std.proofs.Common.{◌≡◌, ℕ, ◌+◌, ◌*◌, ◌<◌, List, length, get_or, replicate, sym, ap, ◌∙◌, ⊎_elim, arith}
use Rattle.std.proofs.lemmas.List.FromFn.{get_or-map-range_with_len, length-map-range_with_len}
use Rattle.std.proofs.lemmas.List.{get_or-replicate, get_or_past, length-replicate, same_lists}
use Rattle.std.proofs.lemmas.Bool.{cases_lt}
use Rattle.cells.specs.declared.tags.Tag.{Tag}
use Rattle.cells.specs.Tags.{big_endian, count, tag_at, tags}
use Rattle.runner.specs.Runs.{tag_made}

-- Every byte is 0, and so is what is read past the end.
zero_byte : (m j : ℕ) → ◌≡◌ {A = ℕ} (get_or (replicate m 0) j 0) 0
zero_byte m j =
    ⊎_elim
    (λ inside. get_or-replicate {A = ℕ} m j 0 0 inside)
    (λ past. get_or_past {X = ℕ} (replicate m 0) j 0 (omega (arith, length-replicate {A = ℕ} m 0)))
    (cases_lt j m)

-- So every tag has value and quality 0.
zero_tag : (m k : ℕ) → tag_at (replicate m 0) k ≡ tag_made 0 0
zero_tag m k = λ i. record {
  quality = zero_byte m (5 * k) i;
  value = big_endian (zero_byte m (5 * k + 1) i) (zero_byte m (5 * k + 2) i) (zero_byte m (5 * k + 3) i) (zero_byte m (5 * k + 4) i);
}

pub zero_tags : (n : ℕ) (bytes : List ℕ) → bytes ≡ replicate (5 * n) 0 → tags bytes ≡ replicate n (tag_made 0 0)
zero_tags n bytes zeros = ap tags zeros ∙ same_lists (tags (replicate (5 * n) 0)) (replicate n (tag_made 0 0)) same_length same_tag
  where
    many : count (replicate (5 * n) 0) ≡ n
    many = omega (arith, length-replicate {A = ℕ} (5 * n) 0)

    same_length : length (tags (replicate (5 * n) 0)) ≡ length (replicate n (tag_made 0 0))
    same_length = length-map-range_with_len (tag_at (replicate (5 * n) 0)) 0 (count (replicate (5 * n) 0)) ∙ many ∙ sym (length-replicate n (tag_made 0 0))

    same_tag : (k : ℕ) (d : Tag) → k < length (tags (replicate (5 * n) 0)) → get_or (tags (replicate (5 * n) 0)) k d ≡ get_or (replicate n (tag_made 0 0)) k d
    same_tag k d short =
        let long = length-map-range_with_len (tag_at (replicate (5 * n) 0)) 0 (count (replicate (5 * n) 0)) in
        get_or-map-range_with_len (tag_at (replicate (5 * n) 0)) 0 (count (replicate (5 * n) 0)) k k d (omega (arith, long)) (omega arith)
        ∙ zero_tag (5 * n) k
        ∙ sym (get_or-replicate n k (tag_made 0 0) d (omega (arith, long, many)))
