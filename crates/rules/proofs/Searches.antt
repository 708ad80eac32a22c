-- What the search finds in a part of the log arrays, it finds in the arrays.
use Rattle.std.proofs.Common.{◌≡◌, ℕ, ◌+◌, ◌<◌, ◌≤◌, List, length, get_or, take, drop, Some, None, Option, sym, ap, ◌∙◌, subst, zero-add, arith}
use Rattle.std.proofs.lemmas.List.{length-take, length-drop}
use Rattle.rules.specs.Logs.{Lacks, Searched}
use Rattle.rules.proofs.Rooms.{part_at}

module _ (xs : List ℕ) (b n m : ℕ) (same : n ≡ m) (room : b + m ≤ length xs) where
  -- Position k of the part is position b + k of the whole.
  place_of : (k : ℕ) → k < m → get_or (take n (drop b xs)) (0 + k) 0 ≡ get_or xs (b + k) 0
  place_of k short = ap (λ (i : ℕ). get_or (take n (drop b xs)) i 0) (zero-add k) ∙ part_at xs b n k 0 (omega arith)

  part_length : length (take n (drop b xs)) ≡ m
  part_length = omega (arith, length-take n (drop b xs), length-drop b xs)

  -- An address that the part lacks, the log lacks.
  lacks_part : (j a : ℕ) → j ≤ m → Lacks (take n (drop b xs)) 0 j a → Lacks xs b j a
  lacks_part j a low none k short here = none k short (place_of k (omega arith) ∙ here)

  module _ {C : Type 0} (cs : List C) (even : length cs ≡ length xs) where
    pub searched_part : (a : ℕ) (r : Option (ℕ × C)) → Searched (take n (drop b xs)) (take n (drop b cs)) 0 (length (take n (drop b xs))) a r → Searched xs cs b m a r
    searched_part a None none = lacks_part m a (omega arith) (subst (λ (j : ℕ). Lacks (take n (drop b xs)) 0 j a) part_length none)
    searched_part a (Some found) (first, cell) =
        let short : found.0 < m = omega (arith, first.within, part_length) in (
          record {
            within = short;
            here = sym (place_of found.0 short) ∙ first.here;
            before = lacks_part found.0 a (omega arith) first.before;
          },
          record {
            within = omega arith;
            is = cell.is ∙ ap (λ (i : ℕ). get_or (take n (drop b cs)) i found.1) (zero-add found.0) ∙ part_at cs b n found.0 found.1 (omega arith);
          },
        )
