-- Cells side by side with their addresses.
use Rattle.std.proofs.Common.{◌≡◌, ℕ, ◌<◌, List, length, get_or, subst, ap, ◌∙◌, arith}
use Rattle.std.specs.List.{AllWithin, range_with_len, zip}
use Rattle.std.proofs.lemmas.List.FromFn.{get_or-range_with_len, length-range_with_len}
use Rattle.std.proofs.lemmas.Slice.Zip.{get_or-zip, length-zip}

-- What holds of every address beside its two cells holds at each address.
pub at_each_address : (P : ℕ → ℕ → ℕ → Type 0) (cells given : List ℕ) (n a : ℕ) → length cells ≡ n → length given ≡ n → a < n → AllWithin (λ t. P t.0 t.1.0 t.1.1) (zip (range_with_len 0 n) (zip cells given)) 0 (length (zip (range_with_len 0 n) (zip cells given))) → P a (get_or cells a 0) (get_or given a 0)
at_each_address P cells given n a long as_long below all =
    let inner : length (zip cells given) ≡ n = length-zip cells given ∙ (omega (arith, long, as_long)) in
    let outer : length (zip (range_with_len 0 n) (zip cells given)) ≡ n = length-zip (range_with_len 0 n) (zip cells given) ∙ (omega (arith, inner, length-range_with_len 0 n)) in
    let pair : get_or (zip cells given) a (0, 0) ≡ (get_or cells a 0, get_or given a 0) = get_or-zip cells given a (0, 0) (omega arith) (omega arith) in
    let number : get_or (range_with_len 0 n) a 0 ≡ a = get_or-range_with_len 0 n a 0 below ∙ (omega arith) in
    let triple : get_or (zip (range_with_len 0 n) (zip cells given)) a (0, (0, 0)) ≡ (a, (get_or cells a 0, get_or given a 0)) =
    get_or-zip (range_with_len 0 n) (zip cells given) a (0, (0, 0)) (omega (arith, length-range_with_len 0 n)) (omega arith)
    ∙ ap (λ i. (i, get_or (zip cells given) a (0, 0))) number ∙ ap (λ q. (a, q)) pair in
    subst (λ (t : ℕ × (ℕ × ℕ)). P t.0 t.1.0 t.1.1) triple (all a (0, (0, 0)) (omega arith) (omega arith))
