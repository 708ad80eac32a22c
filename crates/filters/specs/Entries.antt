-- Tests of the addresses that entries list.
use Rattle.std.specs.Prelude.{ℕ, Bool, List, ◌==◌}
use Rattle.std.specs.List.{list_any}

-- The test whether address a is listed.
abbrev pub is_listed : List ℕ → ℕ → Bool
is_listed listed a = list_any (λ x. x == a) listed

-- The test whether an address is in both lists.
abbrev pub share_entry : List ℕ → List ℕ → Bool
share_entry xs ys = list_any (is_listed ys) xs
