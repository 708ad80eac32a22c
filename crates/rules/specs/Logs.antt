-- A task's log: addresses and cells in parallel, its pairs from task × pairs on.
use Rattle.std.specs.Prelude.{◌≡◌, ℕ, ◌+◌, ◌<◌, List, Some, None, Option, ◌≢◌, slice_index, slice_index_or}
use Rattle.rules.specs.Lists.{At}

-- None of the first n addresses from `base` on is a.
abbrev pub Lacks : List ℕ → ℕ → ℕ → ℕ → Type 0
Lacks addresses base n a = (k : ℕ) → k < n → slice_index addresses (base + k) ≢ a

-- Among the first n addresses from `base` on, k is the first that is a.
pub record First (addresses : List ℕ) (base n a k : ℕ) : Type 0 where
  pub within : k < n
  pub here : slice_index_or addresses (base + k) 0 ≡ a
  pub before : Lacks addresses base k a

module _ {C : Type 0} where
  -- Looking through the first n pairs from `base` on gives the first with the address, or none where there is none.
  abbrev pub Searched : List ℕ → List C → ℕ → ℕ → ℕ → Option (ℕ × C) → Type 0
  Searched addresses cells base n a None = Lacks addresses base n a
  Searched addresses cells base n a (Some found) = First addresses base n a found.0 × At cells (base + found.0) found.1
