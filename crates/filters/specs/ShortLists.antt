-- A short list of addresses: it lists them, or has overflowed and covers every address.
use Rattle.std.specs.Prelude.{◌≡◌, ℕ, ◌+◌, ◌<◌, Bool, true, not, List, ◌==◌, replicate, slice_set, take}
use Rattle.std.specs.List.{Contains}
use Rattle.filters.specs.declared.entries.Entries.{Entries}
use Rattle.filters.specs.declared.short_list.ShortList.{ShortList}
use Rattle.filters.specs.Entries.{share_entry}

-- The addresses that entries list: the first ones, as many as are counted.
abbrev pub listed : Entries → List ℕ
listed e = take e.count e.addresses

-- A list covers the addresses that it lists, or every address.
abbrev pub Covered : ShortList → ℕ → Type 0
Covered (ShortList.Listed e) a = Contains (listed e) a
Covered ShortList.Every a = Unit {0}

-- A new list lists no address.
abbrev pub Fresh : ShortList → Type 0
Fresh (ShortList.Listed e) = (e.addresses ≡ replicate 16 0) × (e.count ≡ 0)
Fresh ShortList.Every = ⊥

-- Adding address a to listed entries gives a short list.
pub record Listing (before : Entries) (a : ℕ) (after : ShortList) : Type 0 where
  -- Below sixteen, the address takes the next entry.
  pub takes : before.count < 16 → (e : Entries) × (after ≡ ShortList.Listed e) × (e.addresses ≡ slice_set before.addresses before.count a) × (e.count ≡ before.count + 1)
  -- At sixteen, the list comes to cover every address.
  pub overflows : before.count ≡ 16 → after ≡ ShortList.Every

-- Adding address a to a list gives another. One that covers every address stays as it is.
abbrev pub Adding : ShortList → ℕ → ShortList → Type 0
Adding (ShortList.Listed e) a after = Listing e a after
Adding ShortList.Every a after = after ≡ ShortList.Every

-- The test whether two lists meet: one that covers every address meets any that covers some address.
abbrev pub lists_meet : ShortList → ShortList → Bool
lists_meet (ShortList.Listed e) (ShortList.Listed f) = share_entry (listed e) (listed f)
lists_meet (ShortList.Listed e) ShortList.Every = not (e.count == 0)
lists_meet ShortList.Every (ShortList.Listed f) = not (f.count == 0)
lists_meet ShortList.Every ShortList.Every = true
