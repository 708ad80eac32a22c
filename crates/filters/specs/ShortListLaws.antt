-- Laws of short lists: what adding an address covers, and each test decides what it is a test of, up to whether two
-- lists cover a common address.
use Rattle.std.specs.Prelude.{◌≡◌, ℕ, ◌+◌, ◌<◌, ◌++◌, ◌∷◌, [], false, not, ◌==◌, List, Decides, length, slice_index, slice_set, take, refl}
use Rattle.std.specs.List.{Contains, list_any}
use Rattle.std.proofs.Common.{inl, inr, ⊎_elim, ◌⊎◌, sym, ap₂, subst, ◌∙◌, arith}
use Rattle.std.proofs.lemmas.Bool.{cases_eq, not-true}
use Rattle.std.proofs.lemmas.Bool.Decides.{same_from_decides, Decides-like, Decides-not, Decides-eqb, Decides-by_or}
use Rattle.std.proofs.lemmas.List.{length-take-le, take_more_set}
use Rattle.std.proofs.lemmas.List.Elements.{Contains-get_or, Contains-append_left, Contains-push, Decides-contains, at_from_Contains}
use Rattle.filters.specs.declared.entries.Entries.{Entries}
use Rattle.filters.specs.declared.short_list.ShortList.{ShortList}
use Rattle.filters.specs.Entries.{is_listed, share_entry}
use Rattle.filters.specs.ShortLists.{listed, Covered, Fresh, Adding, lists_meet}

-- As many addresses are listed as are counted.
length_listed : (e : Entries) → length (listed e) ≡ e.count
length_listed e = length-take-le e.count e.addresses (omega (arith, e.full, e.within))

-- A new list covers no address.
pub fresh_none : (f : ShortList) → Fresh f → (a : ℕ) → Covered f a → ⊥
fresh_none (ShortList.Listed e) fresh a c = omega (arith, length_listed e, fresh.1, c.1)
fresh_none ShortList.Every fresh a c = fresh

-- An address that takes the next entry follows the ones that are listed.
listed_more : (e f : Entries) (a : ℕ) → e.count < 16 → f.addresses ≡ slice_set e.addresses e.count a → f.count ≡ e.count + 1 → listed f ≡ listed e ++ a ∷ []
listed_more e f a free addresses count = ap₂ take count addresses ∙ take_more_set e.addresses e.count a (omega (arith, e.full))

-- A list has a free entry or sixteen.
free_or_full : (e : Entries) → (e.count < 16) ⊎ (e.count ≡ 16)
free_or_full e = ⊎_elim inr (λ ne. inl (omega (arith, e.within))) (cases_eq e.count 16)

-- Adding an address covers it.
pub adding_adds : (f g : ShortList) (a : ℕ) → Adding f a g → Covered g a
adding_adds (ShortList.Listed e) g a h =
    ⊎_elim
    (λ free. let taken = h.takes free in
    subst (λ l. Covered l a) (sym taken.1)
    (subst (λ xs. Contains xs a) (sym (listed_more e taken.0 a free taken.2 taken.3)) (Contains-push (listed e) a)))
    (λ full. subst (λ l. Covered l a) (sym (h.overflows full)) tt)
    (free_or_full e)
adding_adds ShortList.Every g a h = subst (λ l. Covered l a) (sym (h)) tt

-- Adding an address keeps the covered ones.
pub adding_keeps : (f g : ShortList) (a b : ℕ) → Adding f a g → Covered f b → Covered g b
adding_keeps (ShortList.Listed e) g a b h c =
    ⊎_elim
    (λ free. let taken = h.takes free in
    subst (λ l. Covered l b) (sym taken.1)
    (subst (λ xs. Contains xs b) (sym (listed_more e taken.0 a free taken.2 taken.3)) (Contains-append_left (listed e) (a ∷ []) b c)))
    (λ full. subst (λ l. Covered l b) (sym (h.overflows full)) tt)
    (free_or_full e)
adding_keeps ShortList.Every g a b h c = subst (λ l. Covered l b) (sym (h)) tt

-- The test of an address decides whether it is listed.
listed_decides : (xs : List ℕ) (a : ℕ) → Decides (is_listed xs a) (Contains xs a)
listed_decides xs a =
    Decides-contains xs a (is_listed xs a)
    (Decides-by_or (λ x. x == a) (λ x. x ≡ a) (list_any (λ x. x == a)) (λ x. Decides-eqb x a) refl (λ _ _. refl) xs)

-- Two lists share an entry if both list some address.
entry_shared : (xs ys : List ℕ) → Decides (share_entry xs ys) ((a : ℕ) × Contains xs a × Contains ys a)
entry_shared xs ys =
    Decides-like (share_entry xs ys)
    (λ s. (slice_index xs s.0, Contains-get_or xs s.0 0 s.1, s.2 0))
    (λ s. let at = at_from_Contains xs s.0 s.1 in (at.0, at.1, λ d. subst (Contains ys) (sym (at.2 d)) s.2))
    (Decides-by_or (is_listed ys) (Contains ys) (list_any (is_listed ys)) (listed_decides ys) refl (λ _ _. refl) xs)

-- A list lists some address if its count is not zero.
some_listed : (e : Entries) → Decides (not (e.count == 0)) ((a : ℕ) × Contains (listed e) a)
some_listed e =
    Decides-like (not (e.count == 0))
    (λ ne. (slice_index (listed e) 0, Contains-get_or (listed e) 0 0 (omega (arith, length_listed e))))
    (λ c none. omega (arith, length_listed e, c.1.1))
    (Decides-not (e.count == 0) (Decides-eqb e.count 0))

-- Some address is covered by both lists.
abbrev pub Common : ShortList → ShortList → Type 0
Common f g = (a : ℕ) × Covered f a × Covered g a

-- Two lists meet if and only if they cover a common address.
pub meet_decides : (f g : ShortList) → Decides (lists_meet f g) (Common f g)
meet_decides (ShortList.Listed e) (ShortList.Listed f) = entry_shared (listed e) (listed f)
meet_decides (ShortList.Listed e) ShortList.Every =
    Decides-like (not (e.count == 0)) (λ c. (c.0, c.1, tt)) (λ c. (c.0, c.1)) (some_listed e)
meet_decides ShortList.Every (ShortList.Listed f) =
    Decides-like (not (f.count == 0)) (λ c. (c.0, tt, c.1)) (λ c. (c.0, c.2)) (some_listed f)
meet_decides ShortList.Every ShortList.Every = ((λ _. (0, tt, tt)), (λ _. refl))

-- A list that covers none meets no list.
pub none_meets : (f g : ShortList) → ((a : ℕ) → Covered f a → ⊥) → lists_meet f g ≡ false
none_meets f g none =
    not-true (lists_meet f g) ((Decides-not (lists_meet f g) (meet_decides f g)).1 (λ c. none c.0 c.1))

-- Covering a common address does not depend on the order, so neither does meeting.
pub meet_comm : (f g : ShortList) → lists_meet f g ≡ lists_meet g f
meet_comm f g =
    same_from_decides (lists_meet f g) (lists_meet g f)
    (meet_decides f g)
    (Decides-like (lists_meet g f) (λ c. (c.0, c.2, c.1)) (λ c. (c.0, c.2, c.1)) (meet_decides g f))
