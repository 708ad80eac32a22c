-- What is lowest among the items that a filter kept is lowest among all that pass the filter.
use Rattle.std.proofs.Common.{◌≡◌, ℕ, ◌<◌, Bool, true, false, cond, eqb, ltb, Option, Some, None, List, [], ◌∷◌, length, get_or, map, sym, refl, ◌∙◌, subst, arith}
use Rattle.std.specs.Iterator.Runs.{Run, AnyItem, CallKeepsClosure, NoKeyBeyond}
use Rattle.std.specs.Fn.{CalledAt}
use Rattle.std.specs.List.{All, filter}
use Rattle.std.specs.Option.{IfSome, MatchOption, option_map, option_cmp}
use Rattle.std.specs.Ordering.{is_lt, nat_cmp}
use Rattle.std.specs.declared.cmp.Ordering.{Ordering}
use Rattle.std.specs.declared.cmp.Ordering.TheVariants.{Less, Equal, Greater}
use Rattle.std.proofs.lemmas.List.Elements.{All-nil, All-cons, All-head, All-tail, All-map, All-weaker}
use borrow.Author.Tests.{ltb-false}
use denote.Param.Members.{Mut}
use denote.Ref.{Bor}
use Rattle.chain.specs.declared.book.Page.{Page}
use Rattle.chain.specs.Pages.{NotAbove, place_of, unfinished}

-- What holds of each item that was kept holds of each item that passes.
from_kept : {X : Type 0} (p : X → Bool) (P : X → Type 0) (xs : List X) → All P (filter p xs) → All (λ x. p x ≡ true → P x) xs
from_kept p P [] kept = All-nil (λ x. p x ≡ true → P x)
from_kept p P (x ∷ xs) kept = go (p x) refl (λ rest. from_kept p P xs rest) kept
  where
    go : (b : Bool) → p x ≡ b → (All P (filter p xs) → All (λ y. p y ≡ true → P y) xs) → All P (cond b (x ∷ filter p xs) (filter p xs)) → All (λ y. p y ≡ true → P y) (x ∷ xs)
    go true is rest with_x = All-cons (λ y. p y ≡ true → P y) x xs (λ passing. All-head P x (filter p xs) with_x) (rest (All-tail P x (filter p xs) with_x))
    go false is rest without = All-cons (λ y. p y ≡ true → P y) x xs (λ passing. absurd (cc)) (rest without)

-- What holds of the item at a place of a run, read off the run's list.
item_at : {X : Type 0} (o : Option X) (x : X) (P Q : X → Type 0) → ((y : X) → P y → Q y) → option_map (λ y. y) o ≡ Some x → IfSome o P → Q x
item_at None x P Q so is holds = absurd (cc)
item_at (Some y) x P Q so is holds = subst Q (cc) (so y holds)

-- No key of a run's items is below the least, each key read off its item.
pub least_of_run : {S B F K : Type 0} {steps : S → Option B → S → Type 0} (p : Run steps) (g : Mut F (Bor B × Unit {0}) K) (f : F) (cmp : K → K → Ordering) (key : B → K) (r : Option B) → CallKeepsClosure g f → ((x : B) (j : K) (h : F) → CalledAt g f x j h → j ≡ key x) → MatchOption r (p.len ≡ 0) (λ m. AnyItem p (λ x. x ≡ m) × NoKeyBeyond p g f is_lt cmp m) → MatchOption r (length p.items ≡ 0) (λ m. All (λ b. is_lt (cmp (key b) (key m)) ≡ false) p.items)
least_of_run p g f cmp key None keeps reads none = sym p.long ∙ none
least_of_run {B = B} {K = K} p g f cmp key (Some m) keeps reads some =
    let beyond = some.1 keeps in
    λ i d below.
    item_at (p.at i) (get_or p.items i d) (λ x. (j : K) × CalledAt g f x j f × (is_lt (cmp j beyond.0) ≡ false)) (λ b. is_lt (cmp (key b) (key m)) ≡ false)
    (λ y h. subst (λ j. is_lt (cmp j (key m)) ≡ false) (reads y h.0 f h.1) (subst (λ k. is_lt (cmp h.0 k) ≡ false) (reads m beyond.0 f beyond.1) h.2))
    (p.reads i d (subst (λ n. i < n) (sym p.long) below)) (beyond.2 i)

-- What is not less by the order of numbers is not below.
not_less : (less same : Bool) → is_lt (cond less Less (cond same Equal Greater)) ≡ false → less ≡ false
not_less true same lt = absurd (cc)
not_less false same lt = refl

-- A place whose key is not below another's has it not above.
pub not_above : (place at : Option ℕ) → is_lt (option_cmp nat_cmp at place) ≡ false → NotAbove place at
not_above None at lt = tt
not_above (Some n) None lt = absurd (cc)
not_above (Some n) (Some m) lt = ltb-false m n (not_less (ltb m n) (eqb m n) lt)

-- A test that cannot pass is false.
is_false : (b : Bool) → (b ≡ true → ⊥) → b ≡ false
is_false true never = absurd (never refl)
is_false false never = refl

-- The lowest place among the writers that were kept is the lowest of all; where none was kept, there is none.
pub lowest_kept : {B : Type 0} (now : B → Page) (items kept : List B) (ps : List Page) (r : Option B) → map now items ≡ ps → kept ≡ filter (λ b. unfinished (now b)) items → MatchOption r (length kept ≡ 0) (λ m. All (λ b. is_lt (option_cmp nat_cmp (place_of (now b)) (place_of (now m))) ≡ false) kept) → MatchOption r (All (λ p. unfinished p ≡ false) ps) (λ m. All (λ q. unfinished q ≡ true → NotAbove (place_of (now m)) (place_of q)) ps)
lowest_kept {B = B} now items kept ps None all is none =
    let empty : length (filter (λ (b : B). unfinished (now b)) items) ≡ 0 = subst (λ ks. length ks ≡ 0) is none in
    subst (λ qs. All (λ q. unfinished q ≡ false) qs) all
    (All-map (λ q. unfinished q ≡ false) now items
    (All-weaker (λ b. unfinished (now b) ≡ true → ⊥) (λ b. unfinished (now b) ≡ false) (λ b never. is_false (unfinished (now b)) never) items
    (from_kept (λ b. unfinished (now b)) (λ b. ⊥) items (λ i d below. omega (arith, empty, below)))))
lowest_kept {B = B} now items kept ps (Some m) all is some =
    subst (λ qs. All (λ q. unfinished q ≡ true → NotAbove (place_of (now m)) (place_of q)) qs) all
    (All-map (λ q. unfinished q ≡ true → NotAbove (place_of (now m)) (place_of q)) now items
    (from_kept (λ b. unfinished (now b)) (λ b. NotAbove (place_of (now m)) (place_of (now b))) items
    (subst (λ ks. All (λ (b : B). NotAbove (place_of (now m)) (place_of (now b))) ks) is
    (All-weaker (λ b. is_lt (option_cmp nat_cmp (place_of (now b)) (place_of (now m))) ≡ false) (λ b. NotAbove (place_of (now m)) (place_of (now b))) (λ b lt. not_above (place_of (now m)) (place_of (now b)) lt) kept some))))
