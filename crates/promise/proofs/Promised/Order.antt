-- The order in which writers finish: all that rests on it stands here.
use Rattle.std.proofs.Common.{◌≡◌, ℕ, ◌+◌, ◌-◌, ◌<◌, ◌≤◌, List, ap, ◌∙◌, ⊎_elim, arith}
use Rattle.std.proofs.lemmas.Bool.{cases_eq, cases_lt}
use Rattle.filters.specs.declared.filter.Filter.{Ghosts}
use Rattle.rules.specs.declared.ring.Entry.{Entry}
use Rattle.rules.specs.Places.{Pending, Settled}
use Rattle.promise.proofs.Promised.Ring.{Ring, owes_none}
use Rattle.promise.proofs.Promised.Turns.{put, put_at, put_other}

-- Writers finish in order of place: what comes after a place that owes owes too.
abbrev pub InOrder : (ℕ → ℕ) → ℕ → Type 0
InOrder owes count = (q i : ℕ) → q < i → i ≤ count → 0 < owes q → 0 < owes i

-- So nothing at or below a place that owes nothing owes.
settled_below : (owes : ℕ → ℕ) (count : ℕ) → InOrder owes count → (m : ℕ) → m ≤ count → owes m ≡ 0 → (q : ℕ) → q ≤ m → owes q ≡ 0
settled_below owes count order m known none q low =
    ⊎_elim
    (λ same. ap owes same ∙ none)
    (λ other.
    ⊎_elim
    (λ owing. absurd (omega (arith, order q m (omega arith) known owing)))
    (λ nothing. omega arith)
    (cases_lt 0 (owes q)))
    (cases_eq q m)

-- A new writer comes last and owes.
pub order_commit : (owes : ℕ → ℕ) (count n : ℕ) → InOrder owes count → InOrder (put owes (count + 1) (n + 1)) (count + 1)
order_commit owes count n order q i before known owing =
    ⊎_elim
    (λ same. omega (arith, put_at owes (count + 1) i (n + 1) same))
    (λ other. omega (
      arith,
      put_other owes (count + 1) i (n + 1) other,
      order q i before (omega arith) (omega (arith, put_other owes (count + 1) q (n + 1) (omega arith))),
    ))
    (cases_eq i (count + 1))

-- A writer that owes more than one still owes after this work.
pub order_write : (owes : ℕ → ℕ) (count i : ℕ) → 1 < owes i → InOrder owes count → InOrder (put owes i (owes i - 1)) count
order_write owes count i more order q u before known owing =
    let owed : 0 < owes q = ⊎_elim (λ same. omega (arith, ap owes same)) (λ other. omega (arith, put_other owes i q (owes i - 1) other)) (cases_eq q i) in
    ⊎_elim
    (λ same. omega (arith, put_at owes i u (owes i - 1) same))
    (λ other. omega (arith, put_other owes i u (owes i - 1) other, order q u before known owed))
    (cases_eq u i)

-- A writer finishes when the place before it owes nothing, so none below it does.
pub order_finish : (owes : ℕ → ℕ) (count i : ℕ) → i ≤ count → owes (i - 1) ≡ 0 → InOrder owes count → InOrder (put owes i 0) count
order_finish owes count i placed none order q u before known owing =
    let apart : q ≡ i → ⊥ = λ same. omega (arith, put_at owes i q 0 same) in
    let owed : 0 < owes q = omega (arith, put_other owes i q 0 apart) in
    ⊎_elim
    (λ same. absurd (omega (arith, settled_below owes count order (i - 1) (omega arith) none q (omega arith))))
    (λ other. omega (arith, put_other owes i u 0 other, order q u before known owed))
    (cases_eq u i)

module _ {F C : Type 0} (Φ : Ghosts F) {slots : ℕ} {ring : List (Entry F)} {log : ℕ → List (ℕ × C)} {owes : ℕ → ℕ} {count : ℕ} (whole : Ring Φ slots ring log owes count) (order : InOrder owes count) where
  -- Nothing at or below the start of a task that begins owes.
  pub start_settled : {start : ℕ} → Settled slots ring count start → (i : ℕ) → i ≤ start → owes i ≡ 0
  start_settled {start} settled = settled_below owes count order start settled.within (owes_none Φ whole start settled.finished)

  -- Where the ring has room for one more writer, nothing up to the place after the one that it replaces owes.
  pub room_settled : (Pending slots ring (count + 2 - slots) → ⊥) → (i : ℕ) → i ≤ count + 2 - slots → owes i ≡ 0
  room_settled room = let some = whole.some in settled_below owes count order (count + 2 - slots) (omega arith) (owes_none Φ whole (count + 2 - slots) room)
