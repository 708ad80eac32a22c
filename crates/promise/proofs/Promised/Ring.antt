-- The ring: which places are on it, with which filters, and which of them owe.
use Rattle.std.proofs.Common.{◌≡◌, ℕ, suc, ◌+◌, ◌-◌, ◌*◌, ◌/◌, ◌%◌, ◌<◌, ◌≤◌, List, length, set, sym, refl, ap, ◌∙◌, subst, ⊎_elim, suc-mul, arith}
use Rattle.std.proofs.lemmas.Nat.{div-add-mod', mod_below, mul-le}
use Rattle.std.proofs.lemmas.List.{length-set}
use Rattle.std.proofs.lemmas.Bool.{both_ways, cases_eq, cases_lt}
use Rattle.filters.specs.declared.filter.Filter.{Ghosts}
use Rattle.rules.specs.declared.ring.Entry.{Entry}
use Rattle.rules.specs.declared.ring.Status.TheVariants.{Writing, Complete}
use Rattle.rules.specs.Check.{AllAsked}
use Rattle.rules.specs.Lists.{At}
use Rattle.rules.specs.Places.{Present, Pending}
use Rattle.rules.proofs.AtLaws.{at_one}
use Rattle.rules.proofs.Walks.{writing≢complete}
use Rattle.promise.proofs.Promised.Laws.{Lawful}
use Rattle.promise.proofs.Promised.Layers.{Without}
use Rattle.promise.proofs.Promised.Turns.{put, put_at, put_other, at_same, at_set_same, at_set_other, at_set_back}

-- Two places less than the ring's length apart have different slots.
pub slots_apart : (slots i n : ℕ) → i < n → n < i + slots → i % slots ≡ n % slots → ⊥
slots_apart slots i n before near same =
    let low : i / slots * slots + i % slots ≡ i = div-add-mod' i slots in
    let high : n / slots * slots + n % slots ≡ n = div-add-mod' n slots in
    ⊎_elim
    (λ less. omega (arith, mul-le (suc (i / slots)) slots (n / slots) slots less (omega arith), suc-mul (i / slots) slots))
    (λ more. omega (arith, mul-le (n / slots) slots (i / slots) slots more (omega arith)))
    (cases_lt (i / slots) (n / slots))

module _ {F C : Type 0} (Φ : Ghosts F) where
  -- The filter covers every address of the log.
  abbrev pub Covers : F → List (ℕ × C) → Type 0
  Covers f l = (k a : ℕ) (c : C) → At l k (a, c) → Φ.covers f a

  -- A present place is a writer's, its filter covers the writer's log, and if it is writing the writer owes.
  pub record Marked (log : ℕ → List (ℕ × C)) (owes : ℕ → ℕ) (count i : ℕ) (e : Entry F) : Type 0 where
    pub known : i ≤ count
    pub covered : Covers e.filter (log i)
    pub busy : e.status ≡ Writing → 0 < owes i

  -- Every present place is marked so, and a place that owes is present and writing.
  pub record Ring (slots : ℕ) (ring : List (Entry F)) (log : ℕ → List (ℕ × C)) (owes : ℕ → ℕ) (count : ℕ) : Type 0 where
    pub some : 2 ≤ slots
    pub full : length ring ≡ slots
    pub marked : (i : ℕ) (e : Entry F) → Present slots ring i e → Marked log owes count i e
    pub owing : (i : ℕ) → 0 < owes i → Pending slots ring i

  module _ {slots : ℕ} {ring : List (Entry F)} {log : ℕ → List (ℕ × C)} {owes : ℕ → ℕ} {count : ℕ} (whole : Ring slots ring log owes count) where
    -- A pending place is a writer's that owes.
    pub pending_owes : (i : ℕ) → Pending slots ring i → 0 < owes i
    pending_owes i pending = (whole.marked i pending.entry pending.present).busy pending.writing

    -- A place that is not pending owes nothing.
    pub owes_none : (i : ℕ) → (Pending slots ring i → ⊥) → owes i ≡ 0
    owes_none i settled = ⊎_elim (λ owing. absurd (settled (whole.owing i owing))) (λ none. omega arith) (cases_lt 0 (owes i))

    -- A place that owes is one of the places so far.
    pub owing_known : (i : ℕ) → 0 < owes i → (0 < i) × (i ≤ count)
    owing_known i owing =
        let pending = whole.owing i owing in
        (pending.present.counted, (whole.marked i pending.entry pending.present).known)

    -- Where the filters asked are apart from the read filter, no log above the start has an address that it covers.
    pub asked_without : Lawful Φ → (reads : F) (start : ℕ) → AllAsked Φ slots ring reads count start → (i : ℕ) → start < i → i ≤ count → (a : ℕ) → a < 65536 → Φ.covers reads a → Without (log i) a
    asked_without laws reads start asked i above below a small read k c here =
        let at = asked i above below in
        both_ways (Φ.meeting at.entry.filter reads) at.apart
        (laws.common at.entry.filter reads a small ((whole.marked i at.entry at.present).covered k a c here) read)

    -- One more writer takes a slot: no place up to the one after that slot's old place owes.
    module _ (finished : (i : ℕ) → i ≤ count + 2 - slots → owes i ≡ 0) (l : List (ℕ × C)) (filter : F) (covers : Covers filter l) where
      -- The entry that the commit leaves.
      abbrev entered : Entry F
      entered = record { stamp = count + 1; filter = filter; status = Writing }

      -- A place that owes keeps its slot.
      kept_slot : (i : ℕ) → 0 < owes i → i % slots ≡ (count + 1) % slots → ⊥
      kept_slot i owing =
          let some = whole.some in
          let known = owing_known i owing in
          slots_apart slots i (count + 1) (omega arith) (
          ⊎_elim
          (λ near. near)
          (λ far.
          let none : owes i ≡ 0 = finished i (omega arith) in
          absurd (omega arith))
          (cases_lt (count + 1) (i + slots))
          )

      -- Its slot is one of the ring.
      in_slot : (count + 1) % slots < length ring
      in_slot = let some = whole.some in omega (arith, mod_below (count + 1) slots (omega arith), whole.full)

      -- Every present place is marked as before, or it is the new one.
      commit_marked : (i : ℕ) (e : Entry F) → Present slots (set ring ((count + 1) % slots) entered) i e → Marked (put log (count + 1) l) (put owes (count + 1) (length l + 1)) (count + 1) i e
      commit_marked i e present =
          ⊎_elim
          (λ same.
          let is : e ≡ entered = at_one present.there (subst (λ (k : ℕ). At (set ring ((count + 1) % slots) entered) k entered) (sym same) (at_set_same ring ((count + 1) % slots) entered in_slot)) in
          let here : i ≡ count + 1 = sym present.stamped ∙ ap (λ (x : Entry F). x.stamp) is in
          record {
            known = omega arith;
            covered = λ k a c there. subst (λ (f : F). Φ.covers f a) (sym (ap (λ (x : Entry F). x.filter) is)) (covers k a c (at_same (put_at log (count + 1) i l here) there));
            busy = λ _. omega (arith, put_at owes (count + 1) i (length l + 1) here);
          })
          (λ other.
          let old = whole.marked i e (record { counted = present.counted; there = at_set_back ring ((count + 1) % slots) (i % slots) e entered present.there other; stamped = present.stamped }) in
          let apart : i ≡ count + 1 → ⊥ = omega (arith, old.known) in
          record {
            known = omega (arith, old.known);
            covered = λ k a c there. old.covered k a c (at_same (put_other log (count + 1) i l apart) there);
            busy = λ busy. omega (arith, put_other owes (count + 1) i (length l + 1) apart, old.busy busy);
          })
          (cases_eq (i % slots) ((count + 1) % slots))

      -- Every place that owes is still present, and so is the new one.
      commit_owing : (i : ℕ) → 0 < put owes (count + 1) (length l + 1) i → Pending slots (set ring ((count + 1) % slots) entered) i
      commit_owing i owing =
          ⊎_elim
          (λ same. subst (Pending slots (set ring ((count + 1) % slots) entered)) (sym same) (record {
            entry = entered;
            present = record { counted = omega arith; there = at_set_same ring ((count + 1) % slots) entered in_slot; stamped = refl };
            writing = refl;
          }))
          (λ other.
          let owed : 0 < owes i = omega (arith, put_other owes (count + 1) i (length l + 1) other) in
          let old = whole.owing i owed in
          record {
            entry = old.entry;
            present = record { counted = old.present.counted; there = at_set_other entered (kept_slot i owed) old.present.there; stamped = old.present.stamped };
            writing = old.writing;
          })
          (cases_eq i (count + 1))

      -- The ring with one writer more.
      pub ring_commit : Ring slots (set ring ((count + 1) % slots) entered) (put log (count + 1) l) (put owes (count + 1) (length l + 1)) (count + 1)
      ring_commit = record {
        some = whole.some;
        full = length-set ring ((count + 1) % slots) entered ∙ whole.full;
        marked = commit_marked;
        owing = commit_owing;
      }

    -- A writer that still owes after this work keeps its mark.
    pub ring_write : (i : ℕ) → 1 < owes i → Ring slots ring log (put owes i (owes i - 1)) count
    ring_write i more = record {
      some = whole.some;
      full = whole.full;
      marked = λ u e present.
          let old = whole.marked u e present in
          record {
            known = old.known;
            covered = old.covered;
            busy = λ busy.
                ⊎_elim
                (λ same. omega (arith, put_at owes i u (owes i - 1) same))
                (λ other. omega (arith, put_other owes i u (owes i - 1) other, old.busy busy))
                (cases_eq u i);
          };
      owing = λ u owing. whole.owing u (
          ⊎_elim (λ same. omega (arith, ap owes same)) (λ other. omega (arith, put_other owes i u (owes i - 1) other)) (cases_eq u i)
          );
    }

    -- A writer that finishes has its entry set complete.
    module _ (place : ℕ) (entry : Entry F) (there : Present slots ring place entry) where
      -- The entry that the work leaves.
      abbrev complete : Entry F
      complete = record { stamp = entry.stamp; filter = entry.filter; status = Complete }

      -- Every present place is marked as before; the finished one is writing no more.
      finish_marked : (i : ℕ) (e : Entry F) → Present slots (set ring (place % slots) complete) i e → Marked log (put owes place 0) count i e
      finish_marked i e present =
          ⊎_elim
          (λ same.
          let is : e ≡ complete = at_one present.there (subst (λ (k : ℕ). At (set ring (place % slots) complete) k complete) (sym same) (at_set_same ring (place % slots) complete there.there.within)) in
          let here : place ≡ i = sym there.stamped ∙ sym (ap (λ (x : Entry F). x.stamp) is) ∙ present.stamped in
          let old = whole.marked place entry there in
          record {
            known = omega (arith, old.known);
            covered = λ k a c h. subst (λ (f : F). Φ.covers f a) (sym (ap (λ (x : Entry F). x.filter) is)) (old.covered k a c (at_same (ap log (sym here)) h));
            busy = λ busy. absurd (writing≢complete (sym busy ∙ ap (λ (x : Entry F). x.status) is));
          })
          (λ other.
          let old = whole.marked i e (record { counted = present.counted; there = at_set_back ring (place % slots) (i % slots) e complete present.there other; stamped = present.stamped }) in
          record {
            known = old.known;
            covered = old.covered;
            busy = λ busy. omega (arith, put_other owes place i 0 (λ e. other (ap (λ (n : ℕ). n % slots) e)), old.busy busy);
          })
          (cases_eq (i % slots) (place % slots))

      -- Every other place that owes keeps its entry.
      finish_owing : (i : ℕ) → 0 < put owes place 0 i → Pending slots (set ring (place % slots) complete) i
      finish_owing i owing =
          let apart : i ≡ place → ⊥ = λ same. omega (arith, put_at owes place i 0 same) in
          let old = whole.owing i (omega (arith, put_other owes place i 0 apart)) in
          let slot : i % slots ≡ place % slots → ⊥ = λ same. apart (
          sym old.present.stamped
          ∙ ap (λ (x : Entry F). x.stamp) (at_one old.present.there (subst (λ (k : ℕ). At ring k entry) (sym same) there.there))
          ∙ there.stamped
          ) in
          record {
            entry = old.entry;
            present = record { counted = old.present.counted; there = at_set_other complete slot old.present.there; stamped = old.present.stamped };
            writing = old.writing;
          }

      -- The ring with the writer finished.
      pub ring_finish : Ring slots (set ring (place % slots) complete) log (put owes place 0) count
      ring_finish = record {
        some = whole.some;
        full = length-set ring (place % slots) complete ∙ whole.full;
        marked = finish_marked;
        owing = finish_owing;
      }
