-- One step of the check's walk down the ring.
use Rattle.std.proofs.Common.{◌≡◌, ℕ, ◌+◌, ◌-◌, ◌%◌, ◌<◌, ◌≤◌, Bool, true, false, List, MatchBool, sym, ap, ◌∙◌, subst, inr, ⊎_elim, arith}
use Rattle.std.proofs.lemmas.Bool.{both_ways, cases_eq}
use Rattle.filters.specs.declared.filter.Filter.{Ghosts}
use Rattle.rules.specs.declared.ring.Entry.{Entry}
use Rattle.rules.specs.declared.ring.Status.TheVariants.{Writing, Complete}
use Rattle.rules.specs.Check.{Advanced, Asked, AllAsked}
use Rattle.rules.specs.Faults.{Meets}
use Rattle.rules.specs.Lists.{At}
use Rattle.rules.specs.Places.{Present, Pending}
use Rattle.rules.proofs.AtLaws.{at_one}

-- Writing and complete are two.
pub writing≢complete : Writing ≡ Complete → ⊥
writing≢complete e = let z : ◌≡◌ {A = ℕ} 0 1 = cc in omega arith

module _ {F : Type 0} {slots : ℕ} {ring : List (Entry F)} where
  -- A place that is present and complete is not pending.
  pub complete_settled : {i : ℕ} {e : Entry F} → Present slots ring i e → e.status ≡ Complete → Pending slots ring i → ⊥
  complete_settled here complete pending =
      writing≢complete (sym pending.writing ∙ ap (λ (e : Entry F). e.status) (at_one pending.present.there here.there) ∙ complete)

  -- The walk goes one place down past a pending place: that place is the lowest pending one.
  pub advanced_pending : {index place : ℕ} → 0 < place → place ≤ index → Pending slots ring place → Advanced slots ring index (place - 1) (place - 1)
  advanced_pending {index} {place} counted within pending = record {
    low = omega arith;
    high = omega arith;
    finished = λ i above below. absurd (omega arith);
    next = inr (let e : place ≡ place - 1 + 1 = omega arith in subst (Pending slots ring) e pending);
  }

  -- The walk goes one place down past a finished place: the lowest pending one stays.
  pub advanced_finished : {index place new : ℕ} → (Pending slots ring place → ⊥) → Advanced slots ring index place new → Advanced slots ring index (place - 1) new
  advanced_finished {index} {place} {new} settled before = record {
    low = omega (arith, before.low);
    high = before.high;
    finished = λ i above below.
        ⊎_elim
        (λ same. subst (λ (k : ℕ). Pending slots ring k → ⊥) same settled)
        (λ other. before.finished i (omega arith) below)
        (cases_eq place i);
    next = before.next;
  }

  -- One more place is asked.
  pub asked_more : (Φ : Ghosts F) {reads : F} {index place : ℕ} → AllAsked Φ slots ring reads index place → Asked Φ slots ring reads place → AllAsked Φ slots ring reads index (place - 1)
  asked_more Φ {reads} {index} {place} above here i low high =
      ⊎_elim
      (λ same. subst (Asked Φ slots ring reads) same here)
      (λ other. above i (omega arith) high)
      (cases_eq place i)

  -- The entry of a present place decides whether the place is pending.
  pub decide_pending : {place : ℕ} {e : Entry F} → Present slots ring place e → (b : Bool) → MatchBool b (e.status ≡ Writing) (e.status ≡ Complete) → MatchBool b (Pending slots ring place) (Pending slots ring place → ⊥)
  decide_pending {place} {e} present true is = record { entry = e; present = present; writing = is }
  decide_pending {place} {e} present false is = complete_settled present is

  -- The entry of a pending place decides whether the place meets a write filter.
  pub decide_meets : (Φ : Ghosts F) {writes : F} {place : ℕ} {e : Entry F} → Pending slots ring place → At ring (place % slots) e → (b : Bool) → b ≡ Φ.meeting e.filter writes → MatchBool b (Meets Φ slots ring writes place) (Meets Φ slots ring writes place → ⊥)
  decide_meets Φ {writes} {place} {e} pending there true is = record {
    pending = pending;
    met = ap (λ (x : Entry F). Φ.meeting x.filter writes) (at_one pending.present.there there) ∙ sym is;
  }
  decide_meets Φ {writes} {place} {e} pending there false is =
      λ met. both_ways (Φ.meeting e.filter writes) (sym is) (ap (λ (x : Entry F). Φ.meeting x.filter writes) (at_one there met.pending.present.there) ∙ met.met)
