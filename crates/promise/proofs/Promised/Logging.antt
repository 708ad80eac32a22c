-- A write: the log's pair for the address is replaced, or one is appended.
use Rattle.std.proofs.Common.{◌≡◌, ℕ, zero, suc, ◌+◌, ◌*◌, ◌<◌, eqb, ◌⊎◌, List, [], ◌∷◌, ◌++◌, length, get_or, set, sym, refl, ap, ◌∙◌, subst, inl, inr, ⊎_elim, arith}
use Rattle.std.proofs.lemmas.List.{length-set, length_push, get_or-set_same, get_or-set_other, get_or_append_left, get_or_push}
use Rattle.std.proofs.lemmas.Bool.{cases_eq, cases_lt, eq-eqb, ne_eqb, cond-true, cond-false}
use Rattle.filters.specs.declared.filter.Filter.{Ghosts}
use Rattle.rules.specs.Book.{Page, Book, with_pages, on_page, log_write, page_write}
use Rattle.rules.specs.Lists.{At}
use Rattle.rules.specs.Records.{after_append}
use Rattle.rules.specs.State.{State, base, with_logged, with_pair}
use Rattle.rules.specs.Steps.{Replaces, Appends}
use Rattle.rules.proofs.AtLaws.{at_one}
use Rattle.rules.proofs.Rooms.{log_room}
use Rattle.promise.proofs.Promised.Accepting.{write_open, write_inside, write_room}
use Rattle.promise.proofs.Promised.Invariant.{Inv}
use Rattle.promise.proofs.Promised.Laws.{Lawful}
use Rattle.promise.proofs.Promised.Layers.{Without, Once}
use Rattle.promise.proofs.Promised.Pages.{on_page_lem, newest_mine}
use Rattle.promise.proofs.Promised.Reading.{lacks_without, found_in}
use Rattle.promise.proofs.Promised.Running.{its, goes_on, open_sum}
use Rattle.promise.proofs.Promised.Tasks.{LogFacts, areas_apart}
use Rattle.promise.proofs.Promised.Turns.{at_first, at_cons, at_tail, at_set_same, at_set_other, at_set_back, turned_set, turned_same}

module _ {C : Type 0} where
  -- A write of an address that stands once in the log sets its pair.
  write_sets : (l : List (ℕ × C)) (k a : ℕ) (c d : C) → Once l → At l k (a, d) → log_write a c l ≡ set l k (a, c)
  write_sets [] k a c d once here = absurd (omega (arith, here.within))
  write_sets (p ∷ ps) zero a c d once here = cond-true (eqb p.0 a) ((a, c) ∷ ps) (p ∷ log_write a c ps) (eq-eqb p.0 a (ap (λ (x : ℕ × C). x.0) (sym here.is)))
  write_sets (p ∷ ps) (suc k) a c d once here =
      cond-false (eqb p.0 a) ((a, c) ∷ ps) (p ∷ log_write a c ps) (ne_eqb p.0 a (λ e.
      let twice : zero ≡ suc k = once zero (suc k) a p.1 d (subst (λ (x : ℕ). At (p ∷ ps) zero (x, p.1)) e at_first) here in
      omega arith))
      ∙ ap (λ (xs : List (ℕ × C)). p ∷ xs) (write_sets ps k a c d
      (λ i j x y z one other. let e : suc i ≡ suc j = once (suc i) (suc j) x y z (at_cons one) (at_cons other) in omega arith)
      (at_tail here))

  -- A write of a new address appends its pair.
  write_pushes : (l : List (ℕ × C)) (a : ℕ) (c : C) → Without l a → log_write a c l ≡ l ++ (a, c) ∷ []
  write_pushes [] a c without = refl
  write_pushes (p ∷ ps) a c without =
      cond-false (eqb p.0 a) ((a, c) ∷ ps) (p ∷ log_write a c ps) (ne_eqb p.0 a (λ e. without zero p.1 (subst (λ (x : ℕ). At (p ∷ ps) zero (x, p.1)) e at_first)))
      ∙ ap (λ (xs : List (ℕ × C)). p ∷ xs) (write_pushes ps a c (λ k d here. without (suc k) d (at_cons here)))

  -- A pair of the log with a pair set has the address of the pair before.
  set_address : (l : List (ℕ × C)) (k j a x : ℕ) (c d y : C) → At l k (a, d) → At (set l k (a, c)) j (x, y) → (z : C) × At l j (x, z)
  set_address l k j a x c d y here there =
      ⊎_elim
      (λ same.
      let is = at_one there (subst (λ (n : ℕ). At (set l k (a, c)) n (a, c)) (sym same) (at_set_same l k (a, c) here.within)) in
      (d, subst (λ (n : ℕ). At l n (x, d)) (sym same) (subst (λ (n : ℕ). At l k (n, d)) (sym (ap (λ (p : ℕ × C). p.0) is)) here)))
      (λ other. (y, at_set_back l k j (x, y) (a, c) there other))
      (cases_eq j k)

-- An element of a list with one more at the end is one of the list or the new one.
at_push_back : {X : Type 0} (xs : List X) (y : X) (i : ℕ) (x : X) → At (xs ++ y ∷ []) i x → At xs i x ⊎ ((i ≡ length xs) × (x ≡ y))
at_push_back xs y i x here =
    ⊎_elim
    (λ low. inl (record { within = low; is = here.is ∙ get_or_append_left xs (y ∷ []) x i low }))
    (λ high.
    let last : i ≡ length xs = omega (arith, here.within, length_push xs y) in
    inr (last, here.is ∙ get_or_push xs y x i (sym last)))
    (cases_lt i (length xs))

module _ {F C : Type 0} (Φ : Ghosts F) (pairs size base logged : ℕ) (addresses : List ℕ) (cells : List C) (writes : F) (l : List (ℕ × C)) (facts : LogFacts Φ pairs size base addresses cells logged writes l) where
  -- The arrays with one cell set hold the log with that pair set.
  logs_set : (k a : ℕ) (c d : C) → At l k (a, d) → LogFacts Φ pairs size base addresses (set cells (base + k) c) logged writes (set l k (a, c))
  logs_set k a c d here = record {
    count = length-set l k (a, c) ∙ facts.count;
    short = facts.short;
    held = λ j x y there.
        ⊎_elim
        (λ same.
        let is = at_one there (subst (λ (n : ℕ). At (set l k (a, c)) n (a, c)) (sym same) (at_set_same l k (a, c) here.within)) in
        let was = facts.held k a d here in (
          ap (λ (n : ℕ). get_or addresses (base + n) 0) same ∙ was.0 ∙ sym (ap (λ (p : ℕ × C). p.0) is),
          subst (λ (n : ℕ). At (set cells (base + k) c) (base + n) y) (sym same)
              (subst (At (set cells (base + k) c) (base + k)) (sym (ap (λ (p : ℕ × C). p.1) is)) (at_set_same cells (base + k) c was.1.within)),
        ))
        (λ other.
        let was = facts.held j x y (at_set_back l k j (x, y) (a, c) there other) in
        (was.0, at_set_other c (omega arith) was.1))
        (cases_eq j k);
    inside = λ j x y there. let (z, old) = set_address l k j a x c d y here there in facts.inside j x z old;
    once = λ i j x y z one other.
        let (m, first) = set_address l k i a x c d y here one in
        let (n, second) = set_address l k j a x c d z here other in
        facts.once i j x m n first second;
    covered = λ j x y there. let (z, old) = set_address l k j a x c d y here there in facts.covered j x z old;
  }

  -- The arrays with one more pair hold the log with that pair.
  module _ (a : ℕ) (c : C) (wider : F) (new : Without l a) (room : logged < pairs) (fits : base + logged < length addresses) (also : base + logged < length cells) (inside : a < size)
      (covers : Φ.covers wider a) (keeps : (n : ℕ) → Φ.covers writes n → Φ.covers wider n) where
    -- The longer log keeps what a log in the arrays keeps.
    logs_push : LogFacts Φ pairs size base (set addresses (base + logged) a) (set cells (base + logged) c) (logged + 1) wider (l ++ (a, c) ∷ [])
    logs_push = record {
      count = omega (arith, length_push l (a, c), facts.count);
      short = omega arith;
      held = λ j x y there.
          ⊎_elim
          (λ old.
          let was = facts.held j x y old in
          let apart : base + j ≡ base + logged → ⊥ = omega (arith, old.within, facts.count) in
          (get_or-set_other addresses (base + logged) (base + j) a 0 apart ∙ was.0, at_set_other c apart was.1))
          (λ last.
          let at : base + j ≡ base + logged = omega (arith, last.0, facts.count) in (
            ap (λ (n : ℕ). get_or (set addresses (base + logged) a) n 0) at ∙ get_or-set_same addresses (base + logged) a 0 fits ∙ sym (ap (λ (p : ℕ × C). p.0) last.1),
            subst (λ (n : ℕ). At (set cells (base + logged) c) n y) (sym at)
                (subst (At (set cells (base + logged) c) (base + logged)) (sym (ap (λ (p : ℕ × C). p.1) last.1)) (at_set_same cells (base + logged) c also)),
          ))
          (at_push_back l (a, c) j (x, y) there);
      inside = λ j x y there.
          ⊎_elim (λ old. facts.inside j x y old) (λ last. subst (λ (n : ℕ). n < size) (sym (ap (λ (p : ℕ × C). p.0) last.1)) inside) (at_push_back l (a, c) j (x, y) there);
      once = λ i j x y z one other.
          ⊎_elim
          (λ first.
          ⊎_elim
          (λ second. facts.once i j x y z first second)
          (λ last. absurd (new i y (subst (λ (n : ℕ). At l i (n, y)) (ap (λ (p : ℕ × C). p.0) last.1) first)))
          (at_push_back l (a, c) j (x, z) other))
          (λ first.
          ⊎_elim
          (λ second. absurd (new j z (subst (λ (n : ℕ). At l j (n, z)) (ap (λ (p : ℕ × C). p.0) first.1) second)))
          (λ last. first.0 ∙ sym last.0)
          (at_push_back l (a, c) j (x, z) other))
          (at_push_back l (a, c) i (x, y) one);
      covered = λ j x y there.
          ⊎_elim
          (λ old. keeps x (facts.covered j x y old))
          (λ last. subst (λ (n : ℕ). Φ.covers wider n) (sym (ap (λ (p : ℕ × C). p.0) last.1)) covers)
          (at_push_back l (a, c) j (x, y) there);
    }

module _ {F C : Type 0} (Φ : Ghosts F) (laws : Lawful Φ) {s : State F C} {b : Book C} (inv : Inv Φ s b) (t a : ℕ) (c : C) (count : ℕ) (s' : State F C) where
  -- A write of a logged address.
  pub replaces : Replaces Φ s t a c count s' → Inv Φ s' (with_pages b (on_page t (page_write a c) b.pages))
  replaces step =
      let r = step.task in
      let there = step.there in
      let k = step.position in
      let opened = write_open Φ s t r there a c step.accepts in
      let facts = its Φ inv there opened in
      let page = facts.page in
      let logs = facts.logs in
      let (d, here) = found_in Φ s.pairs s.size logs a k step.first in
      let within : k < s.pairs = omega (arith, step.first.within, logs.short) in
      let q : Page C = page_write a c page in
      let pages = turned_set b.pages facts.at q facts.newest.there.within in
      let old = inv.snaps facts.at page facts.newest.there in
      let new : LogFacts Φ s.pairs s.size (t * s.pairs) s.addresses (set s.cells (base s t + k) c) r.logged r.writes (log_write a c page.log) =
      subst (λ (l : List (ℕ × C)). LogFacts Φ s.pairs s.size (t * s.pairs) s.addresses (set s.cells (base s t + k) c) r.logged r.writes l)
      (sym (write_sets page.log k a c d logs.once here))
      (logs_set Φ s.pairs s.size (t * s.pairs) r.logged s.addresses s.cells r.writes page.log logs k a c d here) in
      subst (λ (z : State F C). Inv Φ z (with_pages b (on_page t (page_write a c) b.pages))) (sym step.after)
      (subst (λ (ps : List (Page C)). Inv Φ (with_logged s (base s t + k) c) (with_pages b ps)) (sym (on_page_lem b.pages t facts.at page (page_write a c) facts.newest))
      (goes_on Φ inv there opened
      (record {
        turned = turned_same there;
        table_length = refl;
        table_owes = refl;
        opened = opened;
        addresses_length = refl;
        cells_length = length-set s.cells (base s t + k) c;
        addresses_kept = λ u j apart short. refl;
        cells_kept = λ u j y apart short at. at_set_other c (areas_apart s.pairs t u k j apart within short) at;
        task = facts.newest.task;
        standing = facts.standing;
      })
      (record { place_low = old.place_low; seen_low = old.seen_low; seen = old.seen; committed = old.committed })
      (record {
        at = facts.at;
        page = q;
        newest = newest_mine facts.newest pages facts.newest.task;
        standing = facts.standing;
        logs = new;
        place = facts.place;
        written = facts.written;
        start = facts.start;
        settled = facts.settled;
        reads = facts.reads;
        matches = facts.matches;
      })))

  -- A write of a new address.
  pub appends : Appends Φ s t a c count s' → Inv Φ s' (with_pages b (on_page t (page_write a c) b.pages))
  appends step =
      let r = step.task in
      let there = step.there in
      let k = r.logged in
      let opened = write_open Φ s t r there a c step.accepts in
      let facts = its Φ inv there opened in
      let page = facts.page in
      let logs = facts.logs in
      let without = lacks_without Φ s.pairs s.size logs a step.new in
      let within : k < s.pairs = write_room Φ s t r there a c step.accepts logs.short step.new in
      let known : t < s.tasks = omega (arith, there.within, inv.fits.table) in
      let room = log_room t s.tasks s.pairs (k + 1) known (omega arith) in
      let x = after_append r step.writes in
      let q : Page C = page_write a c page in
      let pages = turned_set b.pages facts.at q facts.newest.there.within in
      let old = inv.snaps facts.at page facts.newest.there in
      let new : LogFacts Φ s.pairs s.size (t * s.pairs) (set s.addresses (base s t + k) a) (set s.cells (base s t + k) c) (k + 1) step.writes (log_write a c page.log) =
      subst (λ (l : List (ℕ × C)). LogFacts Φ s.pairs s.size (t * s.pairs) (set s.addresses (base s t + k) a) (set s.cells (base s t + k) c) (k + 1) step.writes l)
      (sym (write_pushes page.log a c without))
      (logs_push Φ s.pairs s.size (t * s.pairs) k s.addresses s.cells r.writes page.log logs a c step.writes without within
      (omega (arith, inv.fits.addresses)) (omega (arith, inv.fits.cells)) (write_inside Φ s t a c step.accepts)
      (laws.adds r.writes step.writes a step.widened)
      (λ n. laws.keeps r.writes step.writes a n step.widened)) in
      subst (λ (z : State F C). Inv Φ z (with_pages b (on_page t (page_write a c) b.pages))) (sym step.after)
      (subst (λ (ps : List (Page C)). Inv Φ (with_pair s t x (base s t + k) a c) (with_pages b ps)) (sym (on_page_lem b.pages t facts.at page (page_write a c) facts.newest))
      (goes_on Φ inv there opened
      (record {
        turned = turned_set s.table t x there.within;
        table_length = length-set s.table t x;
        table_owes = open_sum x there opened opened;
        opened = opened;
        addresses_length = length-set s.addresses (base s t + k) a;
        cells_length = length-set s.cells (base s t + k) c;
        addresses_kept = λ u j apart short. get_or-set_other s.addresses (base s t + k) (u * s.pairs + j) a 0 (areas_apart s.pairs t u k j apart within short);
        cells_kept = λ u j y apart short at. at_set_other c (areas_apart s.pairs t u k j apart within short) at;
        task = facts.newest.task;
        standing = facts.standing;
      })
      (record { place_low = old.place_low; seen_low = old.seen_low; seen = old.seen; committed = old.committed })
      (record {
        at = facts.at;
        page = q;
        newest = newest_mine facts.newest pages facts.newest.task;
        standing = facts.standing;
        logs = new;
        place = facts.place;
        written = facts.written;
        start = facts.start;
        settled = facts.settled;
        reads = facts.reads;
        matches = facts.matches;
      })))
