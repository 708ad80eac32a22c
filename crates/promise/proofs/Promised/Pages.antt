-- The book's pages: which page a task's calls go to, which log stands at a place, and what every page keeps.
use Rattle.std.proofs.Common.{◌≡◌, ℕ, zero, suc, ◌+◌, ◌-◌, ◌<◌, ◌≤◌, cond, eqb, List, [], ◌∷◌, set, sum_by, sym, refl, ap, ◌∙◌, subst, ⊎_elim, arith}
use Rattle.std.proofs.lemmas.List.Sums.{sum_by-set}
use Rattle.std.proofs.lemmas.Bool.{cases_eq, cases_order, eq-eqb, ne_eqb, cond-true, cond-false}
use Rattle.rules.specs.declared.table.Phase.TheVariants.{Committed}
use Rattle.rules.specs.declared.table.TaskRecord.{TaskRecord}
use Rattle.rules.specs.Book.{Standing, running, writing, finished, Page, new_page, on_page, owed, place_of, log_in}
use Rattle.rules.specs.Lists.{At}
use Rattle.rules.specs.Promise.{In}
use Rattle.rules.specs.Steps.{owes}
use Rattle.rules.proofs.AtLaws.{at_one}
use Rattle.promise.proofs.Promised.Layers.{layers, layers_same}
use Rattle.promise.proofs.Promised.Turns.{put, put_other, at_first, at_cons, at_tail, at_same, at_read, Turned}

-- Running and writing are two.
pub running≢writing : {place n : ℕ} → running ≡ writing place n → ⊥
running≢writing e = let z : ◌≡◌ {A = ℕ} 0 1 = cc in omega arith

-- Finished and writing are two.
pub finished≢writing : {place i n : ℕ} → finished place ≡ writing i n → ⊥
finished≢writing e = let z : ◌≡◌ {A = ℕ} 0 1 = cc in omega arith

-- In an empty list nothing stands.
pub in_none : {X : Type 0} {x : X} → In [] x → ⊥
in_none here = omega (arith, here.there.within)

-- What holds of a new element and of all others holds of all.
pub in_cons : {X : Type 0} (P : X → Type 0) {x : X} {xs : List X} → P x → ((y : X) → In xs y → P y) → (y : X) → In (x ∷ xs) y → P y
in_cons P {x} {xs} new old y here = go here.index here.there
  where
    go : (i : ℕ) → At (x ∷ xs) i y → P y
    go zero at = subst P (sym at.is) new
    go (suc i) at = old y (record { index = i; there = at_tail at })

module _ {C : Type 0} where
  -- The page at k is the newest of task t.
  pub record Newest (pages : List (Page C)) (t k : ℕ) (p : Page C) : Type 0 where
    pub there : At pages k p
    pub task : p.task ≡ t
    pub newer : (j : ℕ) (q : Page C) → j < k → At pages j q → q.task ≡ t → ⊥

  -- A change of a task's page is a change at the index of its newest one.
  pub on_page_lem : (pages : List (Page C)) (t k : ℕ) (p : Page C) (f : Page C → Page C) → Newest pages t k p → on_page t f pages ≡ set pages k (f p)
  on_page_lem [] t k p f newest = absurd (omega (arith, newest.there.within))
  on_page_lem (q ∷ ps) t zero p f newest =
      cond-true (eqb q.task t) (f q ∷ ps) (q ∷ on_page t f ps) (eq-eqb q.task t (ap (λ (x : Page C). x.task) (sym newest.there.is) ∙ newest.task))
      ∙ ap (λ (x : Page C). f x ∷ ps) (sym newest.there.is)
  on_page_lem (q ∷ ps) t (suc k) p f newest =
      cond-false (eqb q.task t) (f q ∷ ps) (q ∷ on_page t f ps) (ne_eqb q.task t (newest.newer zero q (omega arith) at_first))
      ∙ ap (λ (xs : List (Page C)). q ∷ xs) (on_page_lem ps t k p f (record {
        there = at_tail newest.there;
        task = newest.task;
        newer = λ j x before here. newest.newer (suc j) x (omega arith) (at_cons here);
      }))

  -- A task has one newest page.
  pub newest_one : {pages : List (Page C)} {t k j : ℕ} {p q : Page C} → Newest pages t k p → Newest pages t j q → k ≡ j
  newest_one {k = k} {j = j} {p = p} {q = q} one other =
      ⊎_elim
      (λ same. same)
      (λ apart. absurd (⊎_elim (λ less. other.newer k p less one.there one.task) (λ more. one.newer j q more other.there other.task) apart))
      (cases_order k j)

  module _ {pages after : List (Page C)} {t k : ℕ} {p q : Page C} (newest : Newest pages t k p) (turned : Turned pages after k q) (task : q.task ≡ t) where
    -- A changed page of a task is its newest still.
    pub newest_mine : Newest after t k q
    newest_mine = record {
      there = turned.mine;
      task = task;
      newer = λ j x before here. newest.newer j x before (turned.back j x (omega arith) here);
    }

    -- Another task's newest page stays.
    pub newest_other : {u j : ℕ} {x : Page C} → (u ≡ t → ⊥) → Newest pages u j x → Newest after u j x
    newest_other {u} {j} {x} apart old =
        let at : j ≡ k → ⊥ = λ same. apart (sym old.task ∙ ap (λ (y : Page C). y.task) (at_one old.there (subst (λ (n : ℕ). At pages n p) (sym same) newest.there)) ∙ newest.task) in
        record {
          there = turned.others j x at old.there;
          task = old.task;
          newer = λ i y before here of.
              ⊎_elim
              (λ same. apart (sym of ∙ ap (λ (z : Page C). z.task) (at_one here (subst (λ (n : ℕ). At after n q) (sym same) turned.mine)) ∙ task))
              (λ other. old.newer i y before (turned.back i y other here) of)
              (cases_eq i k);
        }

  -- A new page of one task is newer than no other task's.
  newer_cons : {pages : List (Page C)} {t u k : ℕ} {x : Page C} → (u ≡ t → ⊥) → Newest pages u k x → (j : ℕ) (q : Page C) → j < suc k → At (new_page t ∷ pages) j q → q.task ≡ u → ⊥
  newer_cons apart old zero q before here of = apart (sym of ∙ ap (λ (z : Page C). z.task) here.is)
  newer_cons apart old (suc j) q before here of = old.newer j q (omega arith) (at_tail here) of

  -- Another task's newest page stays so, one place further on.
  pub newest_cons : {pages : List (Page C)} {u k : ℕ} {x : Page C} → (t : ℕ) → (u ≡ t → ⊥) → Newest pages u k x → Newest (new_page t ∷ pages) u (suc k) x
  newest_cons t apart old = record { there = at_cons old.there; task = old.task; newer = newer_cons apart old }

  -- A new page is its task's newest.
  pub newest_new : (pages : List (Page C)) (t : ℕ) → Newest (new_page t ∷ pages) t zero (new_page t)
  newest_new pages t = record { there = at_first; task = refl; newer = λ j q before. absurd (omega arith) }

  -- For the search of place i the two pages are alike.
  abbrev pub Alike : ℕ → Page C → Page C → Type 0
  Alike i p q = (z : List (ℕ × C)) → cond (eqb (place_of q.standing) i) q.log z ≡ cond (eqb (place_of p.standing) i) p.log z

  -- Two pages at one place with one log are alike.
  pub alike_same : (i : ℕ) (p q : Page C) → place_of q.standing ≡ place_of p.standing → q.log ≡ p.log → Alike i p q
  alike_same i p q place log z = ap (λ (n : ℕ). cond (eqb n i) q.log z) place ∙ ap (λ (l : List (ℕ × C)). cond (eqb (place_of p.standing) i) l z) log

  -- Two pages at other places are alike.
  pub alike_other : (i : ℕ) (p q : Page C) → (place_of p.standing ≡ i → ⊥) → (place_of q.standing ≡ i → ⊥) → Alike i p q
  alike_other i p q one other z =
      cond-false (eqb (place_of q.standing) i) q.log z (ne_eqb (place_of q.standing) i other)
      ∙ sym (cond-false (eqb (place_of p.standing) i) p.log z (ne_eqb (place_of p.standing) i one))

  -- The log found at a place stays where a page is replaced by one that is alike.
  pub log_set : (pages : List (Page C)) (k i : ℕ) (p q : Page C) → At pages k p → Alike i p q → log_in (set pages k q) i ≡ log_in pages i
  log_set [] k i p q here alike = refl
  log_set (x ∷ xs) zero i p q here alike = alike (log_in xs i) ∙ ap (λ (y : Page C). cond (eqb (place_of y.standing) i) y.log (log_in xs i)) here.is
  log_set (x ∷ xs) (suc k) i p q here alike = ap (λ (l : List (ℕ × C)). cond (eqb (place_of x.standing) i) x.log l) (log_set xs k i p q (at_tail here) alike)

  -- The log at a new place is that of the page that takes it.
  pub log_found : (pages : List (Page C)) (k i : ℕ) (p q : Page C) → At pages k p → place_of q.standing ≡ i → ((j : ℕ) (x : Page C) → At pages j x → place_of x.standing ≡ i → ⊥) → log_in (set pages k q) i ≡ q.log
  log_found [] k i p q here at new = absurd (omega (arith, here.within))
  log_found (x ∷ xs) zero i p q here at new = cond-true (eqb (place_of q.standing) i) q.log (log_in xs i) (eq-eqb (place_of q.standing) i at)
  log_found (x ∷ xs) (suc k) i p q here at new =
      cond-false (eqb (place_of x.standing) i) x.log (log_in (set xs k q) i) (ne_eqb (place_of x.standing) i (new zero x at_first))
      ∙ log_found xs k i p q (at_tail here) at (λ j y there. new (suc j) y (at_cons there))

  -- All that was answered from memory is in these cells.
  abbrev pub Matches : List C → List (ℕ × C) → Type 0
  Matches cells answers = (a : ℕ) (c : C) → In answers (a, c) → At cells a c

  -- A page's place and its last answer lie among the writers so far, and its answers match the cells that they must.
  pub record Snap (origin : List C) (log : ℕ → List (ℕ × C)) (count : ℕ) (p : Page C) : Type 0 where
    pub place_low : place_of p.standing ≤ count
    pub seen_low : p.seen ≤ count
    pub seen : Matches (layers origin log p.seen) p.answers
    pub committed : 0 < place_of p.standing → Matches (layers origin log (place_of p.standing - 1)) p.answers

  -- Every page keeps that.
  abbrev pub Snaps : List C → List (Page C) → (ℕ → List (ℕ × C)) → ℕ → Type 0
  Snaps origin pages log count = (k : ℕ) (p : Page C) → At pages k p → Snap origin log count p

  -- One page is replaced by another that keeps it.
  pub snaps_turned : {origin : List C} {pages after : List (Page C)} {log : ℕ → List (ℕ × C)} {count k : ℕ} {q : Page C} → Snaps origin pages log count → Turned pages after k q → Snap origin log count q → Snaps origin after log count
  snaps_turned {origin} {after = after} {log = log} {count = count} {k = k} {q = q} old turned new j p here =
      ⊎_elim
      (λ same. subst (Snap origin log count) (at_one turned.mine (subst (λ (n : ℕ). At after n p) same here)) new)
      (λ other. old j p (turned.back j p other here))
      (cases_eq j k)

  -- A new page has no place and no answer.
  snap_new : (origin : List C) (log : ℕ → List (ℕ × C)) (count t : ℕ) → Snap origin log count (new_page t)
  snap_new origin log count t = record {
    place_low = omega arith;
    seen_low = omega arith;
    seen = λ a c none. absurd (in_none none);
    committed = λ some. absurd (omega arith);
  }

  -- So it can be added.
  pub snaps_cons : {origin : List C} {pages : List (Page C)} {log : ℕ → List (ℕ × C)} {count : ℕ} → (t : ℕ) → Snaps origin pages log count → Snaps origin (new_page t ∷ pages) log count
  snaps_cons {origin} {log = log} {count = count} t old zero p here = subst (Snap origin log count) (sym here.is) (snap_new origin log count t)
  snaps_cons t old (suc k) p here = old k p (at_tail here)

  -- A page with another standing at the same place.
  pub snap_standing : {origin : List C} {log : ℕ → List (ℕ × C)} {count : ℕ} {p : Page C} → (standing : Standing) → place_of standing ≡ place_of p.standing → Snap origin log count p → Snap origin log count (record { task = p.task; log = p.log; answers = p.answers; seen = p.seen; standing = standing })
  snap_standing {origin} {log} {count} {p} standing same old = record {
    place_low = omega (arith, old.place_low);
    seen_low = old.seen_low;
    seen = old.seen;
    committed = λ some. subst (λ (n : ℕ). Matches (layers origin log (n - 1)) p.answers) (sym same) (old.committed (omega arith));
  }

  -- One more log leaves the cells after the logs before.
  pub snap_more : {origin : List C} {log : ℕ → List (ℕ × C)} {count : ℕ} {p : Page C} → (l : List (ℕ × C)) → Snap origin log count p → Snap origin (put log (count + 1) l) (count + 1) p
  snap_more {origin} {log} {count} {p} l old =
      let same : (m : ℕ) → m ≤ count → layers origin log m ≡ layers origin (put log (count + 1) l) m
      = λ m low. layers_same origin log (put log (count + 1) l) m (λ i counted below. sym (put_other log (count + 1) i l (omega arith))) in
      let place_low = old.place_low in
      let seen_low = old.seen_low in
      record {
        place_low = omega arith;
        seen_low = omega arith;
        seen = λ a c here. at_same (same p.seen seen_low) (old.seen a c here);
        committed = λ some a c here. at_same (same (place_of p.standing - 1) (omega arith)) (old.committed some a c here);
      }

  module _ {F : Type 0} where
    -- An unfinished writer's page is its task's newest, and the task's record is Committed at its place.
    pub record Owned (table : List (TaskRecord F)) (pages : List (Page C)) (k place : ℕ) (p : Page C) : Type 0 where
      pub task : TaskRecord F
      pub there : At table p.task task
      pub committed : task.phase ≡ Committed
      pub placed : task.place ≡ place
      pub newest : Newest pages p.task k p

    -- That is so of every unfinished writer.
    abbrev pub Owners : List (TaskRecord F) → List (Page C) → Type 0
    Owners table pages = (k place n : ℕ) (p : Page C) → At pages k p → p.standing ≡ writing place n → Owned table pages k place p

    -- The table changes at a task that was not Committed.
    pub owners_table : {table turn : List (TaskRecord F)} {pages : List (Page C)} {t : ℕ} {r x : TaskRecord F} → Owners table pages → At table t r → (r.phase ≡ Committed → ⊥) → Turned table turn t x → Owners turn pages
    owners_table {table} {t = t} {r = r} owners here free turned k place n p at unfinished =
        let old = owners k place n p at unfinished in
        let apart : p.task ≡ t → ⊥ = λ same. free (ap (λ (y : TaskRecord F). y.phase) (at_one here (subst (λ (i : ℕ). At table i old.task) same old.there)) ∙ old.committed) in
        record { task = old.task; there = turned.others p.task old.task apart old.there; committed = old.committed; placed = old.placed; newest = old.newest }

    -- The same, with a new page of that task.
    pub owners_cons : {table turn : List (TaskRecord F)} {pages : List (Page C)} {t : ℕ} {r x : TaskRecord F} → Owners table pages → At table t r → (r.phase ≡ Committed → ⊥) → Turned table turn t x → Owners turn (new_page t ∷ pages)
    owners_cons owners here free turned zero place n p at unfinished = absurd (running≢writing (ap (λ (y : Page C). y.standing) (sym at.is) ∙ unfinished))
    owners_cons {table} {t = t} {r = r} owners here free turned (suc k) place n p at unfinished =
        let old = owners k place n p (at_tail at) unfinished in
        let apart : p.task ≡ t → ⊥ = λ same. free (ap (λ (y : TaskRecord F). y.phase) (at_one here (subst (λ (i : ℕ). At table i old.task) same old.there)) ∙ old.committed) in
        record { task = old.task; there = turned.others p.task old.task apart old.there; committed = old.committed; placed = old.placed; newest = newest_cons t apart old.newest }

    -- The table and the pages change at one task and its newest page.
    pub owners_turned : {table turn : List (TaskRecord F)} {pages after : List (Page C)} {t k : ℕ} {p q : Page C} {x : TaskRecord F} → Owners table pages → Newest pages t k p → Turned pages after k q → q.task ≡ t → Turned table turn t x → ((place n : ℕ) → q.standing ≡ writing place n → (x.phase ≡ Committed) × (x.place ≡ place)) → Owners turn after
    owners_turned {turn = turn} {pages = before} {after = after} {t = t} {k = k} {q = q} {x = x} owners newest pages task table mine j place n y at unfinished =
        ⊎_elim
        (λ same.
        let is : q ≡ y = at_one pages.mine (subst (λ (i : ℕ). At after i y) same at) in
        let facts = mine place n (ap (λ (z : Page C). z.standing) is ∙ unfinished) in
        let of : t ≡ y.task = sym task ∙ ap (λ (z : Page C). z.task) is in
        record {
          task = x;
          there = subst (λ (i : ℕ). At turn i x) of table.mine;
          committed = facts.0;
          placed = facts.1;
          newest = subst (λ (i : ℕ). Newest after i j y) of (subst (λ (i : ℕ). Newest after t i y) (sym same) (subst (Newest after t k) is (newest_mine newest pages task)));
        })
        (λ other.
        let old = owners j place n y (pages.back j y other at) unfinished in
        let apart : y.task ≡ t → ⊥ = λ same. other (newest_one (subst (λ (i : ℕ). Newest before i j y) same old.newest) newest) in
        record {
          task = old.task;
          there = table.others y.task old.task apart old.there;
          committed = old.committed;
          placed = old.placed;
          newest = newest_other newest pages task apart old.newest;
        })
        (cases_eq j k)

    -- The records and the pages owe the same.
    abbrev pub Balanced : List (TaskRecord F) → List (Page C) → Type 0
    Balanced table pages = sum_by owes table ≡ sum_by (λ (p : Page C). owed p.standing) pages

    -- One record and one page change by the same.
    pub balanced_turned : {table : List (TaskRecord F)} {pages : List (Page C)} {t k : ℕ} {r : TaskRecord F} {p : Page C} → (x : TaskRecord F) (q : Page C) → At table t r → At pages k p → owes x + owed p.standing ≡ owes r + owed q.standing → Balanced table pages → Balanced (set table t x) (set pages k q)
    balanced_turned {table} {pages} {t} {k} {r} {p} x q here there even old =
        omega (
          arith,
          sum_by-set owes table t x r here.within,
          sum_by-set (λ (p : Page C). owed p.standing) pages k q p there.within,
          ap owes (at_read here r),
          ap (λ (p : Page C). owed p.standing) (at_read there p),
        )
