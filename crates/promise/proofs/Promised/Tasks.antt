-- The table: what a record says of its task's newest page, of its log and of the places before its start.
use Rattle.std.proofs.Common.{◌≡◌, ℕ, ◌+◌, ◌-◌, ◌*◌, ◌/◌, ◌<◌, ◌≤◌, List, length, get_or, sym, refl, ap, ◌∙◌, subst, ⊎_elim, arith}
use Rattle.std.proofs.lemmas.Nat.{div-mul-add}
use Rattle.std.proofs.lemmas.Bool.{cases_eq}
use Rattle.filters.specs.declared.filter.Filter.{Ghosts}
use Rattle.rules.specs.declared.ring.Entry.{Entry}
use Rattle.rules.specs.declared.table.Phase.{Phase}
use Rattle.rules.specs.declared.table.Phase.TheVariants.{Idle, Open, Committed}
use Rattle.rules.specs.declared.table.TaskRecord.{TaskRecord}
use Rattle.rules.specs.Book.{running, writing, Page}
use Rattle.rules.specs.Lists.{At}
use Rattle.rules.specs.Places.{Pending}
use Rattle.rules.specs.Promise.{In}
use Rattle.rules.specs.Torn.{OpenRules, CommittedRules, PhaseRules}
use Rattle.rules.proofs.AtLaws.{at_one}
use Rattle.promise.proofs.Promised.Layers.{Once, layers, layers_same}
use Rattle.promise.proofs.Promised.Pages.{Newest, Matches}
use Rattle.promise.proofs.Promised.Ring.{Covers}
use Rattle.promise.proofs.Promised.Turns.{at_some, at_same, Turned}

-- The three phases are apart.
pub idle≢open : Idle ≡ Open → ⊥
idle≢open e = let z : ◌≡◌ {A = ℕ} 0 1 = cc in omega arith

pub idle≢committed : Idle ≡ Committed → ⊥
idle≢committed e = let z : ◌≡◌ {A = ℕ} 0 1 = cc in omega arith

pub open≢committed : Open ≡ Committed → ⊥
open≢committed e = let z : ◌≡◌ {A = ℕ} 0 1 = cc in omega arith

-- Two tasks' logs have no position in common.
pub areas_apart : (pairs t u k j : ℕ) → (u ≡ t → ⊥) → k < pairs → j < pairs → u * pairs + j ≡ t * pairs + k → ⊥
areas_apart pairs t u k j apart here there same = apart (sym (div-mul-add u pairs j there) ∙ ap (λ (n : ℕ). n / pairs) same ∙ div-mul-add t pairs k here)

-- What the facts of a task speak of besides its record: the log arrays, the pages, the logs of the writers, what they owe, and how many there are.
pub record Scene (C : Type 0) : Type 0 where
  pub addresses : List ℕ
  pub cells : List C
  pub pages : List (Page C)
  pub log : ℕ → List (ℕ × C)
  pub debts : ℕ → ℕ
  pub count : ℕ

module _ {C : Type 0} (pairs : ℕ) where
  -- What task u sees is the same in both.
  pub record Still (v w : Scene C) (u : ℕ) : Type 0 where
    pub newest : (k : ℕ) (p : Page C) → Newest v.pages u k p → (j : ℕ) × Newest w.pages u j p
    pub addresses : (k : ℕ) → k < pairs → get_or w.addresses (u * pairs + k) 0 ≡ get_or v.addresses (u * pairs + k) 0
    pub cells : (k : ℕ) (c : C) → k < pairs → At v.cells (u * pairs + k) c → At w.cells (u * pairs + k) c
    pub log : (i : ℕ) → i ≤ v.count → v.log i ≡ w.log i
    pub debts : (i : ℕ) → i ≤ v.count → v.debts i ≡ 0 → w.debts i ≡ 0
    pub count : v.count ≤ w.count

module _ {F C : Type 0} (Φ : Ghosts F) (pairs size : ℕ) where
  -- The arrays hold the log's pairs in order; its addresses lie below the size, none stands twice, and the filter covers them.
  pub record LogFacts (base : ℕ) (addresses : List ℕ) (cells : List C) (logged : ℕ) (writes : F) (l : List (ℕ × C)) : Type 0 where
    pub count : length l ≡ logged
    pub short : logged ≤ pairs
    pub held : (k a : ℕ) (c : C) → At l k (a, c) → (get_or addresses (base + k) 0 ≡ a) × At cells (base + k) c
    pub inside : (k a : ℕ) (c : C) → At l k (a, c) → a < size
    pub once : Once l
    pub covered : Covers Φ writes l

  -- An Open record's page is running; the read filter covers what was answered from memory, and those answers match the cells at the start.
  pub record OpenFacts (origin : List C) (v : Scene C) (t : ℕ) (r : TaskRecord F) : Type 0 where
    pub at : ℕ
    pub page : Page C
    pub newest : Newest v.pages t at page
    pub standing : page.standing ≡ running
    pub logs : LogFacts (t * pairs) v.addresses v.cells r.logged r.writes page.log
    pub place : r.place ≡ 0
    pub written : r.written ≡ 0
    pub start : r.start ≤ v.count
    pub settled : (i : ℕ) → i ≤ r.start → v.debts i ≡ 0
    pub reads : (a : ℕ) (c : C) → In page.answers (a, c) → Φ.covers r.reads a
    pub matches : Matches (layers origin v.log r.start) page.answers

  -- A Committed record's page is the writer at its place, which owes what the record says.
  pub record CommittedFacts (v : Scene C) (t : ℕ) (r : TaskRecord F) : Type 0 where
    pub at : ℕ
    pub page : Page C
    pub newest : Newest v.pages t at page
    pub standing : page.standing ≡ writing r.place (r.logged - r.written + 1)
    pub mine : v.log r.place ≡ page.log
    pub owing : v.debts r.place ≡ r.logged - r.written + 1
    pub logs : LogFacts (t * pairs) v.addresses v.cells r.logged r.writes page.log
    pub some : 0 < r.logged
    pub written : r.written ≤ r.logged
    pub start : r.start < r.place
    pub place : r.place ≤ v.count
    pub settled : (i : ℕ) → i ≤ r.start → v.debts i ≡ 0

  pub record TaskFacts (origin : List C) (v : Scene C) (t : ℕ) (r : TaskRecord F) : Type 0 where
    pub opened : r.phase ≡ Open → OpenFacts origin v t r
    pub committed : r.phase ≡ Committed → CommittedFacts v t r

  -- Every record of the table keeps the facts of its phase.
  abbrev pub Tasks : List C → List (TaskRecord F) → Scene C → Type 0
  Tasks origin table v = (t : ℕ) (r : TaskRecord F) → At table t r → TaskFacts origin v t r

  -- Facts of a task that sees no change.
  module _ {v w : Scene C} {u : ℕ} (still : Still pairs v w u) where
    -- Its log stays.
    logs_still : {logged : ℕ} {writes : F} {l : List (ℕ × C)} → LogFacts (u * pairs) v.addresses v.cells logged writes l → LogFacts (u * pairs) w.addresses w.cells logged writes l
    logs_still old = record {
      count = old.count;
      short = old.short;
      held = λ k a c here.
          let short : k < pairs = omega (arith, here.within, old.count, old.short) in
          let was = old.held k a c here in
          (still.addresses k short ∙ was.0, still.cells k c short was.1);
      inside = old.inside;
      once = old.once;
      covered = old.covered;
    }

    -- What an Open record says stays.
    pub open_still : {origin : List C} {r : TaskRecord F} → OpenFacts origin v u r → OpenFacts origin w u r
    open_still {origin} {r} old =
        let start = old.start in
        record {
          at = (still.newest old.at old.page old.newest).0;
          page = old.page;
          newest = (still.newest old.at old.page old.newest).1;
          standing = old.standing;
          logs = logs_still old.logs;
          place = old.place;
          written = old.written;
          start = omega (arith, still.count);
          settled = λ i low. still.debts i (omega arith) (old.settled i low);
          reads = old.reads;
          matches = λ a c here. at_same (layers_same origin v.log w.log r.start (λ i counted low. still.log i (omega arith))) (old.matches a c here);
        }

    -- What a Committed record says stays, if what its place owes does.
    pub committed_still : {r : TaskRecord F} → w.debts r.place ≡ v.debts r.place → CommittedFacts v u r → CommittedFacts w u r
    committed_still {r} same old =
        let place = old.place in
        let start = old.start in
        record {
          at = (still.newest old.at old.page old.newest).0;
          page = old.page;
          newest = (still.newest old.at old.page old.newest).1;
          standing = old.standing;
          mine = sym (still.log r.place place) ∙ old.mine;
          owing = same ∙ old.owing;
          logs = logs_still old.logs;
          some = old.some;
          written = old.written;
          start = old.start;
          place = omega (arith, still.count);
          settled = λ i low. still.debts i (omega arith) (old.settled i low);
        }

  -- A change of the table at one task: the other tasks see none, and what the other Committed records owe stays.
  pub tasks_turned : {origin : List C} {table turn : List (TaskRecord F)} {v w : Scene C} {t : ℕ} {x : TaskRecord F} → Tasks origin table v → Turned table turn t x → TaskFacts origin w t x → ((u : ℕ) → (u ≡ t → ⊥) → Still pairs v w u) → ((u : ℕ) (r : TaskRecord F) → (u ≡ t → ⊥) → At table u r → r.phase ≡ Committed → w.debts r.place ≡ v.debts r.place) → Tasks origin turn w
  tasks_turned {origin} {turn = turn} {w = w} {t = t} {x = x} tasks turned mine still same u r here =
      ⊎_elim
      (λ at.
      let is : x ≡ r = at_one turned.mine (subst (λ (i : ℕ). At turn i r) at here) in
      subst (TaskFacts origin w u) is (subst (λ (i : ℕ). TaskFacts origin w i x) (sym at) mine))
      (λ other.
      let before = turned.back u r other here in
      let old = tasks u r before in
      record {
        opened = λ is. open_still (still u other) (old.opened is);
        committed = λ is. committed_still (still u other) (same u r other before is) (old.committed is);
      })
      (cases_eq u t)

  -- The addresses that the arrays hold for the task lie below the size.
  log_inside : (base logged : ℕ) (addresses : List ℕ) (cells : List C) (writes : F) (l : List (ℕ × C)) → LogFacts base addresses cells logged writes l → (k : ℕ) → k < logged → get_or addresses (base + k) 0 < size
  log_inside base logged addresses cells writes l facts k short =
      let (x, here) = at_some l k (omega (arith, facts.count)) in
      omega (arith, (facts.held k x.0 x.1 here).0, facts.inside k x.0 x.1 here)

  -- An Open record keeps its rules.
  pub open_whole : {origin : List C} {v : Scene C} {t : ℕ} {r : TaskRecord F} → OpenFacts origin v t r → OpenRules pairs size v.count v.addresses (t * pairs) r
  open_whole {v = v} {t = t} {r = r} facts = record {
    log = record {
      logged = facts.logs.short;
      written = omega (arith, facts.written);
      start = facts.start;
      inside = log_inside (t * pairs) r.logged v.addresses v.cells r.writes facts.page.log facts.logs;
    };
    place = facts.place;
    written = facts.written;
  }

  -- A Committed record keeps its rules, since its place is pending.
  pub committed_whole : {slots : ℕ} {ring : List (Entry F)} {v : Scene C} {t : ℕ} {r : TaskRecord F} → CommittedFacts v t r → Pending slots ring r.place → CommittedRules pairs size v.count slots ring v.addresses (t * pairs) r
  committed_whole {v = v} {t = t} {r = r} facts pending =
      let place = facts.place in
      let start = facts.start in
      record {
        log = record {
          logged = facts.logs.short;
          written = facts.written;
          start = omega arith;
          inside = log_inside (t * pairs) r.logged v.addresses v.cells r.writes facts.page.log facts.logs;
        };
        some = facts.some;
        start = facts.start;
        place = facts.place;
        unfinished = pending;
      }

module _ {F : Type 0} where
  -- A record is whole by its phase.
  pub phase_whole : {pairs size index slots : ℕ} {ring : List (Entry F)} {addresses : List ℕ} {base : ℕ} {r : TaskRecord F} → (phase : Phase) → (phase ≡ Open → OpenRules pairs size index addresses base r) → (phase ≡ Committed → CommittedRules pairs size index slots ring addresses base r) → PhaseRules pairs size index slots ring addresses base r phase
  phase_whole Idle opened committed = tt
  phase_whole Open opened committed = opened refl
  phase_whole Committed opened committed = committed refl

  -- No two Committed records have one place.
  abbrev pub Alone : List (TaskRecord F) → Type 0
  Alone table = (t u : ℕ) (r x : TaskRecord F) → At table t r → At table u x → r.phase ≡ Committed → x.phase ≡ Committed → r.place ≡ x.place → t ≡ u

  -- A change at one task, whose new record has no other Committed record's place.
  pub alone_turned : {table turn : List (TaskRecord F)} {t : ℕ} {x : TaskRecord F} → Alone table → Turned table turn t x → ((u : ℕ) (y : TaskRecord F) → (u ≡ t → ⊥) → At table u y → y.phase ≡ Committed → x.phase ≡ Committed → x.place ≡ y.place → ⊥) → Alone turn
  alone_turned {table} {turn} {t} {x} alone turned new i j r y one other committed also same =
      ⊎_elim
      (λ first.
      ⊎_elim
      (λ second. first ∙ sym second)
      (λ apart.
      let is = at_one turned.mine (subst (λ (k : ℕ). At turn k r) first one) in
      absurd (new j y apart (turned.back j y apart other) also (ap (λ (z : TaskRecord F). z.phase) is ∙ committed) (ap (λ (z : TaskRecord F). z.place) is ∙ same)))
      (cases_eq j t))
      (λ apart.
      ⊎_elim
      (λ second.
      let is = at_one turned.mine (subst (λ (k : ℕ). At turn k y) second other) in
      absurd (new i r apart (turned.back i r apart one) committed (ap (λ (z : TaskRecord F). z.phase) is ∙ also) (ap (λ (z : TaskRecord F). z.place) is ∙ sym same)))
      (λ also_apart. alone i j r y (turned.back i r apart one) (turned.back j y also_apart other) committed also same)
      (cases_eq j t))
      (cases_eq i t)

  -- A place that owes has its Committed record.
  pub record Backed (table : List (TaskRecord F)) (place : ℕ) : Type 0 where
    pub number : ℕ
    pub task : TaskRecord F
    pub there : At table number task
    pub committed : task.phase ≡ Committed
    pub placed : task.place ≡ place

  -- A change at one task, whose new record backs the place if the old one did.
  pub backed_turned : {table turn : List (TaskRecord F)} {t place : ℕ} {r x : TaskRecord F} → Backed table place → At table t r → Turned table turn t x → (r.phase ≡ Committed → r.place ≡ place → (x.phase ≡ Committed) × (x.place ≡ place)) → Backed turn place
  backed_turned {table} {t = t} {r = r} {x = x} old here turned mine =
      ⊎_elim
      (λ same.
      let is = at_one (subst (λ (k : ℕ). At table k old.task) same old.there) here in
      let facts = mine (ap (λ (z : TaskRecord F). z.phase) (sym is) ∙ old.committed) (ap (λ (z : TaskRecord F). z.place) (sym is) ∙ old.placed) in
      record { number = t; task = x; there = turned.mine; committed = facts.0; placed = facts.1 })
      (λ other. record { number = old.number; task = old.task; there = turned.others old.number old.task other old.there; committed = old.committed; placed = old.placed })
      (cases_eq old.number t)
