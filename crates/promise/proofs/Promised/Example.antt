-- A chain: making, begin, a write, commit and two works, over a filter that keeps the laws. So there is something that the promise speaks of.
use Rattle.std.proofs.Common.{◌≡◌, ℕ, zero, suc, ◌+◌, ◌<◌, ◌≤◌, Bool, true, false, ◌&&◌, List, [], ◌∷◌, get_or, Some, Ok, sym, refl, ap, ◌∙◌, inl, inr, arith}
use Rattle.std.proofs.lemmas.Bool.{false≢true}
use Rattle.cells.specs.declared.refusal.Refusal.{Refusal}
use Rattle.cells.specs.declared.refusal.Refusal.TheVariants.{RingLength, TaskCount, LogLength, LastPlace, MemorySize, ArrayLength, TaskNumber, Address, BrokenLine, OutputFull, Torn, PhaseForbids, LogFull, PlacesSpent, RingFull, MustWait}
use Rattle.filters.specs.declared.filter.Filter.{Ghosts}
use Rattle.rules.specs.declared.answer.Worked.TheVariants.{Left, Done}
use Rattle.rules.specs.declared.ring.Entry.{Entry}
use Rattle.rules.specs.declared.ring.Status.TheVariants.{Writing, Complete}
use Rattle.rules.specs.declared.table.Phase.TheVariants.{Idle, Open, Committed}
use Rattle.rules.specs.declared.table.TaskRecord.{TaskRecord}
use Rattle.rules.specs.Book.{Book, finished, opening}
use Rattle.rules.specs.Calls.{begin, write, commit, work, by}
use Rattle.rules.specs.Faults.{Waits, to_write, to_finish, Accepts}
use Rattle.rules.specs.Lists.{At}
use Rattle.rules.specs.Making.{MakingFault, Makes, Vacant}
use Rattle.rules.specs.Places.{Pending}
use Rattle.rules.specs.Promise.{Chain, made, then, Promise}
use Rattle.rules.specs.Records.{Emptied}
use Rattle.rules.specs.State.{State, Fits}
use Rattle.rules.specs.Steps.{Begins, Appends, Commits, WritesBack, Finishes}
use Rattle.rules.proofs.Clears.{accepts}
use Rattle.promise.proofs.Promised.Keeping.{chain_holds}
use Rattle.promise.proofs.Promised.Laws.{Lawful}
use Rattle.promise.proofs.Promised.Outstanding.{counted}
use Rattle.promise.proofs.Promised.Snapshots.{laid_down, one_snapshot}
use Rattle.promise.proofs.Promised.Turns.{at_first, at_cons, at_none, at_tail}

-- A filter that covers all addresses or none.
abbrev all_or_none : Ghosts Bool
all_or_none = record { covers = λ f a. f ≡ true; fresh = λ f. f ≡ false; added = λ f a g. g ≡ true; meeting = λ f g. f && g }

-- A filter that covers none meets none.
none_meets : (f g : Bool) → (ℕ → f ≡ true → ⊥) → (f && g) ≡ false
none_meets true g none = absurd (none 0 refl)
none_meets false g none = refl

-- The order of the two does not matter.
either_way : (f g : Bool) → (f && g) ≡ (g && f)
either_way true true = refl
either_way true false = refl
either_way false true = refl
either_way false false = refl

-- It keeps the laws.
lawful : Lawful all_or_none
lawful = record {
  none = λ f fresh a covers. false≢true (sym fresh ∙ covers);
  adds = λ f g a added. added;
  keeps = λ f g a b added covers. added;
  common = λ f g a low one other. ap (λ (x : Bool). x && g) one ∙ other;
  apart = λ f g none. none_meets f g none;
  either = λ f g. either_way f g;
}

-- Entries and records on the way.
abbrev vacant : Entry Bool
vacant = record { stamp = 0; filter = false; status = Complete }

abbrev idle : TaskRecord Bool
idle = record { phase = Idle; start = 0; place = 0; logged = 0; written = 0; reads = false; writes = false }

abbrev opened : TaskRecord Bool
opened = record { phase = Open; start = 0; place = 0; logged = 0; written = 0; reads = false; writes = false }

abbrev logged : TaskRecord Bool
logged = record { phase = Open; start = 0; place = 0; logged = 1; written = 0; reads = false; writes = true }

abbrev committed : ℕ → TaskRecord Bool
committed written = record { phase = Committed; start = 0; place = 1; logged = 1; written = written; reads = false; writes = true }

abbrev writing : Entry Bool
writing = record { stamp = 1; filter = true; status = Writing }

-- Two slots, one task, one pair, one cell.
abbrev with : ℕ → ℕ → Entry Bool → TaskRecord Bool → ℕ → State Bool ℕ
with index cell entry task kept = record {
  slots = 2;
  tasks = 1;
  pairs = 1;
  last = 1;
  size = 1;
  index = index;
  memory = cell ∷ [];
  ring = vacant ∷ entry ∷ [];
  table = task ∷ [];
  addresses = 0 ∷ [];
  cells = kept ∷ [];
}

-- The lengths are right.
fits : (index cell : ℕ) (entry : Entry Bool) (task : TaskRecord Bool) (kept : ℕ) → Fits (with index cell entry task kept)
fits index cell entry task kept = record { ring = refl; table = refl; addresses = refl; cells = refl; memory = refl }

-- Place 0 is never pending.
not_zero : {ring : List (Entry Bool)} → Pending 2 ring 0 → ⊥
not_zero pending = omega (arith, pending.present.counted)

-- The one address logged lies below the size.
inside : (k : ℕ) → k < 1 → get_or (0 ∷ []) (0 + k) 0 < 1
inside k short =
    let first : k ≡ 0 = omega arith in
    omega (arith, ap {B = ℕ} (λ (n : ℕ). get_or (0 ∷ []) (0 + n) 0) first)

-- The limits are kept.
making_accepts : (q : Refusal) → MakingFault (with 0 7 vacant idle 0) q → ⊥
making_accepts RingLength fault = fault (record { least = omega arith; most = omega arith })
making_accepts TaskCount fault = fault (record { least = omega arith; most = omega arith })
making_accepts LogLength fault = fault (record { least = omega arith; most = omega arith })
making_accepts LastPlace fault = fault (record { least = omega arith; most = omega arith })
making_accepts MemorySize fault = fault (record { least = omega arith; most = omega arith })
making_accepts ArrayLength fault = fault (fits 0 7 vacant idle 0)
making_accepts TaskNumber fault = fault
making_accepts Address fault = fault
making_accepts BrokenLine fault = fault
making_accepts OutputFull fault = fault
making_accepts Torn fault = fault
making_accepts PhaseForbids fault = fault
making_accepts LogFull fault = fault
making_accepts PlacesSpent fault = fault
making_accepts RingFull fault = fault
making_accepts (MustWait place) fault = fault

-- What equals a vacant entry is vacant.
is_vacant : (e : Entry Bool) → e ≡ vacant → Vacant all_or_none e
is_vacant e is = record { stamp = ap (λ (x : Entry Bool). x.stamp) is; filter = ap (λ (x : Entry Bool). x.filter) is; status = ap (λ (x : Entry Bool). x.status) is }

-- Every entry is vacant.
all_vacant : (i : ℕ) (e : Entry Bool) → At (vacant ∷ vacant ∷ []) i e → Vacant all_or_none e
all_vacant zero e here = is_vacant e here.is
all_vacant (suc zero) e here = is_vacant e here.is
all_vacant (suc (suc i)) e here = absurd (at_none (at_tail (at_tail here)))

-- Every record is emptied.
all_emptied : (t : ℕ) (r : TaskRecord Bool) → At (idle ∷ []) t r → Emptied all_or_none r
all_emptied zero r here =
    let is : r ≡ idle = here.is in
    record {
      phase_is = ap (λ (x : TaskRecord Bool). x.phase) is;
      start_is = ap (λ (x : TaskRecord Bool). x.start) is;
      place = ap (λ (x : TaskRecord Bool). x.place) is;
      logged = ap (λ (x : TaskRecord Bool). x.logged) is;
      written = ap (λ (x : TaskRecord Bool). x.written) is;
      reads = ap (λ (x : TaskRecord Bool). x.reads) is;
      writes = ap (λ (x : TaskRecord Bool). x.writes) is;
    }
all_emptied (suc t) r here = absurd (at_none (at_tail here))

-- The making.
makes : Makes all_or_none (with 0 7 vacant idle 0) (with 0 7 vacant idle 0)
makes = record {
  accepts = making_accepts;
  ring_length = refl;
  table_length = refl;
  vacant = all_vacant;
  emptied = all_emptied;
  index = refl;
  size = refl;
  after = refl;
}

-- The begin.
begins : Begins all_or_none (with 0 7 vacant idle 0) 0 0 (with 0 7 vacant opened 0)
begins = record {
  accepts = accepts all_or_none (with 0 7 vacant idle 0) 0 begin idle
      (record { addressed = record { fits = fits 0 7 vacant idle 0; known = omega arith; inside = tt }; there = at_first; whole = tt; allowed = refl })
      (λ fault. fault) (λ fault. fault) (λ fault. fault) (λ place fault. fault);
  settled = record { within = omega arith; finished = not_zero; passed = λ i above below. absurd (omega arith) };
  task = opened;
  opened = record { phase_is = refl; start_is = refl; place = refl; logged = refl; written = refl; reads = refl; writes = refl };
  after = refl;
}

-- The write of cell 9 at address 0.
appends : Appends all_or_none (with 0 7 vacant opened 0) 0 0 9 1 (with 0 7 vacant logged 9)
appends = record {
  accepts = accepts all_or_none (with 0 7 vacant opened 0) 0 (write 0 9) opened
      (record {
        addressed = record { fits = fits 0 7 vacant opened 0; known = omega arith; inside = omega arith };
        there = at_first;
        whole = record { log = record { logged = omega arith; written = omega arith; start = omega arith; inside = λ k short. absurd (omega arith) }; place = refl; written = refl };
        allowed = refl;
      })
      (λ full. omega (arith, ap (λ (x : TaskRecord Bool). x.logged) full.there.is, full.holds.0)) (λ fault. fault) (λ fault. fault) (λ place fault. fault);
  task = opened;
  there = at_first;
  new = λ k short. absurd (omega arith);
  writes = true;
  widened = refl;
  counted = refl;
  after = refl;
}

-- The commit at place 1.
commits : Commits all_or_none (with 0 7 vacant logged 9) 0 1 0 (with 1 7 writing (committed 0) 9)
commits = record {
  start = 0;
  checked = record {
    accepts = accepts all_or_none (with 0 7 vacant logged 9) 0 commit logged
        (record {
          addressed = record { fits = fits 0 7 vacant logged 9; known = omega arith; inside = tt };
          there = at_first;
          whole = record { log = record { logged = omega arith; written = omega arith; start = omega arith; inside = inside }; place = refl; written = refl };
          allowed = refl;
        })
        (λ fault. fault) (λ spent. omega (arith, spent.holds.1)) (λ full. not_zero full.holds.1) (λ place fault. fault);
    task = logged;
    there = at_first;
    some = omega arith;
    checks = record {
      near = omega arith;
      asked = λ i above below. absurd (omega arith);
      advanced = record { low = omega arith; high = omega arith; finished = λ i above below. absurd (omega arith); next = inl refl };
      counted = refl;
    };
  };
  next = refl;
  after = refl;
}

-- The writer at place 1 is never made to wait.
no_wait : (cell written : ℕ) (r : TaskRecord Bool) → r ≡ committed written → (i : ℕ) → Waits all_or_none (with 1 cell writing (committed written) 9) r i → ⊥
no_wait cell written r is i (to_write waits) = omega (arith, ap (λ (x : TaskRecord Bool). x.place) is, waits.below, waits.above)
no_wait cell written r is i (to_finish waits) = omega (arith, ap (λ (x : TaskRecord Bool). x.place) is, waits.before, waits.pending.present.counted)

-- A work for it is accepted.
work_accepts : (cell written : ℕ) → written ≤ 1 → Accepts all_or_none (with 1 cell writing (committed written) 9) (by 0 work)
work_accepts cell written low =
    accepts all_or_none (with 1 cell writing (committed written) 9) 0 work (committed written)
    (record {
      addressed = record { fits = fits 1 cell writing (committed written) 9; known = omega arith; inside = tt };
      there = at_first;
      whole = record {
        log = record { logged = omega arith; written = low; start = omega arith; inside = inside };
        some = omega arith;
        start = omega arith;
        place = omega arith;
        unfinished = record { entry = writing; present = record { counted = omega arith; there = at_cons at_first; stamped = refl }; writing = refl };
      };
      allowed = refl;
    })
    (λ fault. fault) (λ fault. fault) (λ fault. fault)
    (λ i waiting. no_wait cell written waiting.task waiting.there.is i waiting.holds)

-- The work that writes the cell.
writes_back_lem : WritesBack all_or_none (with 1 7 writing (committed 0) 9) 0 0 (with 1 9 writing (committed 1) 9)
writes_back_lem = record {
  accepts = work_accepts 7 0 (omega arith);
  task = committed 0;
  there = at_first;
  more = omega arith;
  cell = 9;
  logged = at_first;
  counted = refl;
  after = refl;
}

-- The work that finishes.
finishes : Finishes all_or_none (with 1 9 writing (committed 1) 9) 0 1 (with 1 9 (record { stamp = 1; filter = true; status = Complete }) idle 9)
finishes = record {
  accepts = work_accepts 9 1 (omega arith);
  task = committed 1;
  there = at_first;
  none = refl;
  named = refl;
  entry = writing;
  present = record { counted = omega arith; there = at_cons at_first; stamped = refl };
  idle = idle;
  emptied = record { phase_is = refl; start_is = refl; place = refl; logged = refl; written = refl; reads = refl; writes = refl };
  after = refl;
}

-- The book at the end: one finished writer, which logged one cell.
abbrev ended : Book ℕ
ended = record { origin = 7 ∷ []; pages = record { task = 0; log = (0, 9) ∷ []; answers = []; seen = 0; standing = finished 1 } ∷ []; writers = 1 }

-- The chain.
pub chain : Chain all_or_none (with 1 9 (record { stamp = 1; filter = true; status = Complete }) idle 9) ended
chain =
    let zeroth : Chain all_or_none (with 0 7 vacant idle 0) (opening (7 ∷ [])) = made (with 0 7 vacant idle 0) (with 0 7 vacant idle 0) makes in
    let first = then zeroth (by 0 begin) (Ok 0) begins in
    let second = then first (by 0 (write 0 9)) (Ok 1) (inr appends) in
    let third = then second (by 0 commit) (Ok (Some 1, 0)) commits in
    let fourth = then third (by 0 work) (Ok (Left 0)) writes_back_lem in
    then fourth (by 0 work) (Ok (Done 1)) finishes

-- What is promised of it.
pub promised : Promise all_or_none (with 1 9 (record { stamp = 1; filter = true; status = Complete }) idle 9) ended
promised =
    let inv = chain_holds all_or_none lawful chain in
    record { laid_down = laid_down all_or_none inv; one_snapshot = one_snapshot all_or_none inv; counted = counted all_or_none inv }
