-- The step as a function: the answer and the state after each call, for a filter whose new value and whose adding are functions.
use Rattle.std.specs.Prelude.{◌≡◌, ℕ, zero, suc, ◌+◌, ◌-◌, ◌*◌, ◌%◌, Bool, true, false, cond, not, ◌&&◌, List, [], ◌∷◌, length, Some, None, Ok, Err, sum_by, Option, Result, ◌==◌, nat_le, nat_lt, slice_index}
use Rattle.std.specs.List.{slice_get}
use Rattle.cells.specs.declared.refusal.Refusal.{Refusal}
use Rattle.cells.specs.declared.refusal.Refusal.TheVariants.{ArrayLength, TaskNumber, Address, Torn, PhaseForbids, LogFull, PlacesSpent, RingFull, MustWait}
use Rattle.filters.specs.declared.filter.Filter.{Ghosts}
use Rattle.rules.specs.declared.answer.Denial.{Denial}
use Rattle.rules.specs.declared.answer.Abort.TheVariants.{Conflict, Overrun}
use Rattle.rules.specs.declared.answer.Denial.TheVariants.{Refused, Aborted}
use Rattle.rules.specs.declared.answer.Worked.{Worked}
use Rattle.rules.specs.declared.answer.Worked.TheVariants.{Left, Done}
use Rattle.rules.specs.declared.ring.Entry.{Entry}
use Rattle.rules.specs.declared.ring.Status.{Status}
use Rattle.rules.specs.declared.ring.Status.TheVariants.{Writing, Complete}
use Rattle.rules.specs.declared.table.Phase.{Phase}
use Rattle.rules.specs.declared.table.Phase.TheVariants.{Idle, Open, Committed}
use Rattle.rules.specs.declared.table.TaskRecord.{TaskRecord}
use Rattle.rules.specs.Calls.{Act, begin, read, write, commit, work, quit, Call, by, outstanding, kind, named, ActReply, Reply}
use Rattle.rules.specs.Check.{Verdict}
use Rattle.rules.specs.Records.{after_read, after_append, after_commit, after_work}
use Rattle.rules.specs.State.{State, base, with_record, with_logged, with_pair, with_cell, with_entry}
use Rattle.rules.specs.Steps.{owes}
use Rattle.rules.specs.Table.{allows}

-- The new filter, and what adding an address gives, are the only ones that the filter allows.
pub record Exact {F : Type 0} (Φ : Ghosts F) : Type 0 where
  pub new : F
  pub add : F → ℕ → F
  pub fresh_is : (f : F) → Φ.fresh f → f ≡ new
  pub added_is : (f g : F) (a : ℕ) → Φ.added f a g → g ≡ add f a

-- The entry is still writing.
abbrev pub writingb : Status → Bool
writingb Writing = true
writingb Complete = false

module _ {F : Type 0} where
  -- The entry, if it is stamped with the place.
  abbrev pub stamped : ℕ → Option (Entry F) → Option (Entry F)
  stamped i None = None
  stamped i (Some e) = cond (e.stamp == i) (Some e) None

  -- The entry of a place, if the place is present. Place 0 is never present.
  unfoldable pub entry_at : ℕ → List (Entry F) → ℕ → Option (Entry F)
  entry_at slots ring i = cond (nat_lt 0 i) (stamped i (slice_get ring (i % slots))) None

  -- There is an entry and it is writing.
  abbrev pub writes : Option (Entry F) → Bool
  writes None = false
  writes (Some e) = writingb e.status

  -- The place is unfinished.
  abbrev pub pendingb : ℕ → List (Entry F) → ℕ → Bool
  pendingb slots ring i = writes (entry_at slots ring i)

  -- Begin's walk: from this place down, the first that is not unfinished.
  unfoldable pub settled_from : ℕ → List (Entry F) → ℕ → ℕ
  settled_from slots ring zero = zero
  settled_from slots ring (suc i) = cond (pendingb slots ring (suc i)) (settled_from slots ring i) (suc i)

  module _ (Φ : Ghosts F) where
    -- The check at one place: absent is overrun, meeting is conflict, else the walk goes on below,
    -- with the place before this one as the new start if this one is unfinished.
    abbrev pub check_at : F → ℕ → ℕ → ℕ → (ℕ → ℕ → Verdict) → Option (Entry F) → Verdict
    check_at reads place new compared below None = Err (Overrun compared)
    check_at reads place new compared below (Some e) = cond (Φ.meeting e.filter reads) (Err (Conflict place (compared + 1))) (below (cond (writingb e.status) (place - 1) new) (compared + 1))

    -- The check's walk over the n places above start, from the highest down: the new start and the number compared so far go along.
    unfoldable pub check_down : ℕ → List (Entry F) → F → ℕ → ℕ → ℕ → ℕ → Verdict
    check_down slots ring reads start zero new compared = Ok (record { start = new; compared = compared })
    check_down slots ring reads start (suc n) new compared = check_at reads (start + suc n) new compared (λ new' compared'. check_down slots ring reads start n new' compared') (entry_at slots ring (start + suc n))

    -- The check: overrun where the start lies further back than the ring reaches, else the walk.
    unfoldable pub verdict : ℕ → List (Entry F) → F → ℕ → ℕ → Verdict
    verdict slots ring reads index start = cond (nat_lt slots (index - start)) (Err (Overrun 0)) (check_down slots ring reads start (index - start) index 0)

    -- The entry is writing and its filter meets the write filter.
    abbrev pub blocks_at : F → Option (Entry F) → Bool
    blocks_at ws None = false
    blocks_at ws (Some e) = writingb e.status && Φ.meeting e.filter ws

    -- The wait's walk over the n places above start: the highest that blocks, if one does.
    unfoldable pub blocking_down : ℕ → List (Entry F) → F → ℕ → ℕ → Option ℕ
    blocking_down slots ring ws start zero = None
    blocking_down slots ring ws start (suc n) = cond (blocks_at ws (entry_at slots ring (start + suc n))) (Some (start + suc n)) (blocking_down slots ring ws start n)

-- A position found before, else n, if its address is the one sought.
abbrev pub or_here : Option ℕ → ℕ → Bool → Option ℕ
or_here (Some k) n here = Some k
or_here None n here = cond here (Some n) None

-- The first of the first n positions from `base` on that has the address.
unfoldable pub find : List ℕ → ℕ → ℕ → ℕ → Option ℕ
find addresses base a zero = None
find addresses base a (suc n) = or_here (find addresses base a n) n (slice_index addresses (base + n) == a)

-- Nothing was found.
abbrev pub noneb : Option ℕ → Bool
noneb None = true
noneb (Some k) = false

-- The first n addresses from `base` on lie below the size.
unfoldable pub inside_all : List ℕ → ℕ → ℕ → ℕ → Bool
inside_all addresses base size zero = true
inside_all addresses base size (suc n) = nat_lt (slice_index addresses (base + n)) size && inside_all addresses base size n

-- The address, where there is one, lies below the size.
abbrev pub insideb : ℕ → Option ℕ → Bool
insideb size None = true
insideb size (Some a) = nat_lt a size

-- The refusal, if the test says so, else the rest.
abbrev pub refuse_if : {X : Type 0} → Bool → Refusal → Result X Refusal → Result X Refusal
refuse_if b q rest = cond b (Err q) rest

module _ {F : Type 0} where
  -- Refused with the place to wait for, if there is one.
  abbrev pub waiting : TaskRecord F → Option ℕ → Result (TaskRecord F) Refusal
  waiting r None = Ok r
  waiting r (Some place) = Err (MustWait place)

  -- A record with all numbers but the start 0 and both filters new.
  abbrev pub blank : {Φ : Ghosts F} → Exact Φ → Phase → ℕ → TaskRecord F
  blank x phase start = record { phase = phase; start = start; place = 0; logged = 0; written = 0; reads = x.new; writes = x.new }

module _ {C : Type 0} where
  -- The answer of a refused call.
  abbrev pub refusing : (act : Act C) → Refusal → ActReply act
  refusing begin q = Err q
  refusing (read a) q = Err (Refused q)
  refusing (write a c) q = Err q
  refusing commit q = Err (Refused q)
  refusing work q = Err q
  refusing quit q = Err q

module _ {F C : Type 0} where
  -- The arrays and the memory have the lengths that the engine's record says.
  unfoldable pub fitsb : State F C → Bool
  fitsb s = length s.ring == s.slots && (length s.table == s.tasks && (length s.addresses == s.tasks * s.pairs && (length s.cells == s.tasks * s.pairs && length s.memory == s.size)))

  -- The rules for Open and Committed records alike.
  abbrev pub logb : State F C → ℕ → TaskRecord F → Bool
  logb s t r = nat_le r.logged s.pairs && (nat_le r.written r.logged && (nat_le r.start s.index && inside_all s.addresses (base s t) s.size r.logged))

  -- The record keeps the rules of this phase.
  abbrev pub phaseb : State F C → ℕ → TaskRecord F → Phase → Bool
  phaseb s t r Idle = true
  phaseb s t r Open = logb s t r && (r.place == 0 && r.written == 0)
  phaseb s t r Committed = logb s t r && (nat_le 1 r.logged && (nat_lt r.start r.place && (nat_le r.place s.index && pendingb s.slots s.ring r.place)))

  -- The record of task t is whole.
  unfoldable pub wholeb : State F C → ℕ → TaskRecord F → Bool
  wholeb s t r = phaseb s t r r.phase

  -- The records from task t on are whole.
  unfoldable pub whole_from : State F C → ℕ → List (TaskRecord F) → Bool
  whole_from s t [] = true
  whole_from s t (r ∷ rs) = wholeb s t r && whole_from s (suc t) rs

  module _ (Φ : Ghosts F) where
    -- The place that a work of this record must wait for.
    unfoldable pub wait_for : State F C → TaskRecord F → Option ℕ
    wait_for s r = cond (nat_lt r.written r.logged) (blocking_down Φ s.slots s.ring r.writes r.start (r.place - 1 - r.start)) (cond (pendingb s.slots s.ring (r.place - 1)) (Some (r.place - 1)) None)

    -- The refusals that belong to one call: 23 to 26.
    unfoldable pub own : State F C → ℕ → TaskRecord F → Act C → Result (TaskRecord F) Refusal
    own s t r begin = Ok r
    own s t r (read a) = Ok r
    own s t r (write a c) = refuse_if (r.logged == s.pairs && noneb (find s.addresses (base s t) a r.logged)) LogFull (Ok r)
    own s t r commit = refuse_if (nat_lt 0 r.logged && s.index == s.last) PlacesSpent (refuse_if (nat_lt 0 r.logged && pendingb s.slots s.ring (s.index + 2 - s.slots)) RingFull (Ok r))
    own s t r work = waiting r (wait_for s r)
    own s t r quit = Ok r

    -- The refusals that the caller's record has, by number: 21, 22 and those of the call. No record means no such task.
    unfoldable pub judge_record : State F C → ℕ → Act C → Option (TaskRecord F) → Result (TaskRecord F) Refusal
    judge_record s t act None = Err TaskNumber
    judge_record s t act (Some r) = refuse_if (not (wholeb s t r)) Torn (refuse_if (not (allows r.phase (kind act))) PhaseForbids (own s t r act))

    -- A task's call is refused, or accepted with the caller's record: 6, 7, 8, then what the record has.
    unfoldable pub judge : State F C → ℕ → Act C → Result (TaskRecord F) Refusal
    judge s t act = refuse_if (not (fitsb s)) ArrayLength (refuse_if (nat_le s.tasks t) TaskNumber (refuse_if (not (insideb s.size (named act))) Address (judge_record s t act (slice_get s.table t))))

  -- A read of a logged cell answers the logged cell, compared 0, and changes nothing. Here and below, arrays that fit have the cell.
  abbrev pub read_logged : State F C → Option C → Result (C × ℕ) Denial × State F C
  read_logged s None = (Err (Refused ArrayLength), s)
  read_logged s (Some c) = (Ok (c, 0), s)

  -- A read that passed its check answers the memory's cell.
  abbrev pub read_memory : State F C → State F C → ℕ → Option C → Result (C × ℕ) Denial × State F C
  read_memory s s' compared None = (Err (Refused ArrayLength), s)
  read_memory s s' compared (Some c) = (Ok (c, compared), s')

  -- A work with cells left writes the next logged cell.
  abbrev pub writing_back : State F C → ℕ → TaskRecord F → Option C → Result Worked Refusal × State F C
  writing_back s t r None = (Err ArrayLength, s)
  writing_back s t r (Some c) = (Ok (Left (r.logged - (r.written + 1))), with_cell s t (after_work r) (slice_index s.addresses (base s t + r.written)) c)

  module _ (Φ : Ghosts F) (x : Exact Φ) where
    -- The caller's record is emptied.
    abbrev pub emptied : State F C → ℕ → State F C
    emptied s t = with_record s t (blank x Idle 0)

    -- A read after its check.
    abbrev pub read_checked : State F C → ℕ → TaskRecord F → ℕ → F → Verdict → Result (C × ℕ) Denial × State F C
    read_checked s t r a reads (Ok passed) = read_memory s (with_record s t (after_read r passed.start reads)) passed.compared (slice_get s.memory a)
    read_checked s t r a reads (Err abort) = (Err (Aborted abort), emptied s t)

    -- A read once the log is looked through: any other read adds the address to the read filter and checks.
    abbrev pub reading : State F C → ℕ → TaskRecord F → ℕ → Option ℕ → Result (C × ℕ) Denial × State F C
    reading s t r a (Some k) = read_logged s (slice_get s.cells (base s t + k))
    reading s t r a None = read_checked s t r a (x.add r.reads a) (verdict Φ s.slots s.ring (x.add r.reads a) s.index r.start)

    -- A write once the log is looked through: it replaces the cell, or appends the pair and adds the address to the write filter.
    abbrev pub writing : State F C → ℕ → TaskRecord F → ℕ → C → Option ℕ → Result ℕ Refusal × State F C
    writing s t r a c (Some k) = (Ok r.logged, with_logged s (base s t + k) c)
    writing s t r a c None = (Ok (r.logged + 1), with_pair s t (after_append r (x.add r.writes a)) (base s t + r.logged) a c)

    -- A commit after its check: it raises the index by 1 and fills that place's entry.
    abbrev pub committing : State F C → ℕ → TaskRecord F → Verdict → Result (Option ℕ × ℕ) Denial × State F C
    committing s t r (Ok passed) = (Ok (Some (s.index + 1), passed.compared), with_entry s (s.index + 1) (s.index + 1) (record { stamp = s.index + 1; filter = r.writes; status = Writing }) t (after_commit r passed.start (s.index + 1)))
    committing s t r (Err abort) = (Err (Aborted abort), emptied s t)

    -- A work with none left sets the entry complete and empties the record. A whole record has the entry.
    abbrev pub finishing : State F C → ℕ → TaskRecord F → Option (Entry F) → Result Worked Refusal × State F C
    finishing s t r None = (Err Torn, s)
    finishing s t r (Some e) = (Ok (Done r.place), with_entry s s.index r.place (record { stamp = e.stamp; filter = e.filter; status = Complete }) t (blank x Idle 0))

    -- What an accepted call answers and changes, by the caller's record.
    unfoldable pub accepted : State F C → ℕ → TaskRecord F → (act : Act C) → ActReply act × State F C
    accepted s t r begin = (Ok (settled_from s.slots s.ring s.index), with_record s t (blank x Open (settled_from s.slots s.ring s.index)))
    accepted s t r (read a) = reading s t r a (find s.addresses (base s t) a r.logged)
    accepted s t r (write a c) = writing s t r a c (find s.addresses (base s t) a r.logged)
    accepted s t r commit = cond (nat_lt 0 r.logged) (committing s t r (verdict Φ s.slots s.ring r.reads s.index r.start)) (Ok (None, 0), emptied s t)
    accepted s t r work = cond (nat_lt r.written r.logged) (writing_back s t r (slice_get s.cells (base s t + r.written))) (finishing s t r (entry_at s.slots s.ring r.place))
    accepted s t r quit = (Ok r.logged, emptied s t)

    -- A refused call changes nothing.
    abbrev pub answered : State F C → ℕ → (act : Act C) → Result (TaskRecord F) Refusal → ActReply act × State F C
    answered s t act (Err q) = (refusing act q, s)
    answered s t act (Ok r) = accepted s t r act

    -- The answer to any call, and the state after it.
    unfoldable pub play : State F C → (call : Call C) → Reply call × State F C
    play s (by t act) = answered s t act (judge Φ s t act)
    play s outstanding = (refuse_if (not (fitsb s)) ArrayLength (refuse_if (not (whole_from s 0 s.table)) Torn (Ok (sum_by owes s.table))), s)
