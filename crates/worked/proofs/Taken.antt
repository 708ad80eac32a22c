-- Over the small filter the played step is a step: the rules leave no call of a task without an answer.
use Rattle.std.proofs.Common.{◌≡◌, ℕ, ◌+◌, ◌<◌, Bool, true, false, cond, ltb, List, length, Some, None, Ok, Err, Option, Result, refl, ap, inl, inr, ⊎_elim, arith}
use Rattle.std.proofs.lemmas.Bool.{cases_Bool, cases_lt, ltb-true, ltb-false}
use Rattle.std.specs.List.{slice_get}
use Rattle.cells.specs.declared.refusal.Refusal.{Refusal}
use Rattle.cells.specs.declared.refusal.Refusal.TheVariants.{ArrayLength, TaskNumber, Address, Torn, PhaseForbids}
use Rattle.filters.specs.contracts.small.SmallFilter.TheImpl.{ghosts}
use Rattle.filters.specs.declared.small.Small.{Small}
use Rattle.rules.specs.declared.answer.Denial.{Denial}
use Rattle.rules.specs.declared.answer.Worked.{Worked}
use Rattle.rules.specs.declared.ring.Entry.{Entry}
use Rattle.rules.specs.declared.table.CallKind.TheVariants.{Read, Commit}
use Rattle.rules.specs.declared.table.Phase.{Phase}
use Rattle.rules.specs.declared.table.Phase.TheVariants.{Idle, Open}
use Rattle.rules.specs.declared.table.TaskRecord.{TaskRecord}
use Rattle.rules.specs.Calls.{Act, begin, read, write, commit, work, quit, by, kind}
use Rattle.rules.specs.Check.{Verdict, Checks}
use Rattle.rules.specs.Records.{Blank, after_read}
use Rattle.rules.specs.State.{State, Fits, base, with_record}
use Rattle.rules.specs.Steps.{Empties, ReadChecks, CommitChecks, ActStep, Step}
use Rattle.rules.specs.Table.{allows}
use Rattle.rules.specs.Torn.{Whole, OpenRules, CommittedRules}
use Rattle.rules.proofs.Phases.{open_rules, committed_rules}
use Rattle.rules.proofs.Rooms.{log_room}
use Rattle.forced.specs.Exactness.{add_bit, small_exact}
use Rattle.forced.specs.Play.{entry_at, settled_from, verdict, find, noneb, judge, blank, refusing, writing_back, read_logged, read_memory, emptied, read_checked, reading, writing, committing, finishing, accepted, answered, play}
use Rattle.forced.proofs.Deciders.{confirmed, at_nth, nth_at, at_within, entry_found, entry_present, decides_fits, decides_whole}
use Rattle.forced.proofs.Finds.{decides_lacks}
use Rattle.worked.proofs.Refused.{accepts, record_is, refuses}
use Rattle.worked.proofs.Walked.{settled_from_lem, found_first, verdict_checks}

-- The blank record is blank.
blank_record : (phase : Phase) (start : ℕ) → Blank ghosts phase start (blank small_exact phase start)
blank_record phase start = record { phase_is = refl; start_is = refl; place = refl; logged = refl; written = refl; reads = refl; writes = refl }

-- A look-up within a list is not in vain.
found_within : {X : Type 0} {A : Type 0} (xs : List X) (i : ℕ) → i < length xs → slice_get xs i ≡ None → A
found_within xs i short none =
    let there = at_nth (at_within xs i short).1 in
    let z : ◌≡◌ {A = ℕ} 0 1 = cc in
    absurd (omega arith)

module _ (s : State Small ℕ) (t : ℕ) where
  -- The caller's record is emptied.
  empties : Empties ghosts s t (emptied ghosts small_exact s t)
  empties = record { task = blank small_exact Idle 0; emptied = blank_record Idle 0; after = refl }

  module _ (act : Act ℕ) (r : TaskRecord Small) (is : judge ghosts s t act ≡ Ok r) where
    -- What an accepted call has found right.
    fits : Fits s
    fits = confirmed (decides_fits s) (accepts s t act r is ArrayLength)

    known : t < s.tasks
    known = ⊎_elim (λ less. less) (λ more. absurd (accepts s t act r is TaskNumber more)) (cases_lt t s.tasks)

    whole : Whole s t r
    whole = confirmed (decides_whole s t r) (λ torn. accepts s t act r is Torn (record { task = r; there = record_is s t act r is; holds = torn }))

    allowed : allows r.phase (kind act) ≡ true
    allowed = ⊎_elim (λ e. e) (λ e. absurd (accepts s t act r is PhaseForbids (record { task = r; there = record_is s t act r is; holds = e }))) (cases_Bool (allows r.phase (kind act)))

    -- A position of the log lies within the log arrays.
    within_cells : (k : ℕ) → k < s.pairs → base s t + k < length s.cells
    within_cells k short = omega (arith, log_room t s.tasks s.pairs (k + 1) known (omega arith), fits.cells)

  -- The rules that a read, a commit and a work find their records to keep.
  read_rules : (a : ℕ) (r : TaskRecord Small) → judge ghosts s t (read a) ≡ Ok r → OpenRules s.pairs s.size s.index s.addresses (base s t) r
  read_rules a r is = open_rules s.pairs s.size s.index s.slots s.ring s.addresses (base s t) r Read refl refl r.phase (allowed (read a) r is) (whole (read a) r is)

  commit_rules : (r : TaskRecord Small) → judge ghosts s t commit ≡ Ok r → OpenRules s.pairs s.size s.index s.addresses (base s t) r
  commit_rules r is = open_rules s.pairs s.size s.index s.slots s.ring s.addresses (base s t) r Commit refl refl r.phase (allowed commit r is) (whole commit r is)

  work_rules : (r : TaskRecord Small) → judge ghosts s t work ≡ Ok r → CommittedRules s.pairs s.size s.index s.slots s.ring s.addresses (base s t) r
  work_rules r is = committed_rules s.pairs s.size s.index s.slots s.ring s.addresses (base s t) r r.phase (allowed work r is) (whole work r is)

  -- A read is taken: from the log, from memory, or denied.
  takes_read : (a : ℕ) (r : TaskRecord Small) → judge ghosts s t (read a) ≡ Ok r → (o : Option ℕ) → find s.addresses (base s t) a r.logged ≡ o → ActStep ghosts s t (read a) (reading ghosts small_exact s t r a o).0 (reading ghosts small_exact s t r a o).1
  takes_read a r is (Some k) found = go (slice_get s.cells (base s t + k)) refl
    where
      go : (c : Option ℕ) → slice_get s.cells (base s t + k) ≡ c → ActStep ghosts s t (read a) (read_logged s c).0 (read_logged s c).1
      go None none = found_within s.cells (base s t + k) (within_cells (read a) r is k (omega (arith, (found_first s.addresses (base s t) a r.logged k found).within, (read_rules a r is).log.logged))) none
      go (Some c) here = inl (record { accepts = accepts s t (read a) r is; task = r; there = record_is s t (read a) r is; position = k; first = found_first s.addresses (base s t) a r.logged k found; cell = nth_at s.cells (base s t + k) c here; compared = refl; after = refl })
  takes_read a r is None found = by_verdict (verdict ghosts s.slots s.ring (add_bit r.reads a) s.index r.start) (verdict_checks ghosts s.slots s.ring (add_bit r.reads a) s.index r.start (read_rules a r is).log.start)
    where
      checks : (v : Verdict) → Checks ghosts s.slots s.ring (add_bit r.reads a) s.index r.start v → ReadChecks ghosts s t a v
      checks v c = record { accepts = accepts s t (read a) r is; task = r; there = record_is s t (read a) r is; new = (decides_lacks s.addresses (base s t) a r.logged).0 (ap noneb found); reads = add_bit r.reads a; widened = refl; checks = c }

      by_verdict : (v : Verdict) → Checks ghosts s.slots s.ring (add_bit r.reads a) s.index r.start v → ActStep ghosts s t (read a) (read_checked ghosts small_exact s t r a (add_bit r.reads a) v).0 (read_checked ghosts small_exact s t r a (add_bit r.reads a) v).1
      by_verdict (Ok passed) c = go (slice_get s.memory a) refl
        where
          inside : a < length s.memory
          inside = ⊎_elim (λ less. omega (arith, (fits (read a) r is).memory)) (λ more. absurd (accepts s t (read a) r is Address (λ less. omega arith))) (cases_lt a s.size)

          go : (m : Option ℕ) → slice_get s.memory a ≡ m → ActStep ghosts s t (read a) (read_memory s (with_record s t (after_read r passed.start (add_bit r.reads a))) passed.compared m).0 (read_memory s (with_record s t (after_read r passed.start (add_bit r.reads a))) passed.compared m).1
          go None none = found_within s.memory a inside none
          go (Some m) here = inr (record { start = passed.start; checked = checks (Ok passed) c; cell = nth_at s.memory a m here; after = refl })
      by_verdict (Err abort) c = (checks (Err abort) c, empties)

  -- A write is taken: it replaces or appends.
  takes_write : (a c : ℕ) (r : TaskRecord Small) → judge ghosts s t (write a c) ≡ Ok r → (o : Option ℕ) → find s.addresses (base s t) a r.logged ≡ o → ActStep ghosts s t (write a c) (writing ghosts small_exact s t r a c o).0 (writing ghosts small_exact s t r a c o).1
  takes_write a c r is (Some k) found = inl (record { accepts = accepts s t (write a c) r is; task = r; there = record_is s t (write a c) r is; position = k; first = found_first s.addresses (base s t) a r.logged k found; counted = refl; after = refl })
  takes_write a c r is None found = inr (record { accepts = accepts s t (write a c) r is; task = r; there = record_is s t (write a c) r is; new = (decides_lacks s.addresses (base s t) a r.logged).0 (ap noneb found); writes = add_bit r.writes a; widened = refl; counted = refl; after = refl })

  -- A commit is taken: with nothing logged, with a place, or denied.
  abbrev committed : TaskRecord Small → Bool → Result (Option ℕ × ℕ) Denial × State Small ℕ
  committed r b = cond b (committing ghosts small_exact s t r (verdict ghosts s.slots s.ring r.reads s.index r.start)) (Ok (None, 0), emptied ghosts small_exact s t)

  takes_commit : (r : TaskRecord Small) → judge ghosts s t commit ≡ Ok r → (b : Bool) → ltb 0 r.logged ≡ b → ActStep ghosts s t commit (committed r b).0 (committed r b).1
  takes_commit r is false none = record { accepts = accepts s t commit r is; task = r; there = record_is s t commit r is; none = omega (arith, ltb-false 0 r.logged none); counted = refl; empties = empties }
  takes_commit r is true some = by_verdict (verdict ghosts s.slots s.ring r.reads s.index r.start) (verdict_checks ghosts s.slots s.ring r.reads s.index r.start (commit_rules r is).log.start)
    where
      checks : (v : Verdict) → Checks ghosts s.slots s.ring r.reads s.index r.start v → CommitChecks ghosts s t v
      checks v c = record { accepts = accepts s t commit r is; task = r; there = record_is s t commit r is; some = ltb-true 0 r.logged some; checks = c }

      by_verdict : (v : Verdict) → Checks ghosts s.slots s.ring r.reads s.index r.start v → ActStep ghosts s t commit (committing ghosts small_exact s t r v).0 (committing ghosts small_exact s t r v).1
      by_verdict (Ok passed) c = record { start = passed.start; checked = checks (Ok passed) c; next = refl; after = refl }
      by_verdict (Err abort) c = (checks (Err abort) c, empties)

  -- A work is taken: it writes back or it finishes.
  abbrev worked : TaskRecord Small → Bool → Result Worked Refusal × State Small ℕ
  worked r b = cond b (writing_back s t r (slice_get s.cells (base s t + r.written))) (finishing ghosts small_exact s t r (entry_at s.slots s.ring r.place))

  takes_work : (r : TaskRecord Small) → judge ghosts s t work ≡ Ok r → (b : Bool) → ltb r.written r.logged ≡ b → ActStep ghosts s t work (worked r b).0 (worked r b).1
  takes_work r is true more = go (slice_get s.cells (base s t + r.written)) refl
    where
      left : r.written < r.logged
      left = ltb-true r.written r.logged more

      go : (c : Option ℕ) → slice_get s.cells (base s t + r.written) ≡ c → ActStep ghosts s t work (writing_back s t r c).0 (writing_back s t r c).1
      go None none = found_within s.cells (base s t + r.written) (within_cells work r is r.written (omega (arith, left, (work_rules r is).log.logged))) none
      go (Some c) here = record { accepts = accepts s t work r is; task = r; there = record_is s t work r is; more = left; cell = c; logged = nth_at s.cells (base s t + r.written) c here; counted = refl; after = refl }
  takes_work r is false none = go (entry_at s.slots s.ring r.place) refl
    where
      go : (o : Option (Entry Small)) → entry_at s.slots s.ring r.place ≡ o → ActStep ghosts s t work (finishing ghosts small_exact s t r o).0 (finishing ghosts small_exact s t r o).1
      go None absent =
          let there = entry_found (work_rules r is).unfinished.present in
          let z : ◌≡◌ {A = ℕ} 0 1 = cc in
          absurd (omega arith)
      go (Some e) here = record { accepts = accepts s t work r is; task = r; there = record_is s t work r is; none = omega (arith, ltb-false r.written r.logged none, (work_rules r is).log.written); named = refl; entry = e; present = entry_present r.place e here; idle = blank small_exact Idle 0; emptied = blank_record Idle 0; after = refl }

  -- An accepted call is taken.
  takes : (act : Act ℕ) (r : TaskRecord Small) → judge ghosts s t act ≡ Ok r → ActStep ghosts s t act (accepted ghosts small_exact s t r act).0 (accepted ghosts small_exact s t r act).1
  unfolding accepted
  takes begin r is = record { accepts = accepts s t begin r is; settled = settled_from_lem s.slots s.ring s.index; task = blank small_exact Open (settled_from s.slots s.ring s.index); opened = blank_record Open (settled_from s.slots s.ring s.index); after = refl }
  takes (read a) r is = takes_read a r is (find s.addresses (base s t) a r.logged) refl
  takes (write a c) r is = takes_write a c r is (find s.addresses (base s t) a r.logged) refl
  takes commit r is = takes_commit r is (ltb 0 r.logged) refl
  takes work r is = takes_work r is (ltb r.written r.logged) refl
  takes quit r is = record { accepts = accepts s t quit r is; task = r; there = record_is s t quit r is; counted = refl; empties = empties }

  -- A refused call is refused by the rules.
  refused : (act : Act ℕ) (q : Refusal) → judge ghosts s t act ≡ Err q → ActStep ghosts s t act (refusing act q) s
  refused begin q is = record { refuses = refuses s t begin q is; after = refl }
  refused (read a) q is = record { refuses = refuses s t (read a) q is; after = refl }
  refused (write a c) q is = record { refuses = refuses s t (write a c) q is; after = refl }
  refused commit q is = record { refuses = refuses s t commit q is; after = refl }
  refused work q is = record { refuses = refuses s t work q is; after = refl }
  refused quit q is = record { refuses = refuses s t quit q is; after = refl }

  -- What is played is a step.
  pub steps : (act : Act ℕ) → Step ghosts s (by t act) (play ghosts small_exact s (by t act)).0 (play ghosts small_exact s (by t act)).1
  unfolding play
  steps act = go (judge ghosts s t act) refl
    where
      go : (o : Result (TaskRecord Small) Refusal) → judge ghosts s t act ≡ o → ActStep ghosts s t act (answered ghosts small_exact s t act o).0 (answered ghosts small_exact s t act o).1
      go (Err q) is = refused act q is
      go (Ok r) is = takes act r is
