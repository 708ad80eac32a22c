-- For a filter whose new value and whose adding are functions, the step is a function: the one that is played.
use Rattle.std.proofs.Common.{◌≡◌, ℕ, zero, suc, ◌+◌, ◌≤◌, not, ltb, List, [], ◌∷◌, Some, None, Ok, Err, Decides, sum_by, Option, Result, sym, refl, ap, ◌∙◌, subst, subst₂, inl, inr, arith, lit<}
use Rattle.std.proofs.lemmas.Bool.{cond-true, cond-false, lt-ltb, le-ltb, not_from_true}
use Rattle.std.proofs.lemmas.Bool.Decides.{Decides-and, Decides-not}
use Rattle.std.specs.List.{slice_get}
use Rattle.cells.specs.declared.refusal.Refusal.{Refusal}
use Rattle.cells.specs.declared.refusal.Refusal.TheVariants.{RingLength, TaskCount, LogLength, LastPlace, MemorySize, ArrayLength, TaskNumber, Address, BrokenLine, OutputFull, Torn, PhaseForbids, LogFull, PlacesSpent, RingFull, MustWait}
use Rattle.filters.specs.declared.filter.Filter.{Ghosts}
use Rattle.rules.specs.declared.answer.Denial.TheVariants.{Refused, Aborted}
use Rattle.rules.specs.declared.answer.Worked.TheVariants.{Left, Done}
use Rattle.rules.specs.declared.ring.Entry.{Entry}
use Rattle.rules.specs.declared.ring.Status.TheVariants.{Writing, Complete}
use Rattle.rules.specs.declared.table.Phase.{Phase}
use Rattle.rules.specs.declared.table.Phase.TheVariants.{Idle, Open}
use Rattle.rules.specs.declared.table.TaskRecord.{TaskRecord}
use Rattle.rules.specs.Calls.{Act, begin, read, write, commit, work, quit, Call, by, outstanding, ActReply, Reply}
use Rattle.rules.specs.Check.{Verdict}
use Rattle.rules.specs.Faults.{Accepts, Refuses}
use Rattle.rules.specs.Lists.{At}
use Rattle.rules.specs.Places.{Present}
use Rattle.forced.specs.Play.{Exact, entry_at, settled_from, verdict, fitsb, wholeb, whole_from, refuse_if, judge, blank, refusing, read_logged, read_memory, writing_back, emptied, read_checked, reading, writing, committing, finishing, accepted, answered, play}
use Rattle.rules.specs.Records.{Blank, after_read, after_append, after_commit}
use Rattle.rules.specs.State.{State, Fits, base, with_record, with_pair, with_entry}
use Rattle.rules.specs.Steps.{owes, RefusedStep, Empties, Begins, ReadChecks, CommitChecks, CommitTaken, ActStep, Step}
use Rattle.rules.specs.Torn.{Whole}
use Rattle.forced.proofs.Deciders.{refuted, confirmed, decides_as, at_nth, entry_found, decides_fits, decides_whole}
use Rattle.forced.proofs.Finds.{find_none, find_first, settled_is}
use Rattle.forced.proofs.Judged.{record_there, judge_accepts, judge_refuses}
use Rattle.forced.proofs.Verdicts.{verdict_is}

module _ {F C : Type 0} (s : State F C) where
  -- All records of a list, from task t on, are whole.
  abbrev AllWhole : ℕ → List (TaskRecord F) → Type 0
  AllWhole t rs = (k : ℕ) (r : TaskRecord F) → At rs k r → Whole s (t + k) r

  -- The first is whole and so are the rest.
  whole_cons : (t : ℕ) (r : TaskRecord F) (rs : List (TaskRecord F)) → Whole s t r × AllWhole (suc t) rs → AllWhole t (r ∷ rs)
  whole_cons t r rs both zero x there =
      let here : t ≡ t + 0 = omega arith in
      subst₂ (λ (i : ℕ) (y : TaskRecord F). Whole s i y) here (sym there.is) both.0
  whole_cons t r rs both (suc k) x there =
      let next : suc t + k ≡ t + suc k = omega arith in
      subst (λ (i : ℕ). Whole s i x) next (both.1 k x (record { within = omega (arith, there.within); is = there.is }))

  -- Conversely, if all are whole then the first is and the rest are.
  whole_parts : (t : ℕ) (r : TaskRecord F) (rs : List (TaskRecord F)) → AllWhole t (r ∷ rs) → Whole s t r × AllWhole (suc t) rs
  whole_parts t r rs all =
      let here : t + 0 ≡ t = omega arith in (
        subst (λ (i : ℕ). Whole s i r) here (all 0 r (record { within = omega arith; is = refl })),
        λ k x there.
            let next : t + suc k ≡ suc t + k = omega arith in
            subst (λ (i : ℕ). Whole s i x) next (all (suc k) x (record { within = omega (arith, there.within); is = there.is })),
      )

  -- The test of all records decides that all are whole.
  decides_all : (t : ℕ) (rs : List (TaskRecord F)) → Decides (whole_from s t rs) (AllWhole t rs)
  unfolding whole_from
  decides_all t [] = (λ e k r there. absurd (omega (arith, there.within)), λ all. refl)
  decides_all t (r ∷ rs) = decides_as (Decides-and (wholeb s t r) (whole_from s (suc t) rs) (decides_whole s t r) (decides_all (suc t) rs)) (whole_cons t r rs) (whole_parts t r rs)

-- A blank record is one.
blank_is : {F : Type 0} {Φ : Ghosts F} (x : Exact Φ) (phase : Phase) (start : ℕ) (r : TaskRecord F) → Blank Φ phase start r → r ≡ blank x phase start
blank_is x phase start r b = λ i. record { phase = b.phase_is i; start = b.start_is i; place = b.place i; logged = b.logged i; written = b.written i; reads = x.fresh_is r.reads b.reads i; writes = x.fresh_is r.writes b.writes i }

module _ {F C : Type 0} (Φ : Ghosts F) (x : Exact Φ) (s : State F C) where
  -- A state in which the caller's record is emptied is one.
  emptied_is : (t : ℕ) (s' : State F C) → Empties Φ s t s' → emptied Φ x s t ≡ s'
  emptied_is t s' e = ap (λ (r : TaskRecord F). with_record s t r) (sym (blank_is x Idle 0 e.task e.emptied)) ∙ sym e.after

  module _ (t : ℕ) where
    -- What is played of a task's call.
    abbrev played : (act : Act C) → ActReply act × State F C
    played act = answered Φ x s t act (judge Φ s t act)

    -- A refused call answers its number and changes nothing.
    refused_played : (act : Act C) (q : Refusal) (s' : State F C) → RefusedStep Φ s (by t act) q s' → played act ≡ (refusing act q, s')
    refused_played act q s' step = ap (λ (o : Result (TaskRecord F) Refusal). answered Φ x s t act o) (judge_refuses Φ s t act q step.refuses) ∙ (λ i. (refusing act q, sym step.after i))

    -- An accepted call goes by the caller's record.
    accepted_played : (act : Act C) (r : TaskRecord F) → At s.table t r → Accepts Φ s (by t act) → played act ≡ accepted Φ x s t r act
    accepted_played act r there accepts = ap (λ (o : Result (TaskRecord F) Refusal). answered Φ x s t act o) (judge_accepts Φ s t r there act accepts)

    -- An accepted begin opens the record at the start of the walk.
    begin_played : (start : ℕ) (s' : State F C) → Begins Φ s t start s' → played begin ≡ (Ok start, s')
    unfolding accepted
    begin_played start s' step =
        let found = record_there Φ s t begin (λ q low fault. step.accepts q fault) in
        let e = settled_is s.index start step.settled in
        let after : with_record s t (blank x Open (settled_from s.slots s.ring s.index)) ≡ s' =
        ap (λ (n : ℕ). with_record s t (blank x Open n)) e ∙ ap (λ (r : TaskRecord F). with_record s t r) (sym (blank_is x Open start step.task step.opened)) ∙ sym step.after in
        accepted_played begin found.0 found.1 step.accepts ∙ (λ i. (Ok (e i), after i))

    -- A read that checks goes by the verdict.
    read_checked_lem : (a : ℕ) (v : Verdict) (step : ReadChecks Φ s t a v) → played (read a) ≡ read_checked Φ x s t step.task a step.reads v
    unfolding accepted
    read_checked_lem a v step =
        let r = step.task in
        accepted_played (read a) r step.there step.accepts ∙
        ap (λ (o : Option ℕ). reading Φ x s t r a o) (find_none s.addresses (base s t) a r.logged step.new) ∙
        ap (λ (f : F). read_checked Φ x s t r a f (verdict Φ s.slots s.ring f s.index r.start)) (sym (x.added_is r.reads step.reads a step.widened)) ∙
        ap (λ (w : Verdict). read_checked Φ x s t r a step.reads w) (verdict_is Φ s.slots s.ring step.reads r.start s.index v step.checks)

    -- A read is played: from the log, from memory, or denied.
    read_played : (a : ℕ) (reply : ActReply (read a)) (s' : State F C) → ActStep Φ s t (read a) reply s' → played (read a) ≡ (reply, s')
    unfolding accepted
    read_played a (Ok answer) s' (inl step) =
        let r = step.task in
        accepted_played (read a) r step.there step.accepts ∙
        ap (λ (o : Option ℕ). reading Φ x s t r a o) (find_first s.addresses (base s t) a r.logged step.position step.first) ∙
        ap (λ (o : Option C). read_logged s o) (at_nth step.cell) ∙
        (λ i. (Ok (answer.0, sym step.compared i), sym step.after i))
    read_played a (Ok answer) s' (inr step) =
        let checked = step.checked in
        read_checked_lem a (Ok (record { start = step.start; compared = answer.1 })) checked ∙
        ap (λ (o : Option C). read_memory s (with_record s t (after_read checked.task step.start checked.reads)) answer.1 o) (at_nth step.cell) ∙
        (λ i. (Ok answer, sym step.after i))
    read_played a (Err (Refused q)) s' step = refused_played (read a) q s' step
    read_played a (Err (Aborted abort)) s' step = read_checked_lem a (Err abort) step.0 ∙ (λ i. (Err (Aborted abort), emptied_is t s' step.1 i))

    -- A write is played: it replaces, it appends, or it is refused.
    write_played : (a : ℕ) (c : C) (reply : ActReply (write a c)) (s' : State F C) → ActStep Φ s t (write a c) reply s' → played (write a c) ≡ (reply, s')
    unfolding accepted
    write_played a c (Ok count) s' (inl step) =
        let r = step.task in
        accepted_played (write a c) r step.there step.accepts ∙
        ap (λ (o : Option ℕ). writing Φ x s t r a c o) (find_first s.addresses (base s t) a r.logged step.position step.first) ∙
        (λ i. (Ok (sym step.counted i), sym step.after i))
    write_played a c (Ok count) s' (inr step) =
        let r = step.task in
        let after : with_pair s t (after_append r (x.add r.writes a)) (base s t + r.logged) a c ≡ s' =
        ap (λ (f : F). with_pair s t (after_append r f) (base s t + r.logged) a c) (sym (x.added_is r.writes step.writes a step.widened)) ∙ sym step.after in
        accepted_played (write a c) r step.there step.accepts ∙
        ap (λ (o : Option ℕ). writing Φ x s t r a c o) (find_none s.addresses (base s t) a r.logged step.new) ∙
        (λ i. (Ok (sym step.counted i), after i))
    write_played a c (Err q) s' step = refused_played (write a c) q s' step

    -- A commit that checks goes by the verdict.
    commit_checked : (v : Verdict) (step : CommitChecks Φ s t v) → played commit ≡ committing Φ x s t step.task v
    unfolding accepted
    commit_checked v step =
        let r = step.task in
        accepted_played commit r step.there step.accepts ∙
        cond-true (ltb 0 r.logged) (committing Φ x s t r (verdict Φ s.slots s.ring r.reads s.index r.start)) (Ok (None, 0), emptied Φ x s t) (lt-ltb 0 r.logged step.some) ∙
        ap (λ (w : Verdict). committing Φ x s t r w) (verdict_is Φ s.slots s.ring r.reads r.start s.index v step.checks)

    -- An accepted commit is played, with a place or with none.
    commit_taken : (place : Option ℕ) (compared : ℕ) (s' : State F C) → CommitTaken Φ s t place compared s' → played commit ≡ (Ok (place, compared), s')
    unfolding accepted
    commit_taken None compared s' step =
        let r = step.task in
        let none : r.logged ≤ 0 = omega (arith, step.none) in
        accepted_played commit r step.there step.accepts ∙
        cond-false (ltb 0 r.logged) (committing Φ x s t r (verdict Φ s.slots s.ring r.reads s.index r.start)) (Ok (None, 0), emptied Φ x s t) (le-ltb 0 r.logged none) ∙
        (λ i. (Ok (None, sym step.counted i), emptied_is t s' step.empties i))
    commit_taken (Some place) compared s' step =
        let r = step.checked.task in
        let next = sym step.next in
        let after : with_entry s (s.index + 1) (s.index + 1) (record { stamp = s.index + 1; filter = r.writes; status = Writing }) t (after_commit r step.start (s.index + 1)) ≡ s' =
        ap (λ (p : ℕ). with_entry s p p (record { stamp = p; filter = r.writes; status = Writing }) t (after_commit r step.start p)) next ∙ sym step.after in
        commit_checked (Ok (record { start = step.start; compared = compared })) step.checked ∙ (λ i. (Ok (Some (next i), compared), after i))

    -- A commit is played: accepted or denied.
    commit_played : (reply : ActReply {C = C} commit) (s' : State F C) → ActStep Φ s t commit reply s' → played commit ≡ (reply, s')
    commit_played (Ok answer) s' step = commit_taken answer.0 answer.1 s' step
    commit_played (Err (Refused q)) s' step = refused_played commit q s' step
    commit_played (Err (Aborted abort)) s' step = commit_checked (Err abort) step.0 ∙ (λ i. (Err (Aborted abort), emptied_is t s' step.1 i))

    -- A work is played: it writes back, it finishes, or it is refused.
    work_played : (reply : ActReply {C = C} work) (s' : State F C) → ActStep Φ s t work reply s' → played work ≡ (reply, s')
    unfolding accepted
    work_played (Ok (Left left)) s' step =
        let r = step.task in
        accepted_played work r step.there step.accepts ∙
        cond-true (ltb r.written r.logged) (writing_back s t r (slice_get s.cells (base s t + r.written))) (finishing Φ x s t r (entry_at s.slots s.ring r.place)) (lt-ltb r.written r.logged step.more) ∙
        ap (λ (o : Option C). writing_back s t r o) (at_nth step.logged) ∙
        (λ i. (Ok (Left (sym step.counted i)), sym step.after i))
    work_played (Ok (Done place)) s' step =
        let r = step.task in
        let e = step.entry in
        let here = sym step.named in
        let none : r.logged ≤ r.written = omega (arith, step.none) in
        let present : Present s.slots s.ring r.place e = subst (λ (p : ℕ). Present s.slots s.ring p e) step.named step.present in
        let after : with_entry s s.index r.place (record { stamp = e.stamp; filter = e.filter; status = Complete }) t (blank x Idle 0) ≡ s' =
        ap (λ (p : ℕ). with_entry s s.index p (record { stamp = e.stamp; filter = e.filter; status = Complete }) t (blank x Idle 0)) here ∙
        ap (λ (idle : TaskRecord F). with_entry s s.index place (record { stamp = e.stamp; filter = e.filter; status = Complete }) t idle) (sym (blank_is x Idle 0 step.idle step.emptied)) ∙
        sym step.after in
        accepted_played work r step.there step.accepts ∙
        cond-false (ltb r.written r.logged) (writing_back s t r (slice_get s.cells (base s t + r.written))) (finishing Φ x s t r (entry_at s.slots s.ring r.place)) (le-ltb r.written r.logged none) ∙
        ap (λ (o : Option (Entry F)). finishing Φ x s t r o) (entry_found present) ∙
        (λ i. (Ok (Done (here i)), after i))
    work_played (Err q) s' step = refused_played work q s' step

    -- Every call of a task is played.
    act_played : (act : Act C) (reply : ActReply act) (s' : State F C) → ActStep Φ s t act reply s' → played act ≡ (reply, s')
    unfolding accepted
    act_played begin (Ok start) s' step = begin_played start s' step
    act_played begin (Err q) s' step = refused_played begin q s' step
    act_played (read a) reply s' step = read_played a reply s' step
    act_played (write a c) reply s' step = write_played a c reply s' step
    act_played commit reply s' step = commit_played reply s' step
    act_played work reply s' step = work_played reply s' step
    act_played quit (Ok count) s' step = accepted_played quit step.task step.there step.accepts ∙ (λ i. (Ok (sym step.counted i), emptied_is t s' step.empties i))
    act_played quit (Err q) s' step = refused_played quit q s' step

  -- What the asking for the outstanding count answers where nothing is wrong.
  abbrev total : Result ℕ Refusal
  total = Ok (sum_by owes s.table)

  -- What is left to check of the asking after refusal 6.
  abbrev after_fits : Result ℕ Refusal
  after_fits = refuse_if (not (whole_from s 0 s.table)) Torn total

  -- The answer to the asking.
  abbrev counting : Result ℕ Refusal
  counting = refuse_if (not (fitsb s)) ArrayLength after_fits

  -- Past refusal 6.
  past_fits : ((Fits s → ⊥) → ⊥) → counting ≡ after_fits
  past_fits fits = cond-false (not (fitsb s)) (Err ArrayLength) after_fits (refuted (not (fitsb s)) (Decides-not (fitsb s) (decides_fits s)) fits)

  -- A refused asking is refused with its number.
  count_refused : (q : Refusal) → Refuses Φ s outstanding q → counting ≡ Err q
  count_refused RingLength refuses = absurd refuses.fault
  count_refused TaskCount refuses = absurd refuses.fault
  count_refused LogLength refuses = absurd refuses.fault
  count_refused LastPlace refuses = absurd refuses.fault
  count_refused MemorySize refuses = absurd refuses.fault
  count_refused ArrayLength refuses = cond-true (not (fitsb s)) (Err ArrayLength) after_fits ((Decides-not (fitsb s) (decides_fits s)).1 refuses.fault)
  count_refused TaskNumber refuses = absurd refuses.fault
  count_refused Address refuses = absurd refuses.fault
  count_refused BrokenLine refuses = absurd refuses.fault
  count_refused OutputFull refuses = absurd refuses.fault
  count_refused Torn refuses =
      let t = refuses.fault.0 in
      let torn = refuses.fault.1 in
      let same : 0 + t ≡ t = omega arith in
      past_fits (refuses.earlier ArrayLength (lit< tt)) ∙
      cond-true (not (whole_from s 0 s.table)) (Err Torn) total ((Decides-not (whole_from s 0 s.table) (decides_all s 0 s.table)).1 (λ all. torn.holds (subst (λ (i : ℕ). Whole s i torn.task) same (all t torn.task torn.there))))
  count_refused PhaseForbids refuses = absurd refuses.fault
  count_refused LogFull refuses = absurd refuses.fault
  count_refused PlacesSpent refuses = absurd refuses.fault
  count_refused RingFull refuses = absurd refuses.fault
  count_refused (MustWait place) refuses = absurd refuses.fault

  -- An accepted asking is answered with the sum.
  count_accepted : Accepts Φ s outstanding → counting ≡ total
  count_accepted free =
      past_fits (free ArrayLength) ∙
      cond-false (not (whole_from s 0 s.table)) (Err Torn) total (not_from_true (whole_from s 0 s.table) ((decides_all s 0 s.table).1 whole))
    where
      whole : AllWhole s 0 s.table
      whole k r there =
          let same : k ≡ 0 + k = omega arith in
          subst (λ (i : ℕ). Whole s i r) same (confirmed (decides_whole s k r) (λ torn. free Torn (k, record { task = r; there = there; holds = torn })))

  -- The relation agrees with the function.
  pub plays : (call : Call C) (reply : Reply call) (s' : State F C) → Step Φ s call reply s' → play Φ x s call ≡ (reply, s')
  unfolding play
  plays (by t act) reply s' step = act_played t act reply s' step
  plays outstanding (Ok count) s' step = let e = count_accepted step.accepts ∙ ap (λ (n : ℕ). Ok n) (sym step.counted) in λ i. (e i, sym step.after i)
  plays outstanding (Err q) s' step = λ i. (count_refused q step.refuses i, sym step.after i)

  -- One call has one answer and one state after it.
  pub forced : (call : Call C) (r₁ r₂ : Reply call) (s₁ s₂ : State F C) → Step Φ s call r₁ s₁ → Step Φ s call r₂ s₂ → (r₁ ≡ r₂) × (s₁ ≡ s₂)
  forced call r₁ r₂ s₁ s₂ one two =
      let e : ◌≡◌ {A = Reply call × State F C} (r₁, s₁) (r₂, s₂) = sym (plays call r₁ s₁ one) ∙ plays call r₂ s₂ two in
      (ap (λ (p : Reply call × State F C). p.0) e, ap (λ (p : Reply call × State F C). p.1) e)
