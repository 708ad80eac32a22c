-- From what holds to the third statement: counted and never stuck.
use Rattle.std.proofs.Common.{◌≡◌, ℕ, ◌+◌, ◌-◌, ◌<◌, Ok, Err, sum_by, Result, ap, ◌∙◌, arith}
use Rattle.cells.specs.declared.refusal.Refusal.{Refusal}
use Rattle.cells.specs.declared.refusal.Refusal.TheVariants.{RingLength, TaskCount, LogLength, LastPlace, MemorySize, ArrayLength, TaskNumber, Address, BrokenLine, OutputFull, Torn, PhaseForbids, LogFull, PlacesSpent, RingFull, MustWait}
use Rattle.filters.specs.declared.filter.Filter.{Ghosts}
use Rattle.rules.specs.declared.answer.Worked.{Worked}
use Rattle.rules.specs.declared.answer.Worked.TheVariants.{Left, Done}
use Rattle.rules.specs.declared.table.CallKind.TheVariants.{Work}
use Rattle.rules.specs.declared.table.Phase.{Phase}
use Rattle.rules.specs.declared.table.TaskRecord.{TaskRecord}
use Rattle.rules.specs.Book.{Page, Book, writing, owed, worked, entered, outstanding_of, page_work}
use Rattle.rules.specs.Calls.{work, by, outstanding}
use Rattle.rules.specs.Faults.{CountFault, Waits, to_write, to_finish, Accepts}
use Rattle.rules.specs.Lists.{At}
use Rattle.rules.specs.Places.{Pending}
use Rattle.rules.specs.Promise.{Oldest, Current, Counted}
use Rattle.rules.specs.State.{State}
use Rattle.rules.specs.Steps.{Step, Works}
use Rattle.rules.specs.Table.{allows}
use Rattle.rules.specs.Torn.{Whole}
use Rattle.rules.proofs.AtLaws.{at_one}
use Rattle.rules.proofs.Clears.{accepts}
use Rattle.promise.proofs.Promised.Accepting.{work_committed}
use Rattle.promise.proofs.Promised.Counting.{lowest, sum_turned}
use Rattle.promise.proofs.Promised.Invariant.{Inv}
use Rattle.promise.proofs.Promised.Pages.{on_page_lem}
use Rattle.promise.proofs.Promised.Ring.{pending_owes}
use Rattle.promise.proofs.Promised.Snapshots.{writer}
use Rattle.promise.proofs.Promised.Tasks.{open_whole, committed_whole, phase_whole}
use Rattle.promise.proofs.Promised.WritingBack.{the_writer}

module _ {F C : Type 0} (Φ : Ghosts F) {s : State F C} {b : Book C} (inv : Inv Φ s b) where
  -- No record is torn.
  all_whole : (t : ℕ) (r : TaskRecord F) → At s.table t r → Whole s t r
  all_whole t r there =
      let facts = inv.tasks t r there in
      phase_whole r.phase
      (λ is. open_whole Φ s.pairs s.size (facts.opened is))
      (λ is.
      let mine = facts.committed is in
      committed_whole Φ s.pairs s.size mine (inv.ring.owing r.place (omega (arith, mine.owing))))

  -- So the asking has no fault.
  no_fault : (refusal : Refusal) → CountFault Φ s refusal → ⊥
  no_fault RingLength fault = fault
  no_fault TaskCount fault = fault
  no_fault LogLength fault = fault
  no_fault LastPlace fault = fault
  no_fault MemorySize fault = fault
  no_fault ArrayLength fault = fault inv.fits
  no_fault TaskNumber fault = fault
  no_fault Address fault = fault
  no_fault BrokenLine fault = fault
  no_fault OutputFull fault = fault
  no_fault Torn fault = fault.1.holds (all_whole fault.0 fault.1.task fault.1.there)
  no_fault PhaseForbids fault = fault
  no_fault LogFull fault = fault
  no_fault PlacesSpent fault = fault
  no_fault RingFull fault = fault
  no_fault (MustWait place) fault = fault

  -- Each asking answers the outstanding count of the book.
  asked : (reply : Result ℕ Refusal) (s' : State F C) → Step Φ s outstanding reply s' → reply ≡ Ok (outstanding_of b)
  asked (Ok count) s' step = ap (λ (n : ℕ). Ok n) (step.counted ∙ inv.balanced)
  asked (Err refusal) s' step = absurd (no_fault refusal step.refuses.fault)

  -- An accepted work takes one off its page.
  module _ (t : ℕ) (r : TaskRecord F) (there : At s.table t r) (accepted : Accepts Φ s (by t work)) (w : Worked) where
    -- What is outstanding falls by one where what the page owes does.
    takes_one : owed (worked w (writing r.place (r.logged - r.written + 1))) + 1 ≡ r.logged - r.written + 1 → outstanding_of (entered b (by t work) (Ok w)) + 1 ≡ outstanding_of b
    takes_one less =
        let facts = the_writer Φ inv there (work_committed Φ s t r there accepted) in
        let page = facts.page in
        omega (
          arith,
          less,
          ap (sum_by (λ (p : Page C). owed p.standing)) (on_page_lem b.pages t facts.at page (page_work w) facts.newest),
          sum_turned (page_work w page) facts.newest.there,
          ap owed facts.standing,
          ap owed (ap (worked w) facts.standing),
        )

  -- Each accepted work lowers the outstanding count by one.
  lowers : (t : ℕ) (w : Worked) (s' : State F C) → Works Φ s t w s' → outstanding_of (entered b (by t work) (Ok w)) + 1 ≡ outstanding_of b
  lowers t (Left left) s' step = takes_one t step.task step.there step.accepts (Left left) (omega (arith, step.more))
  lowers t (Done place) s' step = takes_one t step.task step.there step.accepts (Done place) (omega (arith, step.none))

  -- While something is outstanding there is an oldest unfinished writer.
  some : 0 < outstanding_of b → (p : Page C) × (place : ℕ) × (owes : ℕ) × Oldest b p place owes
  some above =
      let low = lowest b.pages above in (
        low.page,
        low.place,
        low.owes,
        record {
          unfinished = record { page = low.there; standing = low.standing };
          lowest = λ q i n other. low.least q other.page i n other.standing;
        },
      )

  module _ (p : Page C) (place owes : ℕ) (oldest : Oldest b p place owes) where
    -- Where its page stands.
    abbrev its_index : ℕ
    its_index = oldest.unfinished.page.index

    -- It is its task's newest page.
    own : Current b p
    own =
        let newest = (inv.owners its_index place owes p oldest.unfinished.page.there oldest.unfinished.standing).newest in
        record { index = its_index; there = newest.there; newest = newest.newer }

    -- No place before the oldest unfinished writer's is pending.
    none_before : (i : ℕ) → i < place → Pending s.slots s.ring i → ⊥
    none_before i before pending =
        let of = writer Φ inv i (pending_owes Φ inv.ring i pending) in
        omega (arith, oldest.lowest of.page i of.owes of.unfinished)

    -- So it waits for no place, neither to write nor to finish.
    no_wait : (r : TaskRecord F) → r.place ≡ place → (i : ℕ) → Waits Φ s r i → ⊥
    no_wait r placed i (to_write waits) = none_before i (omega (arith, waits.below)) waits.blocks.pending
    no_wait r placed i (to_finish waits) = none_before i (omega (arith, waits.before)) waits.pending

    -- A work for it is accepted.
    free : Accepts Φ s (by p.task work)
    free =
        let owner = inv.owners its_index place owes p oldest.unfinished.page.there oldest.unfinished.standing in
        let r = owner.task in
        accepts Φ s p.task work r
        (record {
          addressed = record { fits = inv.fits; known = omega (arith, owner.there.within, inv.fits.table); inside = tt };
          there = owner.there;
          whole = all_whole p.task r owner.there;
          allowed = ap (λ (phase : Phase). allows phase Work) owner.committed;
        })
        (λ fault. fault)
        (λ fault. fault)
        (λ fault. fault)
        (λ i waiting. no_wait waiting.task (ap (λ (y : TaskRecord F). y.place) (at_one waiting.there owner.there) ∙ owner.placed) i waiting.holds)

  -- The third statement.
  pub counted : Counted Φ s b
  counted = record { asked = asked; lowers = lowers; some = some; own = own; free = free }
