-- What an accepted call says of the state.
use Rattle.std.proofs.Common.{◌≡◌, ℕ, zero, suc, ◌+◌, ◌-◌, ◌<◌, ◌≤◌, Bool, false, refl, ⊎_elim, arith}
use Rattle.std.proofs.lemmas.Bool.{cases_eq, cases_lt}
use Rattle.cells.specs.declared.refusal.Refusal.TheVariants.{TaskNumber, Address, PhaseForbids, LogFull, RingFull, MustWait}
use Rattle.filters.specs.declared.filter.Filter.{Ghosts}
use Rattle.rules.specs.declared.table.CallKind.TheVariants.{Begin, Work}
use Rattle.rules.specs.declared.table.Phase.{Phase}
use Rattle.rules.specs.declared.table.Phase.TheVariants.{Idle, Open, Committed}
use Rattle.rules.specs.declared.table.TaskRecord.{TaskRecord}
use Rattle.rules.specs.Calls.{Act, begin, read, write, commit, work, quit, by, kind}
use Rattle.rules.specs.Faults.{Accepts, Blocks, to_write, to_finish}
use Rattle.rules.specs.Lists.{At}
use Rattle.rules.specs.Logs.{Lacks}
use Rattle.rules.specs.Places.{Pending}
use Rattle.rules.specs.State.{State, base}
use Rattle.rules.specs.Table.{allows}

-- A call that neither Idle nor Committed allows is made in Open.
pub open_alone : (f : Phase → Bool) → f Idle ≡ false → f Committed ≡ false → (phase : Phase) → (f phase ≡ false → ⊥) → phase ≡ Open
open_alone f idle committed Idle allowed = absurd (allowed idle)
open_alone f idle committed Open allowed = refl
open_alone f idle committed Committed allowed = absurd (allowed committed)

-- Begin is made in Idle.
idle_alone : (phase : Phase) → (allows phase Begin ≡ false → ⊥) → phase ≡ Idle
idle_alone Idle allowed = refl
idle_alone Open allowed = absurd (allowed refl)
idle_alone Committed allowed = absurd (allowed refl)

-- Work is made in Committed.
committed_alone : (phase : Phase) → (allows phase Work ≡ false → ⊥) → phase ≡ Committed
committed_alone Idle allowed = absurd (allowed refl)
committed_alone Open allowed = absurd (allowed refl)
committed_alone Committed allowed = refl

-- Where no highest number of a range has a property, none of the range has it.
none_highest : (P : ℕ → Type 0) (bottom top : ℕ) → ((i : ℕ) → bottom < i → i < top → P i → ((j : ℕ) → i < j → j < top → P j → ⊥) → ⊥) → (n i : ℕ) → top ≤ i + n → bottom < i → i < top → P i → ⊥
none_highest P bottom top never zero i far above below holds = omega arith
none_highest P bottom top never (suc n) i far above below holds =
    never i above below holds (λ j higher low there. none_highest P bottom top never n j (omega arith) (omega arith) low there)

module _ {F C : Type 0} (Φ : Ghosts F) (s : State F C) (t : ℕ) where
  -- The task number is one of the table's.
  pub known_task : (act : Act C) → Accepts Φ s (by t act) → t < s.tasks
  known_task act accepts = ⊎_elim (λ low. low) (λ beyond. absurd (accepts TaskNumber beyond)) (cases_lt t s.tasks)

  -- The phase allows the call.
  pub allowed : (act : Act C) → Accepts Φ s (by t act) → (r : TaskRecord F) → At s.table t r → allows r.phase (kind act) ≡ false → ⊥
  allowed act accepts r there forbids = accepts PhaseForbids (record { task = r; there = there; holds = forbids })

  module _ (r : TaskRecord F) (there : At s.table t r) where
    -- A task that begins was Idle.
    pub begin_idle : Accepts Φ s (by t begin) → r.phase ≡ Idle
    begin_idle accepts = idle_alone r.phase (allowed begin accepts r there)

    -- A task that reads is Open.
    pub read_open : (a : ℕ) → Accepts Φ s (by t (read a)) → r.phase ≡ Open
    read_open a accepts = open_alone (λ (p : Phase). allows p (kind {C = C} (read a))) refl refl r.phase (allowed (read a) accepts r there)

    -- A task that writes is Open.
    pub write_open : (a : ℕ) (c : C) → Accepts Φ s (by t (write a c)) → r.phase ≡ Open
    write_open a c accepts = open_alone (λ (p : Phase). allows p (kind (write a c))) refl refl r.phase (allowed (write a c) accepts r there)

    -- A task that commits is Open.
    pub commit_open : Accepts Φ s (by t commit) → r.phase ≡ Open
    commit_open accepts = open_alone (λ (p : Phase). allows p (kind {C = C} commit)) refl refl r.phase (allowed commit accepts r there)

    -- A task that quits is Open.
    pub quit_open : Accepts Φ s (by t quit) → r.phase ≡ Open
    quit_open accepts = open_alone (λ (p : Phase). allows p (kind {C = C} quit)) refl refl r.phase (allowed quit accepts r there)

    -- A task that works is Committed.
    pub work_committed : Accepts Φ s (by t work) → r.phase ≡ Committed
    work_committed accepts = committed_alone r.phase (allowed work accepts r there)

    -- A write of a new address finds room in the log.
    pub write_room : (a : ℕ) (c : C) → Accepts Φ s (by t (write a c)) → r.logged ≤ s.pairs → Lacks s.addresses (base s t) r.logged a → r.logged < s.pairs
    write_room a c accepts short new =
        ⊎_elim
        (λ full. absurd (accepts LogFull (record { task = r; there = there; holds = (full, new) })))
        (λ other. omega arith)
        (cases_eq r.logged s.pairs)

    -- A commit with cells logged finds the ring's oldest place but one finished.
    pub commit_room : Accepts Φ s (by t commit) → 0 < r.logged → Pending s.slots s.ring (s.index + 2 - s.slots) → ⊥
    commit_room accepts some pending = accepts RingFull (record { task = r; there = there; holds = (some, pending) })

    -- A work with cells left is blocked by no place above its start.
    pub work_free : Accepts Φ s (by t work) → r.written < r.logged → (i : ℕ) → r.start < i → i < r.place → Blocks Φ s r i → ⊥
    work_free accepts left i above below =
        none_highest (Blocks Φ s r) r.start r.place
        (λ j higher lower blocks none. accepts (MustWait j) (record {
          task = r;
          there = there;
          holds = to_write (record { left = left; below = lower; above = higher; blocks = blocks; highest = none });
        }))
        r.place i (omega arith) above below

    -- A work with none left finds the place before its own finished.
    pub work_last : Accepts Φ s (by t work) → r.written ≡ r.logged → 0 < r.place → Pending s.slots s.ring (r.place - 1) → ⊥
    work_last accepts none placed pending = accepts (MustWait (r.place - 1)) (record {
      task = r;
      there = there;
      holds = to_finish (record { none = none; before = omega arith; pending = pending });
    })

  -- The address that a call names lies below the size.
  pub read_inside : (a : ℕ) → Accepts Φ s (by t (read a)) → a < s.size
  read_inside a accepts = ⊎_elim (λ low. low) (λ beyond. absurd (accepts Address (λ low. omega arith))) (cases_lt a s.size)

  -- The same of a write.
  pub write_inside : (a : ℕ) (c : C) → Accepts Φ s (by t (write a c)) → a < s.size
  write_inside a c accepts = ⊎_elim (λ low. low) (λ beyond. absurd (accepts Address (λ low. omega arith))) (cases_lt a s.size)
