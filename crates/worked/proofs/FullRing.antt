-- The run that fills the ring, for any cell of the fourth writer: where a step asks whether the address lies below the size, it is told.
use Rattle.std.proofs.Common.{◌≡◌, ℕ, ◌<◌, Bool, true, cond, not, ◌&&◌, ltb, [], ◌∷◌, ◌++◌, Some, Ok, Err, refl, ap, lit≤}
use Rattle.std.proofs.lemmas.Bool.{lt-ltb}
use Rattle.cells.specs.declared.refusal.Refusal.TheVariants.{Address, Torn, RingFull}
use Rattle.filters.specs.declared.small.Small.{Small}
use Rattle.rules.specs.declared.answer.Denial.TheVariants.{Refused}
use Rattle.rules.specs.declared.table.Phase.TheVariants.{Open}
use Rattle.rules.specs.declared.table.TaskRecord.{TaskRecord}
use Rattle.rules.specs.Calls.{write, commit}
use Rattle.rules.specs.Records.{after_append}
use Rattle.rules.specs.State.{State, with_pair}
use Rattle.forced.specs.Exactness.{empty_bits, add_bit, small_exact}
use Rattle.forced.specs.Play.{blank}
use Rattle.worked.specs.Runs.{ForcedRun, begins, logs, refuses, finishes, places}
use Rattle.worked.specs.Statement.{in_order_events, full_ring_events}
use Rattle.worked.proofs.Fresh.{fresh, forced_from}
use Rattle.worked.proofs.Limits.{run_made}
use Rattle.worked.proofs.Played.{computing, Plays, reached, next}

-- The record of task 3 when it has begun, and once it has logged its cell.
abbrev opened : TaskRecord Small
opened = blank small_exact Open 0

abbrev logged : ℕ → TaskRecord Small
logged address = after_append opened (add_bit empty_bits address)

-- Task 3 logs a cell below the size, its commit is refused, place 1 is done, and it gets place 4.
fourth : (address : ℕ) → address < 64 → (u v w x : ℕ) (a₀ a₁ a₂ a₃ a₄ a₅ a₆ a₇ c₀ c₁ c₂ c₃ c₄ c₅ c₆ c₇ : ℕ) → Plays (reached (fresh 4 100 (a₀ ∷ a₁ ∷ a₂ ∷ a₃ ∷ a₄ ∷ a₅ ∷ a₆ ∷ a₇ ∷ []) (c₀ ∷ c₁ ∷ c₂ ∷ c₃ ∷ c₄ ∷ c₅ ∷ c₆ ∷ c₇ ∷ [])) (in_order_events u v w ++ begins 3 0)) (logs 3 address x ++ refuses 3 RingFull ++ finishes 0 1 ++ places 3 4 3)
unfolding computing
fourth address inside u v w x a₀ a₁ a₂ a₃ a₄ a₅ a₆ a₇ c₀ c₁ c₂ c₃ c₄ c₅ c₆ c₇ =
    let is : ltb address 64 ≡ true = lt-ltb address 64 inside in
    let begun : State Small ℕ = reached (fresh 4 100 (a₀ ∷ a₁ ∷ a₂ ∷ a₃ ∷ a₄ ∷ a₅ ∷ a₆ ∷ a₇ ∷ []) (c₀ ∷ c₁ ∷ c₂ ∷ c₃ ∷ c₄ ∷ c₅ ∷ c₆ ∷ c₇ ∷ [])) (in_order_events u v w ++ begins 3 0) in
    let full : State Small ℕ = with_pair begun 3 (logged address) 6 address x in
    let free : State Small ℕ = reached full (finishes 0 1) in
    let last = next free 3 commit (Ok (Some 4, 3)) [] (Ok (logged address)) (ap (λ (b : Bool). cond (not ((b && true) && true)) (Err Torn) (Ok (logged address))) is) (refl, tt) in
    let refused = next full 3 commit (Err (Refused RingFull)) (finishes 0 1 ++ places 3 4 3) (Err RingFull) (ap (λ (b : Bool). cond (not ((b && true) && true)) (Err Torn) (Err RingFull)) is) (refl, (refl, (refl, last))) in
    next begun 3 (write address x) (Ok 1) (refuses 3 RingFull ++ finishes 0 1 ++ places 3 4 3) (Ok opened) (ap (λ (b : Bool). cond (not b) (Err Address) (Ok opened)) is) (refl, refused)

-- The run as a whole.
pub full_ring_run : (address : ℕ) → address < 64 → (u v w x : ℕ) → ForcedRun 100 (full_ring_events address u v w x)
unfolding computing
full_ring_run address inside u v w x = record {
  starts = run_made 100 (record { least = lit≤ tt; most = lit≤ tt });
  forced = forced_from 100 (full_ring_events address u v w x) (λ a₀ a₁ a₂ a₃ a₄ a₅ a₆ a₇ c₀ c₁ c₂ c₃ c₄ c₅ c₆ c₇. (refl, (refl, (refl, (refl, (refl, (refl, (refl, (refl, (refl, (refl, (refl, (refl, (refl, fourth address inside u v w x a₀ a₁ a₂ a₃ a₄ a₅ a₆ a₇ c₀ c₁ c₂ c₃ c₄ c₅ c₆ c₇))))))))))))));
}
