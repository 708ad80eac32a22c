-- A run whose answers are those of the played steps is forced.
use Rattle.std.proofs.Common.{◌≡◌, ℕ, List, [], ◌∷◌, Result, sym, ap, ◌∙◌, subst}
use Rattle.cells.specs.declared.refusal.Refusal.{Refusal}
use Rattle.filters.specs.contracts.small.SmallFilter.TheImpl.{ghosts}
use Rattle.filters.specs.declared.small.Small.{Small}
use Rattle.rules.specs.declared.table.TaskRecord.{TaskRecord}
use Rattle.rules.specs.Calls.{Act, by, ActReply}
use Rattle.rules.specs.Lists.{At}
use Rattle.rules.specs.State.{State}
use Rattle.rules.specs.Steps.{Step}
use Rattle.forced.specs.Exactness.{small_exact}
use Rattle.forced.specs.Play.{entry_at, settled_from, check_down, verdict, blocking_down, find, inside_all, fitsb, wholeb, whole_from, wait_for, own, judge_record, judge, accepted, answered, play}
use Rattle.forced.proofs.Played.{plays}
use Rattle.worked.specs.Runs.{Event, asks, holds, stamps, Stamped, Forced}
use Rattle.worked.proofs.Taken.{steps}

-- A proof that unfolds this computes played steps.
unfoldable pub computing : Unit {0}
unfolding play accepted judge judge_record own wait_for fitsb wholeb whole_from inside_all find blocking_down verdict check_down settled_from entry_at
computing = tt

-- The played step over the small filter.
abbrev pub played : State Small ℕ → (task : ℕ) (act : Act ℕ) → ActReply act × State Small ℕ
played s task act = play ghosts small_exact s (by task act)

-- The played steps give these answers.
abbrev pub Plays : State Small ℕ → List Event → Type 0
Plays s [] = Unit {0}
Plays s (asks task act reply ∷ events) = ((played s task act).0 ≡ reply) × Plays (played s task act).1 events
Plays s (holds address cell ∷ events) = At s.memory address cell × Plays s events
Plays s (stamps slot place ∷ events) = Stamped s.ring slot place × Plays s events

-- The state after the played steps.
abbrev pub reached : State Small ℕ → List Event → State Small ℕ
reached s [] = s
reached s (asks task act reply ∷ events) = reached (played s task act).1 events
reached s (holds address cell ∷ events) = reached s events
reached s (stamps slot place ∷ events) = reached s events

-- What is played is a step, and every step is the one that is played; so what is played is forced.
pub forces : (events : List Event) (s : State Small ℕ) → Plays s events → Forced s events
forces [] s p = tt
forces (asks task act reply ∷ events) s p = (
  ((played s task act).1, subst (λ (r : ActReply act). Step ghosts s (by task act) r (played s task act).1) p.0 (steps s task act)),
  λ given after step.
      let one : played s task act ≡ (given, after) = plays ghosts small_exact s (by task act) given after step in (
        sym (ap (λ (q : ActReply act × State Small ℕ). q.0) one) ∙ p.0,
        forces events after (subst (λ (t : State Small ℕ). Plays t events) (ap (λ (q : ActReply act × State Small ℕ). q.1) one) p.1),
      ),
)
forces (holds address cell ∷ events) s p = (p.0, forces events s p.1)
forces (stamps slot place ∷ events) s p = (p.0, forces events s p.1)

-- One event is played by what the call is judged to be.
pub next : (s : State Small ℕ) (task : ℕ) (act : Act ℕ) (reply : ActReply act) (events : List Event) (o : Result (TaskRecord Small) Refusal) → judge ghosts s task act ≡ o → ((answered ghosts small_exact s task act o).0 ≡ reply) × Plays (answered ghosts small_exact s task act o).1 events → Plays s (asks task act reply ∷ events)
unfolding play
next s task act reply events o is p = subst (λ (q : Result (TaskRecord Small) Refusal). ((answered ghosts small_exact s task act q).0 ≡ reply) × Plays (answered ghosts small_exact s task act q).1 events) (sym is) p
