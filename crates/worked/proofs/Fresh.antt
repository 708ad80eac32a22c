-- What a making over the small filter leaves: all is determined but what the log arrays hold.
use Rattle.std.proofs.Common.{◌≡◌, ℕ, zero, suc, List, [], ◌∷◌, length, replicate, sym, ◌∙◌, subst, arith}
use Rattle.cells.specs.declared.refusal.Refusal.TheVariants.{ArrayLength}
use Rattle.filters.specs.contracts.small.SmallFilter.TheImpl.{ghosts}
use Rattle.filters.specs.declared.small.Small.{Small}
use Rattle.rules.specs.declared.ring.Entry.{Entry}
use Rattle.rules.specs.declared.ring.Status.TheVariants.{Complete}
use Rattle.rules.specs.declared.table.Phase.TheVariants.{Idle}
use Rattle.rules.specs.declared.table.TaskRecord.{TaskRecord}
use Rattle.rules.specs.Making.{Makes}
use Rattle.rules.specs.State.{State, Fits}
use Rattle.forced.specs.Exactness.{empty_bits, small_exact}
use Rattle.forced.specs.Play.{blank}
use Rattle.forced.proofs.Deciders.{confirmed, decides_fits}
use Rattle.forced.proofs.Made.{made_is as left-by-making}
use Rattle.worked.specs.Makings.{asking}
use Rattle.worked.specs.Runs.{Event, Forced}
use Rattle.worked.proofs.Played.{Plays, forces}

-- The one vacant entry.
abbrev pub vacant : Entry Small
vacant = record { stamp = 0; filter = empty_bits; status = Complete }

-- The one emptied record.
abbrev pub emptied : TaskRecord Small
emptied = blank small_exact Idle 0

-- The state after making, with these log arrays.
abbrev pub fresh : (slots last : ℕ) → List ℕ → List ℕ → State Small ℕ
fresh slots last addresses cells = asking slots last (replicate slots vacant) (replicate 4 emptied) addresses cells

module _ {X : Type 0} where
  -- A fact of every list with n elements, which are named one by one.
  abbrev pub EachOf : ℕ → (List X → Type 0) → Type 0
  EachOf zero P = P []
  EachOf (suc n) P = (x : X) → EachOf n (λ xs. P (x ∷ xs))

  -- A list of length n has n elements.
  pub by_elements : (n : ℕ) (P : List X → Type 0) → EachOf n P → (xs : List X) → length xs ≡ n → P xs
  by_elements zero P each [] e = each
  by_elements zero P each (x ∷ xs) e = absurd (omega arith)
  by_elements (suc n) P each [] e = absurd (omega arith)
  by_elements (suc n) P each (x ∷ xs) e = by_elements n (λ ys. P (x ∷ ys)) (each x) xs (omega arith)

module _ (last : ℕ) (ring : List (Entry Small)) (table : List (TaskRecord Small)) (addresses cells : List ℕ) where
  -- What the making is asked for.
  abbrev asked : State Small ℕ
  asked = asking 4 last ring table addresses cells

  -- A making that is not refused was handed arrays that fit.
  pub fitting : (s : State Small ℕ) → Makes ghosts asked s → Fits asked
  fitting s m = confirmed (decides_fits asked) (m.accepts ArrayLength)

  -- So the state that it leaves is the fresh one.
  pub made_is : (s : State Small ℕ) → Makes ghosts asked s → s ≡ fresh 4 last addresses cells
  made_is s m =
      left-by-making small_exact asked s m
      ∙ (λ i. asking 4 last (replicate ((fitting s m).ring i) vacant) (replicate ((fitting s m).table i) emptied) addresses cells)

-- A run that is played from the fresh state, whatever its log arrays hold, is forced after every making.
pub forced_from : (last : ℕ) (events : List Event) → EachOf 8 (λ addresses. EachOf 8 (λ cells. Plays (fresh 4 last addresses cells) events)) → (ring : List (Entry Small)) (table : List (TaskRecord Small)) (addresses cells : List ℕ) (s : State Small ℕ) → Makes ghosts (asking 4 last ring table addresses cells) s → Forced s events
forced_from last events each ring table addresses cells s m =
    let fits = fitting last ring table addresses cells s m in
    let plays = by_elements 8 (λ ys. Plays (fresh 4 last addresses ys) events) (by_elements 8 (λ xs. EachOf 8 (λ ys. Plays (fresh 4 last xs ys) events)) each addresses fits.addresses) cells fits.cells in
    subst (λ (t : State Small ℕ). Forced t events) (sym (made_is last ring table addresses cells s m)) (forces events (fresh 4 last addresses cells) plays)
