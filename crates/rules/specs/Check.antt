-- The check: no writer that committed since the start may have logged a cell that was read.
use Rattle.std.specs.Prelude.{◌≡◌, ℕ, ◌+◌, ◌-◌, ◌<◌, ◌≤◌, true, false, ◌⊎◌, List, Ok, Err, Result}
use Rattle.filters.specs.declared.filter.Filter.{Ghosts}
use Rattle.rules.specs.declared.ring.Entry.{Entry}
use Rattle.rules.specs.declared.answer.Abort.{Abort}
use Rattle.rules.specs.declared.answer.Abort.TheVariants.{Conflict, Overrun}
use Rattle.rules.specs.declared.verdict.Passed.{Passed}
use Rattle.rules.specs.Places.{Present, Pending}

-- What a check answers: the transaction goes on, or the check has ended it.
abbrev pub Verdict : Type 0
Verdict = Result Passed Abort

module _ {F : Type 0} where
  -- The new start: one less than the lowest unfinished place above the old start, or the index if there is none.
  pub record Advanced (slots : ℕ) (ring : List (Entry F)) (index old new : ℕ) : Type 0 where
    pub low : old ≤ new
    pub high : new ≤ index
    pub finished : (i : ℕ) → old < i → i ≤ new → Pending slots ring i → ⊥
    pub next : (new ≡ index) ⊎ Pending slots ring (new + 1)

  module _ (Φ : Ghosts F) where
    -- A present place whose filter the read filter does, or does not, meet.
    pub record Asked (slots : ℕ) (ring : List (Entry F)) (reads : F) (i : ℕ) : Type 0 where
      pub entry : Entry F
      pub present : Present slots ring i entry
      pub apart : Φ.meeting entry.filter reads ≡ false

    pub record Met (slots : ℕ) (ring : List (Entry F)) (reads : F) (i : ℕ) : Type 0 where
      pub entry : Entry F
      pub present : Present slots ring i entry
      pub meets : Φ.meeting entry.filter reads ≡ true

    -- Every place above `place`, up to the index, is present and apart.
    abbrev pub AllAsked : ℕ → List (Entry F) → F → ℕ → ℕ → Type 0
    AllAsked slots ring reads index place = (i : ℕ) → place < i → i ≤ index → Asked slots ring reads i

    -- The walk goes from the index down to the place above start; no filter of a place meets the read filter.
    pub record Passes (slots : ℕ) (ring : List (Entry F)) (reads : F) (index start new compared : ℕ) : Type 0 where
      pub near : index - start ≤ slots
      pub asked : AllAsked slots ring reads index start
      pub advanced : Advanced slots ring index start new
      pub counted : compared ≡ index - start

    -- The highest place that is absent or meets is this one, and it meets.
    pub record Conflicts (slots : ℕ) (ring : List (Entry F)) (reads : F) (index start place compared : ℕ) : Type 0 where
      pub near : index - start ≤ slots
      pub low : start < place
      pub high : place ≤ index
      pub asked : AllAsked slots ring reads index place
      pub met : Met slots ring reads place
      pub counted : compared ≡ index - place + 1

    -- The start lies further back than the ring reaches: no filter is asked.
    pub record TooFar (slots : ℕ) (index start compared : ℕ) : Type 0 where
      pub far : slots < index - start
      pub counted : compared ≡ 0

    -- The highest place that is absent or meets is this one, and it is absent.
    pub record Lost (slots : ℕ) (ring : List (Entry F)) (reads : F) (index start compared : ℕ) : Type 0 where
      pub near : index - start ≤ slots
      pub place : ℕ
      pub low : start < place
      pub high : place ≤ index
      pub asked : AllAsked slots ring reads index place
      pub absent : (e : Entry F) → Present slots ring place e → ⊥
      pub counted : compared ≡ index - place

    -- What the check answers, at each verdict.
    abbrev pub Checks : ℕ → List (Entry F) → F → ℕ → ℕ → Verdict → Type 0
    Checks slots ring reads index start (Ok passed) = Passes slots ring reads index start passed.start passed.compared
    Checks slots ring reads index start (Err (Conflict place compared)) = Conflicts slots ring reads index start place compared
    Checks slots ring reads index start (Err (Overrun compared)) = TooFar slots index start compared ⊎ Lost slots ring reads index start compared
