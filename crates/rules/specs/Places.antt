-- Places on the ring, and the place that a transaction begins at.
use Rattle.std.specs.Prelude.{◌≡◌, ℕ, ◌%◌, ◌<◌, ◌≤◌, List}
use Rattle.rules.specs.declared.ring.Entry.{Entry}
use Rattle.rules.specs.declared.ring.Status.TheVariants.{Writing}
use Rattle.rules.specs.Lists.{At}

module _ {F : Type 0} where
  -- Place i belongs to slot i mod the ring's length and is present if that slot's stamp is i. Place 0 is never present.
  pub record Present (slots : ℕ) (ring : List (Entry F)) (i : ℕ) (e : Entry F) : Type 0 where
    pub counted : 0 < i
    pub there : At ring (i % slots) e
    pub stamped : e.stamp ≡ i

  -- A place is unfinished if it is present and writing, else finished.
  pub record Pending (slots : ℕ) (ring : List (Entry F)) (i : ℕ) : Type 0 where
    pub entry : Entry F
    pub present : Present slots ring i entry
    pub writing : entry.status ≡ Writing

  -- Begin walks down from the index past unfinished places: start is the first that is not unfinished.
  pub record Settled (slots : ℕ) (ring : List (Entry F)) (index start : ℕ) : Type 0 where
    pub within : start ≤ index
    pub finished : Pending slots ring start → ⊥
    pub passed : (i : ℕ) → start < i → i ≤ index → Pending slots ring i
