-- What a memory's two calls answer and leave, over the list of its cells.
use Rattle.std.specs.Prelude.{◌≡◌, ℕ, ◌<◌, ◌≤◌, List, length, Ok, Err, Result, slice_index_or, slice_set}
use Rattle.cells.specs.declared.refusal.Refusal.{Refusal}
use Rattle.cells.specs.declared.refusal.Refusal.TheVariants.{Address}

module _ {C : Type 0} where
  -- A read below the size gives that cell, elsewhere the address refusal.
  abbrev pub Reads : List C → ℕ → Result C Refusal → Type 0
  Reads cells address (Ok cell) = (address < length cells) × (cell ≡ slice_index_or cells address cell)
  Reads cells address (Err refusal) = (length cells ≤ address) × (refusal ≡ Address)

  -- A write below the size sets just that cell, elsewhere it answers the address refusal and changes nothing.
  abbrev pub Writes : List C → ℕ → C → Result Unit Refusal → List C → Type 0
  Writes before address cell (Ok done) after = (address < length before) × (after ≡ slice_set before address cell)
  Writes before address cell (Err refusal) after = (length before ≤ address) × (refusal ≡ Address) × (after ≡ before)
