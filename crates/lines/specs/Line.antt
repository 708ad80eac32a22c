-- The form that every line has, of a text or of a report.
use Rattle.std.specs.Prelude.{ℕ, ◌+◌, ◌*◌, List, [], ◌∷◌, ◌++◌, length, codes, slice_index}
use Prim.Native.String.{String}
use Rattle.lines.specs.Decimal.{decimal}

-- The byte of a letter.
abbrev pub byte : String → ℕ
byte text = slice_index (codes text) 0

-- The words behind the letter of a line: one space before each.
abbrev pub spaced : List (List ℕ) → List ℕ
spaced [] = []
spaced (word ∷ words) = 32 ∷ (word ++ spaced words)

-- A line: its letter, its words and the line feed.
abbrev pub line_of : ℕ → List (List ℕ) → List ℕ
line_of letter words = letter ∷ (spaced words ++ (10 ∷ []))

-- The most bytes that a line of numbers takes, by the digits of the first: every other has at most ten.
abbrev pub numbers_room : List ℕ → ℕ
numbers_room [] = 2
numbers_room (n ∷ ns) = 3 + length (decimal n) + 11 * length ns
