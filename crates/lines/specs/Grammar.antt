-- The lines of a schedule text. Each command has one spelling, so a line of the grammar is the spelling of a command.
use Rattle.std.specs.Prelude.{◌≡◌, ℕ, ◌≤◌, List, [], ◌∷◌, map, Some, None, Option}
use Rattle.lines.specs.Decimal.{decimal}
use Rattle.lines.specs.Line.{byte, line_of}
use Rattle.lines.specs.declared.command.Area.{Area}
use Rattle.lines.specs.declared.command.Area.TheVariants.{Words, Tags}
use Rattle.lines.specs.declared.command.Command.{Command}
use Rattle.lines.specs.declared.command.Command.TheVariants.{Make, Begin, Read, Write, Commit, Work, Quit}

-- The letter that makes a memory, with words or with tags.
abbrev pub area_letter : Area → ℕ
area_letter Words = byte "m"
area_letter Tags = byte "t"

-- The letter of a command.
abbrev pub letter : Command → ℕ
letter (Make area m) = area_letter area
letter (Begin task) = byte "b"
letter (Read task address) = byte "r"
letter (Write task address value quality) = byte "w"
letter (Commit task) = byte "c"
letter (Work task) = byte "k"
letter (Quit task) = byte "q"

-- The numbers of a command, in their order on the line.
abbrev pub numbers : Command → List ℕ
numbers (Make area m) = m.slots ∷ m.tasks ∷ m.pairs ∷ m.last ∷ m.cells ∷ []
numbers (Begin task) = task ∷ []
numbers (Read task address) = task ∷ address ∷ []
numbers (Write task address value None) = task ∷ address ∷ value ∷ []
numbers (Write task address value (Some quality)) = task ∷ address ∷ value ∷ quality ∷ []
numbers (Commit task) = task ∷ []
numbers (Work task) = task ∷ []
numbers (Quit task) = task ∷ []

-- A line of the text: the letter, one space before each number in decimal, and the line feed.
abbrev pub spelled : Command → List ℕ
spelled c = line_of (letter c) (map decimal (numbers c))

-- The largest number that a line may have.
abbrev pub most : ℕ
most = 4294967295

-- Every number of the list is at most the largest.
abbrev pub Small : List ℕ → Type 0
Small [] = Unit {0}
Small (n ∷ ns) = (n ≤ most) × Small ns

-- The first line makes the memory, within the limits of the ring, the tasks, the log and the cells.
abbrev pub MayBeFirst : Command → Type 0
MayBeFirst (Make area m) = (m.slots ≤ 64) × (m.tasks ≤ 8) × (m.pairs ≤ 16) × (m.last ≤ most) × (m.cells ≤ 256)
MayBeFirst _ = ⊥

-- Every later line is of one task; a write has a quality where the memory has tags, and only there.
abbrev pub MayFollow : Area → Command → Type 0
MayFollow area (Make other m) = ⊥
MayFollow area (Begin task) = task ≤ most
MayFollow area (Read task address) = (task ≤ most) × (address ≤ most)
MayFollow area (Write task address value None) = (area ≡ Words) × (task ≤ most) × (address ≤ most) × (value ≤ most)
MayFollow area (Write task address value (Some quality)) = (area ≡ Tags) × (task ≤ most) × (address ≤ most) × (value ≤ most) × (quality ≤ 255)
MayFollow area (Commit task) = task ≤ most
MayFollow area (Work task) = task ≤ most
MayFollow area (Quit task) = task ≤ most

-- The command may stand in a first line, or behind a line that made this area.
abbrev pub Allowed : Option Area → Command → Type 0
Allowed None c = MayBeFirst c
Allowed (Some area) c = MayFollow area c
