-- A line feed stands at the end of a line, and nowhere else in it.
use Rattle.std.proofs.Common.{◌≡◌, ℕ, zero, suc, ◌+◌, List, [], ◌∷◌, ◌++◌, map, length, get_or, Some, None, codes, Option, sym, refl, ap, ◌∙◌, arith}
use Rattle.lines.specs.Decimal.{decimal}
use Rattle.lines.specs.Grammar.{area_letter, letter, numbers, spelled}
use Rattle.lines.specs.Line.{spaced, line_of}
use Rattle.lines.specs.Printed.{placed, told, printed}
use Rattle.lines.specs.declared.command.Area.{Area}
use Rattle.lines.specs.declared.command.Area.TheVariants.{Words, Tags}
use Rattle.lines.specs.declared.command.Command.{Command}
use Rattle.lines.specs.declared.command.Command.TheVariants.{Make}
use Rattle.lines.specs.declared.report.Report.{Report}
use Rattle.lines.specs.declared.report.Report.TheVariants.{Made, Began, Read, Wrote, Committed, Left, Done, Quit as Gone, Conflict, Overrun, Refused, Numbered, Broken}
use Rattle.lines.proofs.Decimals.{Digits, decimal-digits}

-- No byte of the list is a line feed.
abbrev pub NoFeed : List ℕ → Type 0
NoFeed [] = Unit {0}
NoFeed (b ∷ bs) = (b ≡ 10 → ⊥) × NoFeed bs

-- The list ends with a line feed and has no other.
pub record OneFeed (bs : List ℕ) : Type 0 where
  pub front : List ℕ
  pub whole : bs ≡ front ++ (10 ∷ [])
  pub none : NoFeed front

-- A line feed can be read only as the last byte.
pub feed_last : (bs : List ℕ) → OneFeed bs → (i : ℕ) → get_or bs i 0 ≡ 10 → i + 1 ≡ length bs
feed_last bs f i e = go f.front f.none i (ap (λ zs. get_or zs i 0) (sym f.whole) ∙ e) ∙ ap length (sym f.whole)
  where
    go : (xs : List ℕ) → NoFeed xs → (j : ℕ) → get_or (xs ++ (10 ∷ [])) j 0 ≡ 10 → j + 1 ≡ length (xs ++ (10 ∷ []))
    go [] h zero q = omega arith
    go [] h (suc j) q = absurd (omega arith)
    go (x ∷ xs) h zero q = absurd (h.0 q)
    go (x ∷ xs) h (suc j) q = omega (arith, go xs h.1 j q)

-- Two lists without a line feed have none together.
no_feed_append : (xs ys : List ℕ) → NoFeed xs → NoFeed ys → NoFeed (xs ++ ys)
no_feed_append [] ys h g = g
no_feed_append (x ∷ xs) ys h g = (h.0, no_feed_append xs ys h.1 g)

-- A digit is no line feed.
no_feed_digits : (ds : List ℕ) → Digits ds → NoFeed ds
no_feed_digits [] h = tt
no_feed_digits (d ∷ ds) h = ((λ e. omega (arith, h.0)), no_feed_digits ds h.1)

-- No word of the list has a line feed.
abbrev NoFeeds : List (List ℕ) → Type 0
NoFeeds [] = Unit {0}
NoFeeds (word ∷ words) = NoFeed word × NoFeeds words

-- Words without a line feed have none with spaces before them.
no_feed_spaced : (words : List (List ℕ)) → NoFeeds words → NoFeed (spaced words)
no_feed_spaced [] h = tt
no_feed_spaced (word ∷ words) h = ((λ e. omega arith), no_feed_append word (spaced words) h.0 (no_feed_spaced words h.1))

-- A decimal has no line feed.
no_feed_decimal : (n : ℕ) → NoFeed (decimal n)
no_feed_decimal n = no_feed_digits (decimal n) (decimal-digits n)

-- Nor have the decimals of a list of numbers.
no_feed_decimals : (ns : List ℕ) → NoFeeds (map decimal ns)
no_feed_decimals [] = tt
no_feed_decimals (n ∷ ns) = (no_feed_decimal n, no_feed_decimals ns)

-- A line whose letter and words are no line feed has one, at its end.
line_feed : (l : ℕ) (words : List (List ℕ)) → (l ≡ 10 → ⊥) → NoFeeds words → OneFeed (line_of l words)
line_feed l words h g = record { front = l ∷ spaced words; whole = refl; none = (h, no_feed_spaced words g) }

-- So has a line of numbers.
numbers_feed : (l : ℕ) (ns : List ℕ) → (l ≡ 10 → ⊥) → OneFeed (line_of l (map decimal ns))
numbers_feed l ns h = line_feed l (map decimal ns) h (no_feed_decimals ns)

-- The letters of the areas are no line feed.
area_letter_lem : (area : Area) → area_letter area ≡ 10 → ⊥
area_letter_lem Words e = omega arith
area_letter_lem Tags e = omega arith

-- The letter of a command is no line feed.
command_letter : (c : Command) → letter c ≡ 10 → ⊥
command_letter (Make area m) e = area_letter_lem area e
command_letter _ e = omega arith

-- The spelling of a command is one line.
pub spelled_feed : (c : Command) → OneFeed (spelled c)
spelled_feed c = numbers_feed (letter c) (numbers c) (command_letter c)

-- A place, or the sign for none, has no line feed.
no_feed_placed : (place : Option ℕ) → NoFeed (placed place)
no_feed_placed (Some place) = no_feed_decimal place
no_feed_placed None = ((λ e. omega arith), tt)

-- The word `ok` has no line feed.
no_feed_ok : NoFeed (codes "ok")
no_feed_ok = ((λ e. omega arith), ((λ e. omega arith), tt))

-- The word `done` has no line feed.
no_feed_done : NoFeed (codes "done")
no_feed_done = ((λ e. omega arith), ((λ e. omega arith), ((λ e. omega arith), ((λ e. omega arith), tt))))

-- The line of a report is one line.
pub printed_feed : (r : Report) → OneFeed (printed r)
printed_feed (Made area) = line_feed (area_letter area) (codes "ok" ∷ []) (area_letter_lem area) (no_feed_ok, tt)
printed_feed (Began task start) = numbers_feed 98 (task ∷ start ∷ []) (λ e. omega arith)
printed_feed (Read task value None compared) = numbers_feed 114 (task ∷ value ∷ compared ∷ []) (λ e. omega arith)
printed_feed (Read task value (Some quality) compared) = numbers_feed 114 (task ∷ value ∷ quality ∷ compared ∷ []) (λ e. omega arith)
printed_feed (Wrote task logged) = numbers_feed 119 (task ∷ logged ∷ []) (λ e. omega arith)
printed_feed (Committed task place compared) = line_feed 99 (decimal task ∷ placed place ∷ decimal compared ∷ []) (λ e. omega arith) (no_feed_decimal task, (no_feed_placed place, (no_feed_decimal compared, tt)))
printed_feed (Left task left) = numbers_feed 107 (task ∷ left ∷ []) (λ e. omega arith)
printed_feed (Done task place) = line_feed 107 (decimal task ∷ codes "done" ∷ decimal place ∷ []) (λ e. omega arith) (no_feed_decimal task, (no_feed_done, (no_feed_decimal place, tt)))
printed_feed (Gone task logged) = numbers_feed 113 (task ∷ logged ∷ []) (λ e. omega arith)
printed_feed (Conflict task place compared) = numbers_feed 120 (task ∷ place ∷ compared ∷ []) (λ e. omega arith)
printed_feed (Overrun task compared) = numbers_feed 111 (task ∷ compared ∷ []) (λ e. omega arith)
printed_feed (Refused reason) = numbers_feed 101 (told reason) (λ e. omega arith)
printed_feed (Numbered number None) = numbers_feed 101 (number ∷ []) (λ e. omega arith)
printed_feed (Numbered number (Some place)) = numbers_feed 101 (number ∷ place ∷ []) (λ e. omega arith)
printed_feed (Broken at) = numbers_feed 101 (9 ∷ at ∷ []) (λ e. omega arith)
