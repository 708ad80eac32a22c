-- A line that is printed is at most seven times as long as the line that asks for it.
use Rattle.std.proofs.Common.{ℕ, ◌+◌, ◌*◌, ◌≤◌, List, [], ◌∷◌, map, length, Some, None, Ok, Err, Option, ap, arith, length-append}
use Rattle.cells.specs.declared.refusal.Refusal.{Refusal}
use Rattle.cells.specs.declared.refusal.Refusal.TheVariants.{MustWait}
use Rattle.filters.specs.declared.filter.Filter.{Ghosts}
use Rattle.lines.specs.declared.command.Command.{Command}
use Rattle.lines.specs.declared.command.Command.TheVariants.{Make, Begin, Read, Write, Commit, Work, Quit}
use Rattle.lines.specs.declared.report.Report.{Report}
use Rattle.lines.specs.declared.report.Report.TheVariants.{Refused as RefusedLine}
use Rattle.lines.specs.Decimal.{decimal}
use Rattle.lines.specs.Grammar.{spelled}
use Rattle.lines.specs.Line.{spaced, line_of}
use Rattle.lines.specs.Printed.{room}
use Rattle.lines.proofs.Decimals.{decimal-length_ge}
use Rattle.rules.specs.declared.answer.Denial.{Denial}
use Rattle.rules.specs.declared.answer.Abort.TheVariants.{Conflict, Overrun}
use Rattle.rules.specs.declared.answer.Denial.TheVariants.{Refused, Aborted}
use Rattle.rules.specs.declared.answer.Worked.TheVariants.{Left, Done}
use Rattle.rules.specs.Calls.{Act, begin, read, write, commit, work, quit, ActReply}
use Rattle.rules.specs.State.{State}
use Rattle.runner.specs.Lines.{denial, told, asks, Played}

-- Numbers behind the letter of a line take at least a space and a digit each.
spaced_ge : (ns : List ℕ) → 2 * length ns ≤ length (spaced (map decimal ns))
spaced_ge [] = omega arith
spaced_ge (n ∷ ns) = omega (arith, spaced_ge ns, decimal-length_ge n, length-append (decimal n) (spaced (map decimal ns)))

-- So a line of numbers has at least these bytes: letter, line feed, the first number with its space, and two for every other.
line_ge : (l n : ℕ) (ns : List ℕ) → 3 + length (decimal n) + 2 * length ns ≤ length (line_of l (map decimal (n ∷ ns)))
line_ge l n ns = omega (arith, spaced_ge ns, length-append (decimal n) (spaced (map decimal ns)), length-append (spaced (map decimal (n ∷ ns))) (10 ∷ []))

-- The line of a refusal has at most 24 bytes.
pub refusal_room : (q : Refusal) → room (RefusedLine q) ≤ 24
refusal_room (MustWait place) = omega arith
refusal_room _ = omega arith

-- The line of a denial has at most 25 bytes and the digits of its task.
denial_room : (t : ℕ) (d : Denial) → room (denial t d) ≤ 25 + length (decimal t)
denial_room t (Refused q) = omega (arith, refusal_room q)
denial_room t (Aborted (Conflict place compared)) = omega arith
denial_room t (Aborted (Overrun compared)) = omega arith

module _ {C : Type 0} where
  -- The line of a read has at most three numbers besides the task.
  abbrev pub Shows : (ℕ → C → ℕ → Report) → Type 0
  Shows shown = (task : ℕ) (cell : C) (compared : ℕ) → room (shown task cell compared) ≤ 36 + length (decimal task)

  -- What the line of an answer takes besides the digits of its task.
  abbrev act_room : Act C → ℕ
  act_room begin = 25
  act_room (read a) = 36
  act_room (write a c) = 25
  act_room commit = 25
  act_room work = 25
  act_room quit = 25

  told_room : (shown : ℕ → C → ℕ → Report) → Shows shown → (t : ℕ) (act : Act C) (reply : ActReply act) → room (told shown t act reply) ≤ act_room act + length (decimal t)
  told_room shown wide t begin (Ok start) = omega arith
  told_room shown wide t begin (Err q) = omega (arith, refusal_room q)
  told_room shown wide t (read a) (Ok answer) = wide t answer.0 answer.1
  told_room shown wide t (read a) (Err d) = omega (arith, denial_room t d)
  told_room shown wide t (write a c) (Ok count) = omega arith
  told_room shown wide t (write a c) (Err q) = omega (arith, refusal_room q)
  told_room shown wide t commit (Ok answer) = omega arith
  told_room shown wide t commit (Err d) = denial_room t d
  told_room shown wide t work (Ok (Left left)) = omega arith
  told_room shown wide t work (Ok (Done place)) = omega arith
  told_room shown wide t work (Err q) = omega (arith, refusal_room q)
  told_room shown wide t quit (Ok count) = omega arith
  told_room shown wide t quit (Err q) = omega (arith, refusal_room q)

  -- The same, of what a line asks for.
  abbrev asked_room : Option (ℕ × Act C) → ℕ
  asked_room None = 0
  asked_room (Some asked) = act_room asked.1 + length (decimal asked.0)

  -- Seven times the line suffices for what it asks for.
  asks_room : (made : ℕ → ℕ → C) (c : Command) → asked_room (asks made c) ≤ 7 * length (spelled c)
  asks_room made (Make area m) = omega arith
  asks_room made (Begin task) = omega (arith, line_ge 98 task [], decimal-length_ge task)
  asks_room made (Read task address) = omega (arith, line_ge 114 task (address ∷ []), decimal-length_ge task)
  asks_room made (Write task address value None) = omega (arith, line_ge 119 task (address ∷ value ∷ []), decimal-length_ge task)
  asks_room made (Write task address value (Some quality)) = omega (arith, line_ge 119 task (address ∷ value ∷ quality ∷ []), decimal-length_ge task)
  asks_room made (Commit task) = omega (arith, line_ge 99 task [], decimal-length_ge task)
  asks_room made (Work task) = omega (arith, line_ge 107 task [], decimal-length_ge task)
  asks_room made (Quit task) = omega (arith, line_ge 113 task [], decimal-length_ge task)

-- A played line needs room for at most seven times its length.
pub paced : {F C : Type 0} (Φ : Ghosts F) (made : ℕ → ℕ → C) (shown : ℕ → C → ℕ → Report) → Shows shown → (s : State F C) (c : Command) (report : Report) (s' : State F C) → Played Φ made shown s c report s' → room report ≤ 7 * length (spelled c)
paced Φ made shown wide s c report s' played =
    omega (arith, ap room played.tells, told_room shown wide played.task played.act played.reply, ap asked_room played.asked, asks_room made c)
