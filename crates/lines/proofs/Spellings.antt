-- A spelling determines its command.
use Rattle.std.proofs.Common.{◌≡◌, ℕ, ◌≤◌, cond, eqb, List, [], ◌∷◌, ◌++◌, map, length, get_or, drop, Some, None, Option, MatchOption, sym, refl, ap, ◌∙◌, arith}
use Rattle.lines.specs.Decimal.{decimal}
use Rattle.lines.specs.Grammar.{Small, letter, numbers, spelled, Allowed}
use Rattle.lines.specs.Line.{spaced, line_of}
use Rattle.lines.specs.Reading.{Means, Meant, LineAt, CommandAt, NoLine, NoCommand}
use Rattle.lines.specs.declared.command.Area.{Area}
use Rattle.lines.specs.declared.command.Area.TheVariants.{Words, Tags}
use Rattle.lines.specs.declared.command.Command.{Command}
use Rattle.lines.specs.declared.command.Command.TheVariants.{Make, Begin, Read, Write, Commit, Work, Quit}
use Rattle.lines.proofs.Decimals.{decimal-unique}
use Rattle.lines.proofs.Lines.{no_digit_behind, behind, next_number}

-- Numbers up to the line feed are read off in one way.
numbers_unique : (xs ys r s : List ℕ) → spaced (map decimal xs) ++ (10 ∷ r) ≡ spaced (map decimal ys) ++ (10 ∷ s) → (xs ≡ ys) × (r ≡ s)
numbers_unique [] [] r s e = (refl, ap (drop 1) e)
numbers_unique [] (y ∷ ys) r s e = absurd (omega (arith, ap (λ zs. get_or zs 0 0) e))
numbers_unique (x ∷ xs) [] r s e = absurd (omega (arith, ap (λ zs. get_or zs 0 0) e))
numbers_unique (x ∷ xs) (y ∷ ys) r s e =
    let (same, left) = decimal-unique x y (spaced (map decimal xs) ++ (10 ∷ r)) (spaced (map decimal ys) ++ (10 ∷ s)) (no_digit_behind xs r) (no_digit_behind ys s) (ap (drop 1) (sym (next_number x xs r) ∙ e ∙ next_number y ys s)) in
    let (others, rest) = numbers_unique xs ys r s left in
    ((λ i. same i ∷ others i), rest)

-- A line determines its letter, its numbers and what stands behind it.
pub line-unique : (l m : ℕ) (xs ys r s : List ℕ) → line_of l (map decimal xs) ++ r ≡ line_of m (map decimal ys) ++ s → (l ≡ m) × (xs ≡ ys) × (r ≡ s)
line-unique l m xs ys r s e =
    let lines : l ∷ (spaced (map decimal xs) ++ (10 ∷ r)) ≡ m ∷ (spaced (map decimal ys) ++ (10 ∷ s)) = sym (behind l xs r) ∙ e ∙ behind m ys s in
    let (same, rest) = numbers_unique xs ys r s (ap (drop 1) lines) in
    (ap (λ zs. get_or zs 0 0) lines, same, rest)

-- The command of a letter and numbers; where there is none the answer does not matter.
abbrev remade : ℕ → List ℕ → Command
remade l [] = Begin 0
remade l (a ∷ []) = cond (eqb l 98) (Begin a) (cond (eqb l 99) (Commit a) (cond (eqb l 107) (Work a) (Quit a)))
remade l (a ∷ b ∷ []) = Read a b
remade l (a ∷ b ∷ c ∷ []) = Write a b c None
remade l (a ∷ b ∷ c ∷ d ∷ []) = Write a b c (Some d)
remade l (a ∷ b ∷ c ∷ d ∷ e ∷ ns) = Make (cond (eqb l 109) Words Tags) (record { slots = a; tasks = b; pairs = c; last = d; cells = e })

-- A command is made again from its letter and its numbers.
remade_is : (c : Command) → remade (letter c) (numbers c) ≡ c
remade_is (Make Words m) = refl
remade_is (Make Tags m) = refl
remade_is (Write task address value None) = refl
remade_is (Write task address value (Some quality)) = refl
remade_is _ = refl

-- Where the spellings of two commands begin the same text, the commands and what stands behind them are the same.
pub spelled-unique : (c d : Command) (r s : List ℕ) → spelled c ++ r ≡ spelled d ++ s → (c ≡ d) × (r ≡ s)
spelled-unique c d r s e =
    let u = line-unique (letter c) (letter d) (numbers c) (numbers d) r s e in
    (sym (remade_is c) ∙ (λ i. remade (u.0 i) (u.1 i)) ∙ remade_is d, u.2)

-- Two commands with one spelling are equal.
pub spelled_injective : (c d : Command) → spelled c ≡ spelled d → c ≡ d
spelled_injective c d e = (spelled-unique c d [] [] (ap (λ bs. bs ++ []) e)).0

-- An allowed command has at most five numbers, and they are small.
pub allowed_small : (e : Option Area) (c : Command) → Allowed e c → (length (numbers c) ≤ 5) × Small (numbers c)
allowed_small None (Make area m) a = (omega arith, (omega (arith, a.0), (omega (arith, a.1), (omega (arith, a.2), (a.3, (omega (arith, a.4), tt))))))
allowed_small None _ a = absurd a
allowed_small (Some area) (Make other m) a = absurd a
allowed_small (Some area) (Begin task) a = (omega arith, (a, tt))
allowed_small (Some area) (Read task address) a = (omega arith, (a.0, (a.1, tt)))
allowed_small (Some area) (Write task address value None) a = (omega arith, (a.1, (a.2, (a.3, tt))))
allowed_small (Some area) (Write task address value (Some quality)) a = (omega arith, (a.1, (a.2, (a.3, (omega (arith, a.4), tt)))))
allowed_small (Some area) (Commit task) a = (omega arith, (a, tt))
allowed_small (Some area) (Work task) a = (omega arith, (a, tt))
allowed_small (Some area) (Quit task) a = (omega arith, (a, tt))

-- Where no line stands, no command does.
pub no_command_line : (e : Option Area) (text : List ℕ) (at : ℕ) → NoLine text at → NoCommand e text at
no_command_line e text at none c rest a spelt = let (few, small) = allowed_small e c a in none (letter c) (numbers c) rest few small spelt

module _ (e : Option Area) (text : List ℕ) (at first : ℕ) (ns : List ℕ) (end : ℕ) (stands : LineAt text at first ns end) where
  -- A line whose letter and numbers are those of an allowed command is that command.
  pub command_line : (c : Command) → Means e first ns c → CommandAt e text at end c
  command_line c m = record {
    spelt = stands.spelt ∙ (λ i. line_of (sym m.begins i) (map decimal (sym m.goes i)) ++ drop end text);
    allowed = m.allowed;
    forward = stands.forward;
    within = stands.within;
  }

  -- A line whose letter and numbers are those of no allowed command is no command.
  pub no_command_meant : ((c : Command) → Means e first ns c → ⊥) → NoCommand e text at
  no_command_meant none c rest a spelt =
      let u = line-unique (letter c) first (numbers c) ns rest (drop end text) (sym spelt ∙ stands.spelt) in
      none c (record { allowed = a; begins = u.0; goes = u.1 })

  -- So what its letter and numbers mean stands at the position.
  pub line_meant : (r : Option Command) → Meant e first ns r → MatchOption r (NoCommand e text at) (CommandAt e text at end)
  line_meant None none = no_command_meant none
  line_meant (Some c) m = command_line c m
