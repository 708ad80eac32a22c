-- How a line is read off a text, number by number.
use Rattle.std.proofs.Common.{◌≡◌, ℕ, ◌+◌, ◌<◌, ◌≤◌, List, [], ◌∷◌, ◌++◌, map, length, get_or, drop, sym, ap, ◌∙◌, subst, append_assoc, arith, length-drop}
use Rattle.std.proofs.lemmas.List.{drop_more, map_push}
use Rattle.lines.specs.Decimal.{decimal}
use Rattle.lines.specs.Grammar.{Small}
use Rattle.lines.specs.Line.{spaced, line_of}
use Rattle.lines.specs.Reading.{Digit, ByteAt, NumberAt, NoNumber, NoLine}
use Rattle.lines.proofs.Buffers.{spaced-push}
use Rattle.lines.proofs.Decimals.{decimal-unique}
use Rattle.lines.proofs.Reading.{first_left}

-- What stands behind a number of a line is a space or the line feed, and no digit.
pub no_digit_behind : (ns rest : List ℕ) → Digit (get_or (spaced (map decimal ns) ++ (10 ∷ rest)) 0 0) → ⊥
no_digit_behind [] rest h = omega arith
no_digit_behind (n ∷ ns) rest h = omega arith

-- The numbers of a line and its line feed, with the rest of the text behind them.
pub behind : (first : ℕ) (ns rest : List ℕ) → line_of first (map decimal ns) ++ rest ≡ first ∷ (spaced (map decimal ns) ++ (10 ∷ rest))
behind first ns rest = ap (λ zs. first ∷ zs) (append_assoc (spaced (map decimal ns)) (10 ∷ []) rest)

-- A space, a number and the rest of a line.
pub next_number : (n : ℕ) (ns rest : List ℕ) → spaced (map decimal (n ∷ ns)) ++ (10 ∷ rest) ≡ 32 ∷ (decimal n ++ (spaced (map decimal ns) ++ (10 ∷ rest)))
next_number n ns rest = ap (λ zs. 32 ∷ zs) (append_assoc (decimal n) (spaced (map decimal ns)) (10 ∷ rest))

-- A byte at the position is the first byte of what is left.
pub byte_left : (text : List ℕ) (at b : ℕ) → ByteAt text at b → drop at text ≡ b ∷ drop (at + 1) text
byte_left text at b h = drop_more text at 0 h.inside ∙ ap (λ x. x ∷ drop (at + 1) text) h.byte

-- The first byte of what is left stands at the position.
pub left_byte : (text : List ℕ) (at b : ℕ) (rest : List ℕ) → drop at text ≡ b ∷ rest → ByteAt text at b
left_byte text at b rest e = record { inside = omega (arith, length-drop at text, ap length e); byte = sym (first_left text at) ∙ ap (λ zs. get_or zs 0 0) e }

-- Whatever line stands at `at`, its numbers behind the first `count` of them go on at `end`.
abbrev pub GoesOn : List ℕ → ℕ → ℕ → ℕ → Type 0
GoesOn text at end count =
    (first : ℕ) (ns rest : List ℕ) → length ns ≤ 5 → Small ns → drop at text ≡ line_of first (map decimal ns) ++ rest
    → (ms : List ℕ) × (count + length ms ≤ 5) × Small ms × (drop end text ≡ spaced (map decimal ms) ++ (10 ∷ rest))

module _ (text : List ℕ) (at end count : ℕ) (goes : GoesOn text at end count) where
  -- One number more is read, and the line goes on behind it.
  pub goes_more : (v past : ℕ) → ByteAt text end 32 → NumberAt text (end + 1) v past → GoesOn text at past (count + 1)
  goes_more v past space is first ns rest few small e = go (goes first ns rest few small e).0 (goes first ns rest few small e).1 (goes first ns rest few small e).2 (goes first ns rest few small e).3
    where
      go : (ms : List ℕ) → count + length ms ≤ 5 → Small ms → drop end text ≡ spaced (map decimal ms) ++ (10 ∷ rest) → (ks : List ℕ) × (count + 1 + length ks ≤ 5) × Small ks × (drop past text ≡ spaced (map decimal ks) ++ (10 ∷ rest))
      go [] le little so = absurd (omega (arith, ap (λ zs. get_or zs 0 0) (sym (byte_left text end 32 space) ∙ so)))
      go (m ∷ ms) le little so =
          let behind_space : decimal v ++ drop past text ≡ decimal m ++ (spaced (map decimal ms) ++ (10 ∷ rest)) = sym is.spelt ∙ ap (drop 1) (sym (byte_left text end 32 space) ∙ so ∙ next_number m ms rest) in
          let stop : Digit (get_or (drop past text) 0 0) → ⊥ = λ h. is.stops (subst Digit (first_left text past) h) in
          (ms, omega arith, little.1, (decimal-unique v m (drop past text) (spaced (map decimal ms) ++ (10 ∷ rest)) stop (no_digit_behind ms rest) behind_space).1)

  -- A space with no number behind it is no line.
  pub no_line_number : ByteAt text end 32 → NoNumber text (end + 1) → NoLine text at
  no_line_number space none first ns rest few small e = go (goes first ns rest few small e).0 (goes first ns rest few small e).2 (goes first ns rest few small e).3
    where
      go : (ms : List ℕ) → Small ms → drop end text ≡ spaced (map decimal ms) ++ (10 ∷ rest) → ⊥
      go [] little so = omega (arith, ap (λ zs. get_or zs 0 0) (sym (byte_left text end 32 space) ∙ so))
      go (m ∷ ms) little so = none m (spaced (map decimal ms) ++ (10 ∷ rest)) little.0 (no_digit_behind ms rest) (ap (drop 1) (sym (byte_left text end 32 space) ∙ so ∙ next_number m ms rest))

  -- Behind the last number stands the line feed, or it is no line.
  pub no_line_feed : (ByteAt text end 10 → ⊥) → (count < 5 → ByteAt text end 32 → ⊥) → NoLine text at
  no_line_feed feed space first ns rest few small e = go (goes first ns rest few small e).0 (goes first ns rest few small e).1 (goes first ns rest few small e).3
    where
      go : (ms : List ℕ) → count + length ms ≤ 5 → drop end text ≡ spaced (map decimal ms) ++ (10 ∷ rest) → ⊥
      go [] le so = feed (left_byte text end 10 rest so)
      go (m ∷ ms) le so = space (omega arith) (left_byte text end 32 _ (so ∙ next_number m ms rest))

-- The letter and the first numbers stand at `at`, and `end` is behind them.
abbrev pub SoFar : List ℕ → ℕ → ℕ → List ℕ → Type 0
SoFar text at end ns = drop at text ≡ get_or text at 0 ∷ (spaced (map decimal ns) ++ drop end text)

-- One number more stands behind a space.
pub so_far_more : (text : List ℕ) (at end : ℕ) (ns : List ℕ) (v past : ℕ) → SoFar text at end ns → ByteAt text end 32 → NumberAt text (end + 1) v past → SoFar text at past (ns ++ (v ∷ []))
so_far_more text at end ns v past so space is =
    let words : spaced (map decimal (ns ++ (v ∷ []))) ≡ spaced (map decimal ns) ++ (32 ∷ decimal v) = ap spaced (map_push decimal ns v) ∙ spaced-push (map decimal ns) (decimal v) in
    so
    ∙ ap (λ zs. get_or text at 0 ∷ (spaced (map decimal ns) ++ zs)) (byte_left text end 32 space ∙ ap (λ zs. 32 ∷ zs) is.spelt)
    ∙ ap (λ zs. get_or text at 0 ∷ zs) (sym (append_assoc (spaced (map decimal ns)) (32 ∷ decimal v) (drop past text)) ∙ ap (λ ws. ws ++ drop past text) (sym words))
