-- The lines of a text, and where the first of them ends.
use Rattle.std.proofs.Common.{◌≡◌, ℕ, suc, ◌+◌, ◌<◌, Bool, true, false, cond, eqb, List, [], ◌∷◌, ◌++◌, length, get_or, drop, sym, refl, ap, ◌∙◌, append_assoc, arith, ne_eqb}
use Rattle.std.proofs.lemmas.Bool.{cond-false}
use Rattle.lines.specs.declared.command.Command.{Command}
use Rattle.lines.specs.declared.report.Report.{Report}
use Rattle.lines.specs.Grammar.{spelled}
use Rattle.lines.specs.Printed.{printed}
use Rattle.lines.proofs.Feeds.{NoFeed, OneFeed, spelled_feed, printed_feed}
use Rattle.runner.specs.Texts.{line_count, WholeLines, none, some}

-- The lines of two texts one after the other.
pub count-append : (xs ys : List ℕ) → line_count (xs ++ ys) ≡ line_count xs + line_count ys
count-append [] ys = omega arith
count-append (x ∷ xs) ys = go (eqb x 10) (line_count (xs ++ ys)) (line_count xs) (count-append xs ys)
  where
    go : (b : Bool) (both first : ℕ) → both ≡ first + line_count ys → cond b (suc both) both ≡ cond b (suc first) first + line_count ys
    go true both first e = omega arith
    go false both first e = e

-- Bytes without a line feed end no line.
count_none : (xs : List ℕ) → NoFeed xs → line_count xs ≡ 0
count_none [] h = refl
count_none (x ∷ xs) h = cond-false (eqb x 10) (suc (line_count xs)) (line_count xs) (ne_eqb x 10 h.0) ∙ count_none xs h.1

-- Bytes with one line feed, at their end, are one line.
count_one : (xs : List ℕ) → OneFeed xs → line_count xs ≡ 1
count_one xs f = ap line_count f.whole ∙ count-append f.front (10 ∷ []) ∙ ap (λ (k : ℕ). k + 1) (count_none f.front f.none)

pub count-spelled : (c : Command) → line_count (spelled c) ≡ 1
count-spelled c = count_one (spelled c) (spelled_feed c)

pub count-printed : (r : Report) → line_count (printed r) ≡ 1
count-printed r = count_one (printed r) (printed_feed r)

-- A text of whole lines that has a byte begins with its first line, if a line without another feed begins it.
pub record FirstLine (line rest front behind : List ℕ) : Type 0 where
  pub left : List ℕ
  pub begins : front ≡ line ++ left
  pub goes_on : rest ≡ left ++ behind
  pub whole : WholeLines left

-- The line feed of the front is not before that of the line, so the line lies in the front.
first_feed : (xs ys rest behind : List ℕ) → NoFeed xs → xs ++ (10 ∷ rest) ≡ (ys ++ (10 ∷ [])) ++ behind → FirstLine (xs ++ (10 ∷ [])) rest (ys ++ (10 ∷ [])) behind
first_feed [] [] rest behind h e = record { left = []; begins = refl; goes_on = ap (drop 1) e; whole = none }
first_feed [] (y ∷ ys) rest behind h e = record {
  left = ys ++ (10 ∷ []);
  begins = ap (λ (b : ℕ). b ∷ (ys ++ (10 ∷ []))) (sym (ap (λ (zs : List ℕ). get_or zs 0 0) e));
  goes_on = ap (drop 1) e;
  whole = some ys;
}
first_feed (x ∷ xs) [] rest behind h e = absurd (h.0 (ap (λ (zs : List ℕ). get_or zs 0 0) e))
first_feed (x ∷ xs) (y ∷ ys) rest behind h e =
    let inner = first_feed xs ys rest behind h.1 (ap (drop 1) e) in
    record {
      left = inner.left;
      begins = λ i. sym (ap (λ (zs : List ℕ). get_or zs 0 0) e) i ∷ inner.begins i;
      goes_on = inner.goes_on;
      whole = inner.whole;
    }

-- Where a command begins a text whose front is whole lines, the command is the first of them.
pub first_line : (c : Command) (rest behind : List ℕ) {front : List ℕ} → WholeLines front → 0 < length front → spelled c ++ rest ≡ front ++ behind → FirstLine (spelled c) rest front behind
first_line c rest behind none nonempty e = absurd (omega arith)
first_line c rest behind (some front) nonempty e =
    let f = spelled_feed c in
    let text : f.front ++ (10 ∷ rest) ≡ (front ++ (10 ∷ [])) ++ behind = sym (append_assoc f.front (10 ∷ []) rest) ∙ ap (λ (t : List ℕ). t ++ rest) (sym f.whole) ∙ e in
    let inner = first_feed f.front front rest behind f.none text in
    record {
      left = inner.left;
      begins = inner.begins ∙ ap (λ (t : List ℕ). t ++ inner.left) (sym f.whole);
      goes_on = inner.goes_on;
      whole = inner.whole;
    }

-- Where whole lines begin a text, and a command does too, no other text that they begin lacks a command there.
pub begun : {text text' front : List ℕ} (c : Command) (rest behind behind' : List ℕ) → text ≡ spelled c ++ rest → WholeLines front → 0 < length front → text ≡ front ++ behind → text' ≡ front ++ behind' → (others : List ℕ) × (text' ≡ spelled c ++ others)
begun c rest behind behind' spelt whole nonempty one two =
    let first = first_line c rest behind whole nonempty (sym spelt ∙ one) in
    (first.left ++ behind', two ∙ ap (λ (t : List ℕ). t ++ behind') first.begins ∙ append_assoc (spelled c) first.left behind')
