-- Two texts that agree up to a line agree in what is printed up to it, where the filter leaves nothing open.
use Rattle.std.proofs.Common.{◌≡◌, ℕ, suc, ◌+◌, Bool, true, List, [], ◌∷◌, ◌++◌, length, Some, Option, sym, refl, ap, ◌∙◌, subst, append_assoc, arith}
use Rattle.filters.specs.declared.filter.Filter.{Ghosts}
use Rattle.forced.specs.Play.{Exact}
use Rattle.forced.proofs.Played.{forced}
use Rattle.lines.specs.declared.command.Area.{Area}
use Rattle.lines.specs.declared.command.Command.{Command}
use Rattle.lines.specs.declared.report.Report.{Report}
use Rattle.lines.specs.Grammar.{spelled}
use Rattle.lines.specs.Printed.{printed}
use Rattle.lines.proofs.Spellings.{spelled-unique}
use Rattle.rules.specs.Calls.{Act, by, ActReply}
use Rattle.rules.specs.State.{State}
use Rattle.rules.specs.Steps.{Step}
use Rattle.runner.specs.Lines.{told, Played}
use Rattle.runner.specs.Texts.{line_count, WholeLines}
use Rattle.runner.proofs.LineCounts.{count-append, count-spelled, count-printed, first_line, begun}
use Rattle.runner.proofs.Says.{Says, silent, breaks_off, cut_off, says}

-- What two runs print agrees over the first n lines; a and b say whether they are cut short.
pub data AgreedLines (n : ℕ) (p q : List ℕ) (a b : Bool) : Type 0 where
  alike : (same x y : List ℕ) → line_count same ≡ n → p ≡ same ++ x → q ≡ same ++ y → AgreedLines n p q a b
  over : p ≡ q → AgreedLines n p q a b
  first_cut : (rest : List ℕ) → a ≡ true → q ≡ p ++ rest → AgreedLines n p q a b
  second_cut : (rest : List ℕ) → b ≡ true → p ≡ q ++ rest → AgreedLines n p q a b

-- One line more before what agrees.
pub line_before : {n : ℕ} {p q : List ℕ} {a b : Bool} (line line' : List ℕ) → line ≡ line' → line_count line ≡ 1 → AgreedLines n p q a b → AgreedLines (suc n) (line ++ p) (line' ++ q) a b
line_before line line' e one (alike same x y count u v) = alike (line ++ same) x y (count-append line same ∙ omega arith) (ap (λ (t : List ℕ). line ++ t) u ∙ sym (append_assoc line same x)) (ap (λ (t : List ℕ). line' ++ t) v ∙ ap (λ (l : List ℕ). l ++ (same ++ y)) (sym e) ∙ sym (append_assoc line same y))
line_before line line' e one (over u) = over (λ i. e i ++ u i)
line_before {p = p} line line' e one (first_cut rest cut v) = first_cut rest cut (ap (λ (t : List ℕ). line' ++ t) v ∙ ap (λ (l : List ℕ). l ++ (p ++ rest)) (sym e) ∙ sym (append_assoc line p rest))
line_before {q = q} line line' e one (second_cut rest cut u) = second_cut rest cut (ap (λ (t : List ℕ). line ++ t) u ∙ ap (λ (l : List ℕ). l ++ (q ++ rest)) e ∙ sym (append_assoc line' q rest))

-- A text with a byte is not empty.
not_empty : {text : List ℕ} (b : ℕ) (bs rest : List ℕ) → text ≡ (b ∷ bs) ++ rest → text ≡ [] → ⊥
not_empty b bs rest e none = omega (arith, ap length e, ap length none)

module _ {F C : Type 0} (Φ : Ghosts F) (exact : Exact Φ) (made : ℕ → ℕ → C) (shown : ℕ → C → ℕ → Report) (area : Area) where
  -- A call has one answer, so one line, and one state after it.
  step_same : (s : State F C) (x y : ℕ × Act C) → x ≡ y → (r₁ : ActReply x.1) (r₂ : ActReply y.1) (s₁ s₂ : State F C) → Step Φ s (by x.0 x.1) r₁ s₁ → Step Φ s (by y.0 y.1) r₂ s₂ → (told shown x.0 x.1 r₁ ≡ told shown y.0 y.1 r₂) × (s₁ ≡ s₂)
  step_same s x y e r₁ r₂ s₁ s₂ one two =
      subst (λ (z : ℕ × Act C). (r : ActReply z.1) → Step Φ s (by z.0 z.1) r s₂ → (told shown x.0 x.1 r₁ ≡ told shown z.0 z.1 r) × (s₁ ≡ s₂)) e
      (λ r step. let f = forced Φ exact s (by x.0 x.1) r₁ r s₁ s₂ one step in (ap (told shown x.0 x.1) f.0, f.1))
      r₂ two

  -- So a line is played in one way.
  played_same : {s s₁ s₂ : State F C} {c : Command} {r₁ r₂ : Report} → Played Φ made shown s c r₁ s₁ → Played Φ made shown s c r₂ s₂ → (r₁ ≡ r₂) × (s₁ ≡ s₂)
  played_same {s} {s₁} {s₂} p q =
      let one : ℕ × Act C = (p.task, p.act) in
      let two : ℕ × Act C = (q.task, q.act) in
      let asked : ◌≡◌ {A = Option (ℕ × Act C)} (Some one) (Some two) = sym p.asked ∙ q.asked in
      let e : one ≡ two = cc in
      let same = step_same s one two e p.reply q.reply s₁ s₂ p.step q.step in
      (p.tells ∙ same.0 ∙ sym q.tells, same.1)

  -- What is printed for the same whole lines from the same state is the same.
  pub agree : {s : State F C} {line : ℕ} {text text' p q : List ℕ} {a b : Bool} → Says Φ made shown area s line text p a → Says Φ made shown area s line text' q b → (front rest rest' : List ℕ) → WholeLines front → text ≡ front ++ rest → text' ≡ front ++ rest' → AgreedLines (line_count front) p q a b
  agree {p = p} {q = q} one two [] rest rest' whole e e' = alike [] p q refl refl refl
  agree {q = q} cut_off two (b ∷ bs) rest rest' whole e e' = first_cut q refl refl
  agree (silent none) two (b ∷ bs) rest rest' whole e e' = absurd (not_empty b bs rest e none)
  agree {p = p} (breaks_off some none) cut_off (b ∷ bs) rest rest' whole e e' = second_cut p refl refl
  agree (breaks_off some none) (silent nil) (b ∷ bs) rest rest' whole e e' = absurd (not_empty b bs rest' e' nil)
  agree (breaks_off some none) (breaks_off some' none') (b ∷ bs) rest rest' whole e e' = over refl
  agree (breaks_off some none) (says c r report allowed spelt played more) (b ∷ bs) rest rest' whole e e' =
      let (others, there) = begun c r rest' rest spelt whole (omega arith) e' e in
      absurd (none c others allowed there)
  agree {p = p} (says c r report allowed spelt played more) cut_off (b ∷ bs) rest rest' whole e e' = second_cut p refl refl
  agree (says c r report allowed spelt played more) (silent nil) (b ∷ bs) rest rest' whole e e' = absurd (not_empty b bs rest' e' nil)
  agree (says c r report allowed spelt played more) (breaks_off some none) (b ∷ bs) rest rest' whole e e' =
      let (others, there) = begun c r rest rest' spelt whole (omega arith) e e' in
      absurd (none c others allowed there)
  agree {s = s} {line = line} (says {s' = s₁} {lines = p} {cut = b₁} c r report allowed spelt played more) (says {s' = s₂} {lines = q} {cut = b₂} c' r' report' allowed' spelt' played' more') (b ∷ bs) rest rest' whole e e' =
      let first = first_line c r rest whole (omega arith) (sym spelt ∙ e) in
      let second = first_line c' r' rest' whole (omega arith) (sym spelt' ∙ e') in
      let unique = spelled-unique c c' first.left second.left (sym first.begins ∙ second.begins) in
      let played'' : Played Φ made shown s c report' s₂ = subst (λ (d : Command). Played Φ made shown s d report' s₂) (sym unique.0) played' in
      let same = played_same played played'' in
      let more'' : Says Φ made shown area s₁ (line + 1) r' q b₂ = subst (λ (z : State F C). Says Φ made shown area z (line + 1) r' q b₂) (sym same.1) more' in
      let later = agree more more'' first.left rest rest' first.whole first.goes_on (second.goes_on ∙ ap (λ (t : List ℕ). t ++ rest') (sym unique.1)) in
      let count : line_count (b ∷ bs) ≡ suc (line_count first.left) = ap line_count first.begins ∙ count-append (spelled c) first.left ∙ omega (arith, count-spelled c) in
      subst (λ (n : ℕ). AgreedLines n (printed report ++ p) (printed report' ++ q) b₁ b₂) (sym count) (line_before (printed report) (printed report') (ap printed same.0) (count-printed report) later)
