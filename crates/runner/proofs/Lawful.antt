-- Every run keeps the law, where the filter leaves nothing open.
use Rattle.std.proofs.Common.{◌≡◌, ℕ, suc, ◌+◌, ◌*◌, ◌%◌, ◌<◌, ◌≤◌, Bool, true, false, List, [], ◌∷◌, ◌++◌, length, None, sym, refl, ap, ◌∙◌, subst, arith}
use Rattle.filters.specs.declared.filter.Filter.{Ghosts}
use Rattle.forced.specs.Play.{Exact}
use Rattle.lines.specs.declared.command.Area.{Area}
use Rattle.lines.specs.declared.command.Area.TheVariants.{Words, Tags}
use Rattle.lines.specs.declared.command.Command.{Command}
use Rattle.lines.specs.declared.command.Command.TheVariants.{Make}
use Rattle.lines.specs.declared.command.Making.{Making}
use Rattle.lines.specs.declared.report.Report.TheVariants.{Broken}
use Rattle.lines.specs.Grammar.{spelled, Allowed}
use Rattle.lines.specs.Printed.{printed}
use Rattle.lines.proofs.Spellings.{spelled-unique}
use Rattle.runner.specs.Law.{output, Outcome, long, unmade, each, broken, Agreed, alike as both-alike, over as both-over, first_cut as cut-first, second_cut as cut-second, Law}
use Rattle.runner.specs.Runs.{NoLine, from, word_made, word_shown, tag_made, tag_shown, FirstLine, Runs, long as run_long, empty, breaks, starts}
use Rattle.runner.specs.Texts.{line_count, WholeLines, Schedule, nothing as no_lines}
use Rattle.runner.proofs.Agreement.{AgreedLines, alike, over, first_cut, second_cut}
use Rattle.runner.proofs.LineCounts.{count-append, count-spelled, first_line, begun}
use Rattle.runner.proofs.Starting.{Heard, closing, StartSays, start_heard, start_agree}
use Rattle.runner.proofs.Courses.{StartCourse, is_unmade, is_made, start_course, made_outcome}
use Rattle.runner.proofs.Says.{nothing, prints_output, stop}

module _ {F : Type 0} (Φ : Ghosts F) where
  -- What the run behind a first line prints, over words or over tags. No other line makes an engine.
  abbrev FirstSays : Command → List ℕ → List ℕ → Bool → Type 0
  FirstSays (Make Words m) rest lines cut = StartSays Φ word_made word_shown Words m rest lines cut
  FirstSays (Make Tags m) rest lines cut = StartSays Φ tag_made tag_shown Tags m rest lines cut
  FirstSays _ rest lines cut = ⊥

  -- The command makes an engine.
  data MakesOne : Command → Type 0 where
    make_one : (area : Area) (m : Making) → MakesOne (Make area m)

  -- A first line makes an engine.
  first_makes : (c : Command) → Allowed None c → MakesOne c
  first_makes (Make area m) allowed = make_one area m
  first_makes _ allowed = absurd allowed

  -- A run behind a first line prints what it says, over either area.
  first_heard : {c : Command} (rest bytes after : List ℕ) (answer : ℕ) → MakesOne c → FirstLine Φ c rest (from bytes 0) after answer → Heard (FirstSays c rest) bytes after answer
  first_heard rest bytes after answer (make_one Words m) st = start_heard Φ word_made word_shown Words m rest bytes after answer st
  first_heard rest bytes after answer (make_one Tags m) st = start_heard Φ tag_made tag_shown Tags m rest bytes after answer st

  -- Behind the same first line, what is printed for the same whole lines is the same, over either area.
  first_agree : Exact Φ → {c : Command} (rest rest' p q : List ℕ) (a b : Bool) → MakesOne c → FirstSays c rest p a → FirstSays c rest' q b → (left behind behind' : List ℕ) → WholeLines left → rest ≡ left ++ behind → rest' ≡ left ++ behind' → AgreedLines (suc (line_count left)) p q a b
  first_agree exact rest rest' p q a b (make_one Words m) one two left behind behind' whole e e' = start_agree Φ word_made word_shown Words m exact one two left behind behind' whole e e'
  first_agree exact rest rest' p q a b (make_one Tags m) one two left behind behind' whole e e' = start_agree Φ tag_made tag_shown Tags m exact one two left behind behind' whole e e'

  -- A run behind a first line comes out by the lines of its text, over either area.
  first_outcome : {c : Command} (text rest lines : List ℕ) (cut : Bool) → length text ≤ 8192 → MakesOne c → Allowed None c → text ≡ spelled c ++ rest → FirstSays c rest lines cut → cut ≡ false → Outcome Φ text lines
  first_outcome text rest lines cut short (make_one Words m) allowed spelt said whole = go (start_course Φ word_made word_shown Words m said whole)
    where
      go : StartCourse Φ word_made word_shown Words m rest lines → Outcome Φ text lines
      go (is_unmade q u e) = unmade short (Make Words m) rest q spelt allowed u e
      go (is_made others e more) = made_outcome Φ Words m text rest lines others short allowed spelt e more
  first_outcome text rest lines cut short (make_one Tags m) allowed spelt said whole = go (start_course Φ tag_made tag_shown Tags m said whole)
    where
      go : StartCourse Φ tag_made tag_shown Tags m rest lines → Outcome Φ text lines
      go (is_unmade q u e) = unmade short (Make Tags m) rest q spelt allowed u e
      go (is_made others e more) = made_outcome Φ Tags m text rest lines others short allowed spelt e more

  -- What a whole run prints.
  data Tells (text : List ℕ) : List ℕ → Bool → Type 0 where
    tells_long : 8192 < length text → Tells text (printed (Broken 0)) false
    tells_nothing : text ≡ [] → Tells text [] false
    tells_broken : length text ≤ 8192 → 0 < length text → NoLine None text → Tells text (printed (Broken 1)) false
    tells_cut : Tells text [] true
    tells_start : {lines : List ℕ} {cut : Bool} → length text ≤ 8192 → (c : Command) (rest : List ℕ) → Allowed None c → text ≡ spelled c ++ rest → FirstSays c rest lines cut → Tells text lines cut

  -- A whole run prints what it says.
  heard : (text bytes after : List ℕ) (answer : ℕ) → Runs Φ text bytes after answer → Heard (Tells text) bytes after answer
  heard text bytes after answer (run_long far closes) = closing (Tells text) (Broken 0) bytes after answer (tells_long far) tells_cut closes
  heard text bytes after answer (empty none same e) = record { lines = []; cut = false; said = tells_nothing none; prints = nothing bytes 0 after answer false (omega arith) same (omega arith) }
  heard text bytes after answer (breaks short some none closes) = closing (Tells text) (Broken 1) bytes after answer (tells_broken short some none) tells_cut closes
  heard text bytes after answer (starts short c rest allowed spelt st) =
      let h = first_heard rest bytes after answer (first_makes c allowed) st in
      record { lines = h.lines; cut = h.cut; said = tells_start short c rest allowed spelt h.said; prints = h.prints }

  -- A run that is not cut short comes out by the lines of its text.
  tells_outcome : {text lines : List ℕ} {cut : Bool} → Tells text lines cut → cut ≡ false → Outcome Φ text lines
  tells_outcome (tells_long far) whole = long far refl
  tells_outcome {text = text} (tells_nothing none) whole = each (omega (arith, ap length none)) None (subst (λ (t : List ℕ). Schedule t None) (sym none) no_lines) (sym (ap line_count none))
  tells_outcome {text = text} (tells_broken short some none) whole = broken short [] text [] None refl no_lines some none refl refl
  tells_outcome tells_cut whole = absurd (omega (arith, ap stop whole))
  tells_outcome {text = text} {lines = lines} {cut = cut} (tells_start short c rest allowed spelt said) whole = first_outcome text rest lines cut short (first_makes c allowed) allowed spelt said whole

  -- What is printed for the same whole lines of two texts is the same.
  tells_agree : Exact Φ → {text text' p q : List ℕ} {a b : Bool} → Tells text p a → Tells text' q b → length text ≤ 8192 → length text' ≤ 8192 → (front rest rest' : List ℕ) → WholeLines front → text ≡ front ++ rest → text' ≡ front ++ rest' → AgreedLines (line_count front) p q a b
  tells_agree exact {p = p} {q = q} one two short short' [] rest rest' whole e e' = alike [] p q refl refl refl
  tells_agree exact (tells_long far) two short short' (x ∷ xs) rest rest' whole e e' = absurd (omega arith)
  tells_agree exact (tells_nothing none) two short short' (x ∷ xs) rest rest' whole e e' = absurd (omega (arith, ap length none, ap length e))
  tells_agree exact {q = q} tells_cut two short short' (x ∷ xs) rest rest' whole e e' = first_cut q refl refl
  tells_agree exact (tells_broken s₁ some none) (tells_long far) short short' (x ∷ xs) rest rest' whole e e' = absurd (omega arith)
  tells_agree exact (tells_broken s₁ some none) (tells_nothing nil) short short' (x ∷ xs) rest rest' whole e e' = absurd (omega (arith, ap length nil, ap length e'))
  tells_agree exact (tells_broken s₁ some none) (tells_broken s₂ some' none') short short' (x ∷ xs) rest rest' whole e e' = over refl
  tells_agree exact {p = p} (tells_broken s₁ some none) tells_cut short short' (x ∷ xs) rest rest' whole e e' = second_cut p refl refl
  tells_agree exact (tells_broken s₁ some none) (tells_start s₂ c r allowed spelt said) short short' (x ∷ xs) rest rest' whole e e' =
      let (others, there) = begun c r rest' rest spelt whole (omega arith) e' e in
      absurd (none c others allowed there)
  tells_agree exact (tells_start s₁ c r allowed spelt said) (tells_long far) short short' (x ∷ xs) rest rest' whole e e' = absurd (omega arith)
  tells_agree exact (tells_start s₁ c r allowed spelt said) (tells_nothing nil) short short' (x ∷ xs) rest rest' whole e e' = absurd (omega (arith, ap length nil, ap length e'))
  tells_agree exact {p = p} (tells_start s₁ c r allowed spelt said) tells_cut short short' (x ∷ xs) rest rest' whole e e' = second_cut p refl refl
  tells_agree exact (tells_start s₁ c r allowed spelt said) (tells_broken s₂ some none) short short' (x ∷ xs) rest rest' whole e e' =
      let (others, there) = begun c r rest rest' spelt whole (omega arith) e e' in
      absurd (none c others allowed there)
  tells_agree exact {p = p} {q = q} {a = a} {b = b} (tells_start s₁ c r allowed spelt said) (tells_start s₂ c' r' allowed' spelt' said') short short' (x ∷ xs) rest rest' whole e e' =
      let first = first_line c r rest whole (omega arith) (sym spelt ∙ e) in
      let second = first_line c' r' rest' whole (omega arith) (sym spelt' ∙ e') in
      let unique = spelled-unique c c' first.left second.left (sym first.begins ∙ second.begins) in
      let moved : FirstSays c r' q b = subst (λ (d : Command). FirstSays d r' q b) (sym unique.0) said' in
      let count : line_count (x ∷ xs) ≡ suc (line_count first.left) = ap line_count first.begins ∙ count-append (spelled c) first.left ∙ omega (arith, count-spelled c) in
      subst (λ (n : ℕ). AgreedLines n p q a b) (sym count) (first_agree exact r r' p q a b (first_makes c allowed) said moved first.left rest rest' first.whole first.goes_on (second.goes_on ∙ ap (λ (t : List ℕ). t ++ rest') (sym unique.1)))

-- The answer of a run that is cut short.
cut_answer : (n : ℕ) (b : Bool) (answer : ℕ) → b ≡ true → answer ≡ n * 16 + stop b → answer % 16 ≡ 10
cut_answer n b answer e counts = omega (arith, ap stop e)

-- Whether a run is cut short is told by its answer.
whole_flag : (n : ℕ) (b : Bool) (answer : ℕ) → answer ≡ n * 16 + stop b → answer % 16 ≡ 0 → b ≡ false
whole_flag n true answer counts rest = absurd (omega arith)
whole_flag n false answer counts rest = refl

-- The agreement of what two runs say is that of their outputs.
agreed_outputs : (n m k : ℕ) (p q p' q' : List ℕ) (a b : Bool) (answer answer' : ℕ) → p' ≡ p → q' ≡ q → answer ≡ m * 16 + stop a → answer' ≡ k * 16 + stop b → AgreedLines n p q a b → Agreed n p' q' answer answer'
agreed_outputs n m k p q p' q' a b answer answer' e f c c' (alike same x y count u v) = both-alike same x y count (e ∙ u) (f ∙ v)
agreed_outputs n m k p q p' q' a b answer answer' e f c c' (over u) = both-over (e ∙ u ∙ sym f)
agreed_outputs n m k p q p' q' a b answer answer' e f c c' (first_cut rest cut v) = cut-first rest (cut_answer m a answer cut c) (f ∙ v ∙ ap (λ (t : List ℕ). t ++ rest) (sym e))
agreed_outputs n m k p q p' q' a b answer answer' e f c c' (second_cut rest cut u) = cut-second rest (cut_answer k b answer' cut c') (e ∙ u ∙ ap (λ (t : List ℕ). t ++ rest) (sym f))

-- Every run keeps the law.
pub lawful : {F : Type 0} (Φ : Ghosts F) → Exact Φ → (text bytes after : List ℕ) (answer : ℕ) → Runs Φ text bytes after answer → Law Φ text bytes after answer
lawful Φ exact text bytes after answer run =
    let h = heard Φ text bytes after answer run in
    let shows = prints_output bytes after h.lines answer h.cut h.prints in
    record {
      outcome = λ rest. subst (λ (t : List ℕ). Outcome Φ text t) (sym shows) (tells_outcome Φ h.said (whole_flag (0 + length h.lines) h.cut answer h.prints.counts rest));
      agrees = λ text' bytes' after' answer' run' short short' front rest rest' whole e e'.
          let h' = heard Φ text' bytes' after' answer' run' in
          agreed_outputs (line_count front) (0 + length h.lines) (0 + length h'.lines) h.lines h'.lines (output after answer) (output after' answer') h.cut h'.cut answer answer' shows (prints_output bytes' after' h'.lines answer' h'.cut h'.prints) h.prints.counts h'.prints.counts (tells_agree Φ exact h.said h'.said short short' front rest rest' whole e e');
    }
