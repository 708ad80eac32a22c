-- How a run that is not cut short comes out, by the lines of its text.
use Rattle.std.proofs.Common.{◌≡◌, ℕ, ◌+◌, ◌<◌, ◌≤◌, Bool, false, List, [], ◌++◌, length, Some, None, sym, refl, ap, ◌∙◌, subst, append_assoc, arith}
use Rattle.cells.specs.declared.refusal.Refusal.{Refusal}
use Rattle.filters.specs.declared.filter.Filter.{Ghosts}
use Rattle.lines.specs.declared.command.Area.{Area}
use Rattle.lines.specs.declared.command.Command.{Command}
use Rattle.lines.specs.declared.command.Command.TheVariants.{Make}
use Rattle.lines.specs.declared.command.Making.{Making}
use Rattle.lines.specs.declared.report.Report.{Report}
use Rattle.lines.specs.declared.report.Report.TheVariants.{Made, Refused, Broken}
use Rattle.lines.specs.Grammar.{spelled, Allowed}
use Rattle.lines.specs.Printed.{printed}
use Rattle.rules.specs.State.{State}
use Rattle.runner.specs.Law.{Unmade, Outcome, each, broken}
use Rattle.runner.specs.Runs.{NoLine}
use Rattle.runner.specs.Texts.{line_count, Lines, none as no_more, more as one_more, Schedule, makes as made-lines}
use Rattle.runner.proofs.LineCounts.{count-append, count-spelled, count-printed}
use Rattle.runner.proofs.Starting.{StartSays, unmade_says, start_cut, made_says}
use Rattle.runner.proofs.Says.{stop, Says, silent, breaks_off, cut_off, says}

module _ {F C : Type 0} (Φ : Ghosts F) (made : ℕ → ℕ → C) (shown : ℕ → C → ℕ → Report) (area : Area) where
  -- How the lines behind the first come out, if they are not cut short.
  pub data Course (line : ℕ) (text lines : List ℕ) : Type 0 where
    to_the_end : Lines area text → line_count lines ≡ line_count text → Course line text lines
    to_a_broken : (good bad front : List ℕ) → text ≡ good ++ bad → Lines area good → 0 < length bad → NoLine (Some area) bad → lines ≡ front ++ printed (Broken (line + line_count good)) → line_count front ≡ line_count good → Course line text lines

  -- One line more before a course.
  course_more : (line : ℕ) (c : Command) (report : Report) (text rest lines : List ℕ) → Allowed (Some area) c → text ≡ spelled c ++ rest → Course (line + 1) rest lines → Course line text (printed report ++ lines)
  course_more line c report text rest lines allowed spelt (to_the_end all count) = to_the_end (subst (Lines area) (sym spelt) (one_more c rest allowed all)) (count-append (printed report) lines ∙ omega (arith, count-printed report, count, ap line_count spelt, count-append (spelled c) rest, count-spelled c))
  course_more line c report text rest lines allowed spelt (to_a_broken good bad front e all some none last count) =
      let number : line + 1 + line_count good ≡ line + line_count (spelled c ++ good) = omega (arith, count-append (spelled c) good, count-spelled c) in
      to_a_broken (spelled c ++ good) bad (printed report ++ front) (spelt ∙ ap (λ (t : List ℕ). spelled c ++ t) e ∙ sym (append_assoc (spelled c) good bad)) (one_more c good allowed all) some none
      (ap (λ (t : List ℕ). printed report ++ t) (last ∙ ap (λ (n : ℕ). front ++ printed (Broken n)) number) ∙ sym (append_assoc (printed report) front (printed (Broken (line + line_count (spelled c ++ good))))))
      (count-append (printed report) front ∙ omega (arith, count-printed report, count, count-append (spelled c) good, count-spelled c))

  -- What lines say that are not cut short.
  pub course : {s : State F C} {line : ℕ} {text lines : List ℕ} {cut : Bool} → Says Φ made shown area s line text lines cut → cut ≡ false → Course line text lines
  course (silent none) whole = to_the_end (subst (Lines area) (sym none) no_more) (sym (ap line_count none))
  course {line = line} {text = text} (breaks_off some none) whole = to_a_broken [] text [] refl no_more some none (ap (λ (n : ℕ). printed (Broken n)) (omega arith)) refl
  course cut_off whole = absurd (omega (arith, ap stop whole))
  course {line = line} {text = text} (says {lines = lines} c rest report allowed spelt played more) whole = course_more line c report text rest lines allowed spelt (course more whole)

  module _ (w : Making) where
    -- How the run behind a first line comes out, if it is not cut short.
    pub data StartCourse (rest lines : List ℕ) : Type 0 where
      is_unmade : (q : Refusal) → Unmade Φ made w q → lines ≡ printed (Refused q) → StartCourse rest lines
      is_made : (others : List ℕ) → lines ≡ printed (Made area) ++ others → Course 2 rest others → StartCourse rest lines

    -- What the run behind a first line says.
    pub start_course : {rest lines : List ℕ} {cut : Bool} → StartSays Φ made shown area w rest lines cut → cut ≡ false → StartCourse rest lines
    start_course (unmade_says q u) whole = is_unmade q u refl
    start_course start_cut whole = absurd (omega (arith, ap stop whole))
    start_course (made_says {lines = lines} s m more) whole = is_made lines refl (course more whole)

module _ {F : Type 0} (Φ : Ghosts F) where
  -- A run over an area that is not cut short comes out by the lines of its text.
  pub made_outcome : (area : Area) (m : Making) (text rest lines others : List ℕ) → length text ≤ 8192 → Allowed None (Make area m) → text ≡ spelled (Make area m) ++ rest → lines ≡ printed (Made area) ++ others → {C : Type 0} {made : ℕ → ℕ → C} {shown : ℕ → C → ℕ → Report} → Course Φ made shown area 2 rest others → Outcome Φ text lines
  made_outcome area m text rest lines others short allowed spelt e (to_the_end all count) =
      each short (Some area) (subst (λ (t : List ℕ). Schedule t (Some area)) (sym spelt) (made-lines area m rest allowed all))
      (ap line_count e ∙ count-append (printed (Made area)) others ∙ omega (arith, count-printed (Made area), count, ap line_count spelt, count-append (spelled (Make area m)) rest, count-spelled (Make area m)))
  made_outcome area m text rest lines others short allowed spelt e (to_a_broken good bad front split all some none end count) =
      let first = Make area m in
      let number : 2 + line_count good ≡ line_count (spelled first ++ good) + 1 = omega (arith, count-append (spelled first) good, count-spelled first) in
      broken short (spelled first ++ good) bad (printed (Made area) ++ front) (Some area) (spelt ∙ ap (λ (t : List ℕ). spelled first ++ t) split ∙ sym (append_assoc (spelled first) good bad)) (made-lines area m good allowed all) some none
      (e ∙ ap (λ (t : List ℕ). printed (Made area) ++ t) (end ∙ ap (λ (n : ℕ). front ++ printed (Broken n)) number) ∙ sym (append_assoc (printed (Made area)) front (printed (Broken (line_count (spelled first ++ good) + 1)))))
      (count-append (printed (Made area)) front ∙ omega (arith, count-printed (Made area), count, count-append (spelled first) good, count-spelled first))
