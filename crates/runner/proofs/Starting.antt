-- What the run behind a first line prints.
use Rattle.std.proofs.Common.{◌≡◌, ℕ, suc, Bool, true, false, List, [], ◌++◌, sym, refl, ap, subst, arith}
use Rattle.cells.specs.declared.refusal.Refusal.{Refusal}
use Rattle.filters.specs.declared.filter.Filter.{Ghosts}
use Rattle.forced.specs.Play.{Exact}
use Rattle.lines.specs.declared.command.Area.{Area}
use Rattle.lines.specs.declared.command.Making.{Making}
use Rattle.lines.specs.declared.report.Report.{Report}
use Rattle.lines.specs.declared.report.Report.TheVariants.{Made, Refused}
use Rattle.lines.specs.Printed.{printed}
use Rattle.rules.specs.State.{State}
use Rattle.runner.specs.Law.{Unmade}
use Rattle.runner.specs.Runs.{from, Closes, fits, misses, handed, lacks, prints, Over, refused, accepted, Starts}
use Rattle.runner.specs.Texts.{line_count, WholeLines}
use Rattle.runner.proofs.Agreement.{AgreedLines, over, first_cut, second_cut, line_before, agree}
use Rattle.runner.proofs.Outputs.{put_length}
use Rattle.runner.proofs.LineCounts.{count-printed}
use Rattle.runner.proofs.Makings.{MadeOf, refused_or_made, unmade_once, made_once}
use Rattle.runner.proofs.Says.{Prints, nothing, prints_more, prints_last, Says, spoken}

-- What a run says from the start of its output, and that the output holds just that.
pub record Heard (Said : List ℕ → Bool → Type 0) (bytes after : List ℕ) (answer : ℕ) : Type 0 where
  pub lines : List ℕ
  pub cut : Bool
  pub said : Said lines cut
  pub prints : Prints (from bytes 0) after answer lines cut

-- A run that prints just one line, or is cut short before it.
pub closing : (Said : List ℕ → Bool → Type 0) (report : Report) (bytes after : List ℕ) (answer : ℕ) → Said (printed report) false → Said [] true → Closes report (from bytes 0) after answer → Heard Said bytes after answer
closing Said report bytes after answer all none (fits end put e) = record { lines = printed report; cut = false; said = all; prints = prints_last (printed report) bytes after 0 end answer put e }
closing Said report bytes after answer all none (misses full e) = record { lines = []; cut = true; said = none; prints = nothing bytes 0 after answer true (omega arith) full.same e }

module _ {F C : Type 0} (Φ : Ghosts F) (made : ℕ → ℕ → C) (shown : ℕ → C → ℕ → Report) (area : Area) (w : Making) where
  -- What the run behind a first line prints.
  pub data StartSays (rest : List ℕ) : List ℕ → Bool → Type 0 where
    unmade_says : (q : Refusal) → Unmade Φ made w q → StartSays rest (printed (Refused q)) false
    start_cut : StartSays rest [] true
    made_says : {lines : List ℕ} {cut : Bool} (s : State F C) → MadeOf Φ made w s → Says Φ made shown area s 2 rest lines cut → StartSays rest (printed (Made area) ++ lines) cut

  -- A run behind a first line prints what it says.
  pub start_heard : (rest bytes after : List ℕ) (answer : ℕ) → Starts Φ made shown area w rest (from bytes 0) after answer → Heard (StartSays rest) bytes after answer
  start_heard rest bytes after answer st = go st.over
    where
      go : Over Φ made shown area (handed made w st.ring st.table) rest (from bytes 0) after answer → Heard (StartSays rest) bytes after answer
      go (refused q u closes) = closing (StartSays rest) (Refused q) bytes after answer (unmade_says q (record { ring = st.ring; table = st.table; ring_length = st.ring_length; table_length = st.table_length; refused = u })) start_cut closes
      go (accepted s m (lacks full e)) = record { lines = []; cut = true; said = start_cut; prints = nothing bytes 0 after answer true (omega arith) full.same e }
      go (accepted s m (prints middle end put plays)) =
          let later = spoken Φ made shown area {o = from middle end} (omega (arith, put.within, put_length put)) plays in
          record {
            lines = printed (Made area) ++ later.lines;
            cut = later.cut;
            said = made_says s (record { ring = st.ring; table = st.table; ring_length = st.ring_length; table_length = st.table_length; makes = m }) later.said;
            prints = prints_more (printed (Made area)) bytes middle after later.lines 0 end answer later.cut put later.prints;
          }

  -- Behind the same first line, what is printed for the same whole lines is the same.
  pub start_agree : (exact : Exact Φ) {rest rest' p q : List ℕ} {a b : Bool} → StartSays rest p a → StartSays rest' q b → (left behind behind' : List ℕ) → WholeLines left → rest ≡ left ++ behind → rest' ≡ left ++ behind' → AgreedLines (suc (line_count left)) p q a b
  start_agree exact {q = q} start_cut two left behind behind' whole e e' = first_cut q refl refl
  start_agree exact {p = p} (unmade_says q u) start_cut left behind behind' whole e e' = second_cut p refl refl
  start_agree exact (unmade_says q u) (unmade_says q' u') left behind behind' whole e e' = over (ap (λ (r : Refusal). printed (Refused r)) (unmade_once Φ exact made w q q' u u'))
  start_agree exact (unmade_says q u) (made_says s m more) left behind behind' whole e e' = absurd (refused_or_made Φ exact made w q s u m)
  start_agree exact {p = p} (made_says s m more) start_cut left behind behind' whole e e' = second_cut p refl refl
  start_agree exact (made_says s m more) (unmade_says q u) left behind behind' whole e e' = absurd (refused_or_made Φ exact made w q s u m)
  start_agree exact {rest' = rest'} (made_says s m more) (made_says {lines = lines'} {cut = cut'} s' m' more') left behind behind' whole e e' =
      let same = made_once Φ exact made w s s' m m' in
      let moved : Says Φ made shown area s 2 rest' lines' cut' = subst (λ (z : State F C). Says Φ made shown area z 2 rest' lines' cut') (sym same) more' in
      line_before (printed (Made area)) (printed (Made area)) refl (count-printed (Made area)) (agree Φ exact made shown area more moved left behind behind' whole e e')
