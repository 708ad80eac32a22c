-- What the lines of a text print, whatever output they are printed into.
use Rattle.std.proofs.Common.{◌≡◌, ℕ, ◌+◌, ◌*◌, ◌/◌, ◌<◌, ◌≤◌, Bool, true, false, List, [], ◌++◌, length, take, drop, Some, sym, refl, ap, ◌∙◌, subst, append_assoc, append-nil, arith, length-append}
use Rattle.std.proofs.lemmas.List.{length-take-le, take_at, take-append-drop}
use Rattle.std.proofs.lemmas.Slice.{drop-append-drop}
use Rattle.filters.specs.declared.filter.Filter.{Ghosts}
use Rattle.lines.specs.declared.command.Area.{Area}
use Rattle.lines.specs.declared.command.Command.{Command}
use Rattle.lines.specs.declared.report.Report.{Report}
use Rattle.lines.specs.declared.report.Report.TheVariants.{Broken}
use Rattle.lines.specs.Grammar.{spelled, Allowed}
use Rattle.lines.specs.Printed.{printed, Put}
use Rattle.rules.specs.State.{State}
use Rattle.runner.specs.Law.{output}
use Rattle.runner.specs.Lines.{Played}
use Rattle.runner.specs.Runs.{NoLine, Output, from, fits, misses, Plays, ends, breaks, stops, goes}
use Rattle.runner.proofs.Outputs.{put_length}

-- What the answer has besides the bytes written: 10 where the run is cut short.
abbrev pub stop : Bool → ℕ
stop false = 0
stop true = 10

-- The run printed these bytes behind those written before, and changed no other.
pub record Prints (o : Output) (after : List ℕ) (answer : ℕ) (lines : List ℕ) (cut : Bool) : Type 0 where
  pub within : o.written + length lines ≤ length o.bytes
  pub text : after ≡ take o.written o.bytes ++ (lines ++ drop (o.written + length lines) o.bytes)
  pub counts : answer ≡ (o.written + length lines) * 16 + stop cut

-- A run that prints nothing.
pub prints_none : (bytes : List ℕ) (written answer : ℕ) (cut : Bool) → written ≤ length bytes → answer ≡ written * 16 + stop cut → Prints (from bytes written) bytes answer [] cut
prints_none bytes written answer cut short e = record {
  within = omega arith;
  text = sym (take-append-drop written bytes) ∙ ap (λ (k : ℕ). take written bytes ++ drop k bytes) (omega arith);
  counts = omega arith;
}

-- The same, where the output is as it was.
pub nothing : (bytes : List ℕ) (written : ℕ) (after : List ℕ) (answer : ℕ) (cut : Bool) → written ≤ length bytes → after ≡ bytes → answer ≡ written * 16 + stop cut → Prints (from bytes written) after answer [] cut
nothing bytes written after answer cut short same e = subst (λ (t : List ℕ). Prints (from bytes written) t answer [] cut) (sym same) (prints_none bytes written answer cut short e)

-- A line that fits is printed, and what is printed behind it follows.
pub prints_more : (line bytes middle after lines : List ℕ) (written end answer : ℕ) (cut : Bool) → Put line written bytes middle end → Prints (from middle end) after answer lines cut → Prints (from bytes written) after answer (line ++ lines) cut
prints_more line bytes middle after lines written end answer cut put rest = record {
  within = omega (arith, long, put.behind, rest.within, put_length put);
  text = rest.text ∙ (λ i. front i ++ (lines ++ back i)) ∙ append_assoc (take written bytes) line (lines ++ drop (written + length (line ++ lines)) bytes) ∙ ap (λ (t : List ℕ). take written bytes ++ t) (sym (append_assoc line lines (drop (written + length (line ++ lines)) bytes)));
  counts = omega (arith, long, put.behind, rest.counts);
}
  where
    long : length (line ++ lines) ≡ length line + length lines
    long = length-append line lines

    before : length (take written bytes) ≡ written
    before = length-take-le written bytes (omega (arith, put.behind, put.within))

    head : length (take written bytes ++ line) ≡ end
    head = length-append (take written bytes) line ∙ omega (arith, before, put.behind)

    whole : middle ≡ (take written bytes ++ line) ++ drop end bytes
    whole = put.text ∙ sym (append_assoc (take written bytes) line (drop end bytes))

    front : take end middle ≡ take written bytes ++ line
    front = ap (take end) whole ∙ take_at (take written bytes ++ line) (drop end bytes) end head

    back : drop (end + length lines) middle ≡ drop (written + length (line ++ lines)) bytes
    back = ap (drop (end + length lines)) whole ∙ drop-append-drop end bytes (take written bytes ++ line) (end + length lines) (omega arith) head ∙ ap (λ (k : ℕ). drop k bytes) (omega (arith, long, put.behind))

-- A last line that fits is all that is printed.
pub prints_last : (line bytes after : List ℕ) (written end answer : ℕ) → Put line written bytes after end → answer ≡ end * 16 → Prints (from bytes written) after answer line false
prints_last line bytes after written end answer put e =
    subst (λ (t : List ℕ). Prints (from bytes written) after answer t false) (append-nil line)
    (prints_more line bytes after after [] written end answer false put (prints_none after end answer false (omega (arith, put.within, put_length put)) (omega arith)))

-- From the start of the output, what is printed is what the output then begins with.
pub prints_output : (bytes after lines : List ℕ) (answer : ℕ) (cut : Bool) → Prints (from bytes 0) after answer lines cut → output after answer ≡ lines
prints_output bytes after lines answer cut p = (λ i. take (long cut p.counts i) (p.text i)) ∙ take_at lines (drop (0 + length lines) bytes) (length lines) refl
  where
    long : (b : Bool) → answer ≡ (0 + length lines) * 16 + stop b → answer / 16 ≡ length lines
    long true e = omega arith
    long false e = omega arith

module _ {F C : Type 0} (Φ : Ghosts F) (made : ℕ → ℕ → C) (shown : ℕ → C → ℕ → Report) (area : Area) where
  -- What the lines behind the first print, from this state and this line number on, and whether the run is cut short.
  pub data Says : State F C → ℕ → List ℕ → List ℕ → Bool → Type 0 where
    silent : {s : State F C} {line : ℕ} {text : List ℕ} → text ≡ [] → Says s line text [] false
    breaks_off : {s : State F C} {line : ℕ} {text : List ℕ} → 0 < length text → NoLine (Some area) text → Says s line text (printed (Broken line)) false
    cut_off : {s : State F C} {line : ℕ} {text : List ℕ} → Says s line text [] true
    says : {s s' : State F C} {line : ℕ} {text lines : List ℕ} {cut : Bool} (c : Command) (rest : List ℕ) (report : Report) → Allowed (Some area) c → text ≡ spelled c ++ rest → Played Φ made shown s c report s' → Says s' (line + 1) rest lines cut → Says s line text (printed report ++ lines) cut

  -- What a run says, and that its output holds just that.
  pub record Spoken (s : State F C) (line : ℕ) (text : List ℕ) (o : Output) (after : List ℕ) (answer : ℕ) : Type 0 where
    pub lines : List ℕ
    pub cut : Bool
    pub said : Says s line text lines cut
    pub prints : Prints o after answer lines cut

  -- Every run over an output says what its lines print.
  pub spoken : {s : State F C} {line : ℕ} {text : List ℕ} {o : Output} {after : List ℕ} {answer : ℕ} → o.written ≤ length o.bytes → Plays Φ made shown area s line text o after answer → Spoken s line text o after answer
  spoken {o = o} {after = after} {answer = answer} short (ends same e) = record {
    lines = [];
    cut = false;
    said = silent refl;
    prints = nothing o.bytes o.written after answer false short same (omega arith);
  }
  spoken {line = line} {o = o} {after = after} {answer = answer} short (breaks some none (fits end put e)) = record {
    lines = printed (Broken line);
    cut = false;
    said = breaks_off some none;
    prints = prints_last (printed (Broken line)) o.bytes after o.written end answer put e;
  }
  spoken {o = o} {after = after} {answer = answer} short (breaks some none (misses full e)) = record {
    lines = [];
    cut = true;
    said = cut_off;
    prints = nothing o.bytes o.written after answer true short full.same e;
  }
  spoken {o = o} {after = after} {answer = answer} short (stops c rest report allowed spelt played full e) = record {
    lines = [];
    cut = true;
    said = cut_off;
    prints = nothing o.bytes o.written after answer true short full.same e;
  }
  spoken {o = o} {after = after} {answer = answer} short (goes {bytes = bytes} c rest report end allowed spelt played put more) =
      let later = spoken (omega (arith, put.within, put_length put)) more in
      record {
        lines = printed report ++ later.lines;
        cut = later.cut;
        said = says c rest report allowed spelt played later.said;
        prints = prints_more (printed report) o.bytes bytes after later.lines o.written end answer later.cut put later.prints;
      }
