-- From what is taken off the text and printed to the run.
use Rattle.std.proofs.Common.{◌≡◌, ℕ, ◌+◌, ◌*◌, ◌<◌, ◌≤◌, List, [], ◌++◌, length, Some, Err, Result, sym, refl, ap, ◌∙◌, subst, arith, length-append}
use Rattle.filters.specs.declared.filter.Filter.{Ghosts}
use Rattle.lines.specs.declared.command.Area.{Area}
use Rattle.lines.specs.declared.command.Command.{Command}
use Rattle.lines.specs.declared.report.Output.{Output as Lent}
use Rattle.lines.specs.declared.report.Report.{Report}
use Rattle.lines.specs.declared.report.Report.TheVariants.{Broken}
use Rattle.lines.specs.declared.report.Short.{Short}
use Rattle.lines.specs.Grammar.{spelled, Allowed}
use Rattle.lines.specs.Printed.{printed, room, Put, Full, Writes}
use Rattle.rules.specs.State.{State}
use Rattle.runner.specs.Lines.{Played}
use Rattle.runner.specs.Outputs.{Fills}
use Rattle.runner.specs.Runs.{NoLine, Plays, ends, breaks, stops, goes, packed, seen}
use Rattle.runner.proofs.Outputs.{put_length, closed}
use Rattle.runner.proofs.Pace.{Shows, paced}

module _ {F C : Type 0} (Φ : Ghosts F) (made : ℕ → ℕ → C) (shown : ℕ → C → ℕ → Report) (area : Area) (s₀ : State F C) (text₀ : List ℕ) (out₀ : Lent) where
  -- The lines before this one are played and printed: whatever run follows from here is the rest of the run from the second line on.
  pub record Reached (line : ℕ) (s : State F C) (text : List ℕ) (out : Lent) : Type 0 where
    pub on : (after : List ℕ) (answer : ℕ) → Plays Φ made shown area s line text (seen out) after answer → Plays Φ made shown area s₀ 2 text₀ (seen out₀) after answer
    pub counted : line + length text ≤ 2 + length text₀
    pub lender : out.bytes.ghost_name ≡ out₀.bytes.ghost_name
    pub long : length out.bytes.now ≡ length out₀.bytes.now
    pub few : out.written + 64 * length text ≤ out₀.written + 64 * length text₀
    pub paced : out.written + 7 * length text ≤ out₀.written + 7 * length text₀

-- So it is at the second line.
pub reached_first : {F C : Type 0} (Φ : Ghosts F) (made : ℕ → ℕ → C) (shown : ℕ → C → ℕ → Report) (area : Area) (s : State F C) (text : List ℕ) (out : Lent) → Reached Φ made shown area s text out 2 s text out
reached_first Φ made shown area s text out = record { on = λ after answer plays. plays; counted = omega arith; lender = refl; long = refl; few = omega arith; paced = omega arith }

module _ {F C : Type 0} {Φ : Ghosts F} {made : ℕ → ℕ → C} {shown : ℕ → C → ℕ → Report} {area : Area} {s₀ : State F C} {text₀ : List ℕ} {out₀ : Lent} {line : ℕ} {s : State F C} {text : List ℕ} {out : Lent} (reached : Reached Φ made shown area s₀ text₀ out₀ line s text out) where
  -- At the end of the text the run ends.
  pub ended : text ≡ [] → Plays Φ made shown area s₀ 2 text₀ (seen out₀) out.bytes.now (out.written * 16)
  ended none = reached.on out.bytes.now (out.written * 16) (subst (λ (t : List ℕ). Plays Φ made shown area s line t (seen out) out.bytes.now (out.written * 16)) (sym none) (ends refl refl))

  -- At a broken line the run ends with its number.
  pub broken : (after : Lent) (r : Result (Unit {0}) Short) → 0 < length text → NoLine (Some area) text → Writes (printed (Broken line)) out after r → Plays Φ made shown area s₀ 2 text₀ (seen out₀) after.bytes.now (packed after r)
  broken after r some none writes = reached.on after.bytes.now (packed after r) (breaks some none (closed (Broken line) out after r writes))

  module _ {c : Command} (rest : List ℕ) (allowed : Allowed (Some area) c) (spelt : text ≡ spelled c ++ rest) (shorter : length rest < length text) {report : Report} {s' : State F C} (played : Played Φ made shown s c report s') (wide : Shows shown) (short : length (printed report) ≤ room report) (after : Lent) (same : after.bytes.ghost_name ≡ out.bytes.ghost_name) where
    -- The line of the report is at most seven times as long as the line that asks for it.
    pace : length (printed report) + 7 * length rest ≤ 7 * length text
    pace = omega (arith, paced Φ made shown wide s c report s' played, short, ap length spelt, length-append (spelled c) rest)

    -- A line whose report does not fit ends the run.
    pub stopped : Full (printed report) out.written out.bytes.now after.bytes.now → after.written ≡ out.written → Plays Φ made shown area s₀ 2 text₀ (seen out₀) after.bytes.now (after.written * 16 + 10)
    stopped full stays = reached.on after.bytes.now (after.written * 16 + 10) (stops c rest report allowed spelt played full (omega (arith, stays)))

    pub stopped_fills : Full (printed report) out.written out.bytes.now after.bytes.now → after.written ≡ out.written → (over : Short) → Fills (length text₀) out₀ after (Err over)
    stopped_fills full stays over = record { lender = same ∙ reached.lender; few = omega (arith, stays, reached.few); whole = λ room. absurd (omega (arith, pace, full.short, reached.paced, reached.long)) }

    -- A line whose report fits lets the run go on behind it.
    pub gone_on : Put (printed report) out.written out.bytes.now after.bytes.now after.written → length (printed report) ≤ 64 → Reached Φ made shown area s₀ text₀ out₀ (line + 1) s' rest after
    gone_on put least = record {
      on = λ end answer plays. reached.on end answer (goes c rest report after.written allowed spelt played put plays);
      counted = omega (arith, reached.counted);
      lender = same ∙ reached.lender;
      long = put_length put ∙ reached.long;
      few = omega (arith, put.behind, reached.few);
      paced = omega (arith, put.behind, pace, reached.paced);
    }
