-- A run begins over the fronts of buffers that are all at 0.
use Rattle.std.proofs.Common.{◌≡◌, ℕ, ◌*◌, ◌≤◌, List, length, take, replicate, sym, ap, ◌∙◌, subst}
use Rattle.std.proofs.lemmas.List.{take-replicate, length-replicate}
use Rattle.std.proofs.lemmas.Nat.{mul-le}
use Rattle.filters.specs.declared.filter.Filter.{Ghosts}
use Rattle.lines.specs.declared.command.Area.{Area}
use Rattle.lines.specs.declared.command.Making.{Making}
use Rattle.lines.specs.declared.report.Report.{Report}
use Rattle.engine.specs.View.{asked}
use Rattle.rules.specs.declared.ring.Entry.{Entry}
use Rattle.rules.specs.declared.table.TaskRecord.{TaskRecord}
use Rattle.rules.specs.State.{State}
use Rattle.runner.specs.Runs.{Output, Over, Starts, Runs}

-- The front of a buffer of equal elements is as long as it says.
pub front_length : {X : Type 0} (m n : ℕ) (x : X) → n ≤ m → length (take n (replicate m x)) ≡ n
front_length m n x short = ap length (take-replicate n m x short) ∙ length-replicate n x

-- The logs of at most 8 tasks with at most 16 pairs each fit the log buffers.
pub logs_fit : (tasks pairs : ℕ) → tasks ≤ 8 → pairs ≤ 16 → tasks * pairs ≤ 128
logs_fit tasks pairs few short = mul-le tasks pairs 8 16 few short

module _ {F C : Type 0} {Φ : Ghosts F} {made : ℕ → ℕ → C} {shown : ℕ → C → ℕ → Report} {area : Area} {m : Making} {rest : List ℕ} {o : Output} {after : List ℕ} {answer : ℕ} (vacant : Entry F) (emptied : TaskRecord F) where
  -- A run over such buffers is the run of the first line.
  pub started : (memory : List C) → memory ≡ replicate m.cells (made 0 0) → (nought : C) → nought ≡ made 0 0 → m.slots ≤ 64 → m.tasks ≤ 8 → m.pairs ≤ 16
      → Over Φ made shown area (asked (record { slots = m.slots; tasks = m.tasks; pairs = m.pairs; last = m.last }) memory (take m.slots (replicate 64 vacant)) (take m.tasks (replicate 8 emptied)) (take (m.tasks * m.pairs) (replicate 128 0)) (take (m.tasks * m.pairs) (replicate 128 nought))) rest o after answer
      → Starts Φ made shown area m rest o after answer
  started memory zeros nought zero slots tasks pairs over =
      let fit = logs_fit m.tasks m.pairs tasks pairs in
      let ring : List (Entry F) = take m.slots (replicate 64 vacant) in
      let table : List (TaskRecord F) = take m.tasks (replicate 8 emptied) in
      let addresses = take-replicate (m.tasks * m.pairs) 128 0 fit in
      let cells = take-replicate (m.tasks * m.pairs) 128 nought fit ∙ ap (replicate (m.tasks * m.pairs)) zero in
      record {
        ring = ring;
        table = table;
        ring_length = front_length 64 m.slots vacant slots;
        table_length = front_length 8 m.tasks emptied tasks;
        over = subst (λ (s : State F C). Over Φ made shown area s rest o after answer) (λ i. asked (record { slots = m.slots; tasks = m.tasks; pairs = m.pairs; last = m.last }) (zeros i) ring table (addresses i) (cells i)) over;
      }

-- A run over the lent output is a run over what was lent and is handed back.
pub handed_back : {F : Type 0} {Φ : Ghosts F} {text bytes bytes' after after' : List ℕ} {answer answer' : ℕ} → bytes' ≡ bytes → after' ≡ after → answer' ≡ answer → Runs Φ text bytes after answer → Runs Φ text bytes' after' answer'
handed_back {Φ = Φ} {text = text} one two three runs = subst (λ (p : List ℕ × List ℕ × ℕ). Runs Φ text p.0 p.1 p.2) (λ i. (sym one i, sym two i, sym three i)) runs
