-- The memory while writers write back: which logs a cell holds.
use Rattle.std.proofs.Common.{◌≡◌, ℕ, ◌+◌, ◌-◌, ◌<◌, ◌≤◌, ◌⊎◌, List, length, get_or, set, sym, ap, ◌∙◌, subst, inl, inr, ⊎_elim, arith}
use Rattle.std.proofs.lemmas.List.{length-set, get_or-set_same, get_or-set_other}
use Rattle.std.proofs.lemmas.Bool.{cases_eq, cases_lt}
use Rattle.rules.specs.Lists.{At}
use Rattle.rules.proofs.AtLaws.{at_one}
use Rattle.promise.proofs.Promised.Layers.{Once, layers, layers_same, layers_still, layers_with}
use Rattle.promise.proofs.Promised.Turns.{put, put_at, put_other, at_same}

module _ {C : Type 0} where
  -- The cell at an address is that after the first so many logs: pair k of log i is written exactly if k + owes i is at most the log's length.
  -- Each writer that has written the address is among these logs, and each of these that logs the address has written it.
  pub record Holds (memory origin : List C) (log : ℕ → List (ℕ × C)) (owes : ℕ → ℕ) (count a : ℕ) : Type 0 where
    pub upto : ℕ
    pub low : upto ≤ count
    pub is : (d : C) → get_or memory a d ≡ get_or (layers origin log upto) a d
    pub among : (i k : ℕ) (c : C) → At (log i) k (a, c) → k + owes i ≤ length (log i) → i ≤ upto
    pub all : (i k : ℕ) (c : C) → At (log i) k (a, c) → i ≤ upto → k + owes i ≤ length (log i)

  -- The memory, the logs of the places from 1 to count, and what each place owes.
  pub record Core (size : ℕ) (memory origin : List C) (log : ℕ → List (ℕ × C)) (owes : ℕ → ℕ) (count : ℕ) : Type 0 where
    pub memory_length : length memory ≡ size
    pub origin_length : length origin ≡ size
    pub placed : (i k : ℕ) (x : ℕ × C) → At (log i) k x → (0 < i) × (i ≤ count)
    pub inside : (i k a : ℕ) (c : C) → At (log i) k (a, c) → a < size
    pub once : (i : ℕ) → Once (log i)
    -- while a place owes, a later one with a common address has written nothing
    pub ordered : (q i j k a : ℕ) (c d : C) → q < i → At (log q) j (a, c) → At (log i) k (a, d) → 0 < owes q → length (log i) < owes i
    pub holds : (a : ℕ) → Holds memory origin log owes count a

  module _ {size : ℕ} {memory origin : List C} {log : ℕ → List (ℕ × C)} {owes : ℕ → ℕ} {count : ℕ} (core : Core size memory origin log owes count) where
    -- Where every writer that logs the address has finished, memory holds the cell after all logs.
    pub newest_cell : (a : ℕ) (d : C) → ((i k : ℕ) (c : C) → At (log i) k (a, c) → owes i ≡ 0) → get_or memory a d ≡ get_or (layers origin log count) a d
    newest_cell a d done =
        let h = core.holds a in
        h.is d ∙ sym (layers_still origin log h.upto count a d h.low (λ i above below k c here.
        let none : owes i ≡ 0 = done i k c here in
        let short = here.within in
        let low : i ≤ h.upto = h.among i k c here (omega arith) in
        omega arith))

    -- A new writer with this log comes after all others and has written nothing.
    module _ (l : List (ℕ × C)) (lies : (k a : ℕ) (c : C) → At l k (a, c) → a < size) (single : Once l) where
      -- A pair of the logs after that is one of the new log or one of the logs before.
      commit_back : (i k : ℕ) (x : ℕ × C) → At (put log (count + 1) l i) k x → ((i ≡ count + 1) × At l k x) ⊎ ((i ≡ count + 1 → ⊥) × At (log i) k x)
      commit_back i k x here =
          ⊎_elim
          (λ same. inl (same, at_same (put_at log (count + 1) i l same) here))
          (λ other. inr (other, at_same (put_other log (count + 1) i l other) here))
          (cases_eq i (count + 1))

      -- The cells after the logs before are the same.
      commit_layers : (k : ℕ) → k ≤ count → layers origin log k ≡ layers origin (put log (count + 1) l) k
      commit_layers k low = layers_same origin log (put log (count + 1) l) k (λ i counted below. sym (put_other log (count + 1) i l (omega arith)))

      -- The new writer owes all, so it has written nothing.
      commit_ordered : (q i j k a : ℕ) (c d : C) → q < i → At (put log (count + 1) l q) j (a, c) → At (put log (count + 1) l i) k (a, d) → 0 < put owes (count + 1) (length l + 1) q → length (put log (count + 1) l i) < put owes (count + 1) (length l + 1) i
      commit_ordered q i j k a c d before there here owing =
          ⊎_elim
          (λ same. omega (arith, ap length (put_at log (count + 1) i l same.0), put_at owes (count + 1) i (length l + 1) same.0))
          (λ other.
          let below = core.placed i k (a, d) other.1 in
          let apart : q ≡ count + 1 → ⊥ = omega arith in
          let kept = put_other owes (count + 1) q (length l + 1) apart in
          omega (
            arith,
            ap length (put_other log (count + 1) i l other.0),
            put_other owes (count + 1) i (length l + 1) other.0,
            core.ordered q i j k a c d before (at_same (put_other log (count + 1) q l apart) there) other.1 (omega (arith, kept)),
          ))
          (commit_back i k (a, d) here)

      -- It has written nothing, so each cell holds what it held.
      commit_holds : (a : ℕ) → Holds memory origin (put log (count + 1) l) (put owes (count + 1) (length l + 1)) (count + 1) a
      commit_holds a =
          let h = core.holds a in
          record {
            upto = h.upto;
            low = omega (arith, h.low);
            is = λ d. h.is d ∙ ap (λ (x : List C). get_or x a d) (commit_layers h.upto h.low);
            among = λ i k c here written.
                ⊎_elim
                (λ same. absurd (omega (arith, ap length (put_at log (count + 1) i l same.0), put_at owes (count + 1) i (length l + 1) same.0)))
                (λ other. h.among i k c other.1 (omega (arith, ap length (put_other log (count + 1) i l other.0), put_other owes (count + 1) i (length l + 1) other.0)))
                (commit_back i k (a, c) here);
            all = λ i k c here below.
                ⊎_elim
                (λ same. absurd (omega (arith, same.0, h.low)))
                (λ other.
                omega (
                  arith,
                  h.all i k c other.1 below,
                  ap length (put_other log (count + 1) i l other.0),
                  put_other owes (count + 1) i (length l + 1) other.0,
                ))
                (commit_back i k (a, c) here);
          }

      -- The memory and the logs with one writer more.
      pub core_commit : Core size memory origin (put log (count + 1) l) (put owes (count + 1) (length l + 1)) (count + 1)
      core_commit = record {
        memory_length = core.memory_length;
        origin_length = core.origin_length;
        placed = λ i k x here.
            ⊎_elim
            (λ same. let e = same.0 in (omega arith, omega arith))
            (λ other. let old = core.placed i k x other.1 in (old.0, omega arith))
            (commit_back i k x here);
        inside = λ i k a c here. ⊎_elim (λ same. lies k a c same.1) (λ other. core.inside i k a c other.1) (commit_back i k (a, c) here);
        once = λ i.
            ⊎_elim
            (λ same. subst Once (sym (put_at log (count + 1) i l same)) single)
            (λ other. subst Once (sym (put_other log (count + 1) i l other)) (core.once i))
            (cases_eq i (count + 1));
        ordered = commit_ordered;
        holds = commit_holds;
      }

    -- A writer that has written all its cells finishes.
    pub core_finish : (i : ℕ) → owes i ≡ 1 → Core size memory origin log (put owes i 0) count
    core_finish i last = record {
      memory_length = core.memory_length;
      origin_length = core.origin_length;
      placed = core.placed;
      inside = core.inside;
      once = core.once;
      ordered = λ q u j k a c d before there here owing.
          let apart : q ≡ i → ⊥ = λ same. omega (arith, put_at owes i q 0 same) in
          let old = core.ordered q u j k a c d before there here (omega (arith, put_other owes i q 0 apart)) in
          ⊎_elim
          (λ same. absurd (omega (arith, here.within, ap owes same)))
          (λ other. omega (arith, put_other owes i u 0 other))
          (cases_eq u i);
      holds = λ a.
          let h = core.holds a in
          record {
            upto = h.upto;
            low = h.low;
            is = h.is;
            among = λ u k c here written. h.among u k c here (
                ⊎_elim
                (λ same. omega (arith, here.within, ap owes same))
                (λ other. omega (arith, put_other owes i u 0 other))
                (cases_eq u i)
                );
            all = λ u k c here below.
                ⊎_elim
                (λ same. omega (arith, here.within, put_at owes i u 0 same))
                (λ other. omega (arith, h.all u k c here below, put_other owes i u 0 other))
                (cases_eq u i);
          };
    }

    -- Writer i writes pair k of its log, the next one, and no earlier writer with a common address is unfinished.
    module _ (i k a : ℕ) (c : C) (here : At (log i) k (a, c)) (next : owes i + k ≡ length (log i) + 1)
        (free : (q j m x : ℕ) (d e : C) → q < i → At (log q) j (x, d) → At (log i) m (x, e) → 0 < owes q → ⊥) where
      -- Writers after a place that owes have still written nothing of what they share.
      write_ordered : (q u j m x : ℕ) (d e : C) → q < u → At (log q) j (x, d) → At (log u) m (x, e) → 0 < put owes i (owes i - 1) q → length (log u) < put owes i (owes i - 1) u
      write_ordered q u j m x d e before there that owing =
          let owed : 0 < owes q = ⊎_elim
          (λ same. omega (arith, put_at owes i q (owes i - 1) same, ap owes same))
          (λ other. omega (arith, put_other owes i q (owes i - 1) other))
          (cases_eq q i) in
          ⊎_elim
          (λ same. absurd (free q j m x d e (omega arith) there (at_same (ap log same) that) owed))
          (λ other. omega (arith, core.ordered q u j m x d e before there that owed, put_other owes i u (owes i - 1) other))
          (cases_eq u i)

      -- Any other cell stays as it was.
      write_elsewhere : (x : ℕ) → (x ≡ a → ⊥) → Holds (set memory a c) origin log (put owes i (owes i - 1)) count x
      write_elsewhere x apart =
          let h = core.holds x in
          record {
            upto = h.upto;
            low = h.low;
            is = λ d. get_or-set_other memory a x c d apart ∙ h.is d;
            among = λ u m d that written. h.among u m d that (
                ⊎_elim
                (λ same.
                let moved : At (log i) m (x, d) = at_same (ap log same) that in
                let new : m ≡ k → ⊥ = λ e. apart (ap (λ (p : ℕ × C). p.0) (at_one moved (subst (λ (n : ℕ). At (log i) n (a, c)) (sym e) here))) in
                omega (arith, ap owes same, ap (λ (n : ℕ). length (log n)) same, put_at owes i u (owes i - 1) same))
                (λ other. omega (arith, put_other owes i u (owes i - 1) other))
                (cases_eq u i)
                );
            all = λ u m d that below.
                let old = h.all u m d that below in
                ⊎_elim
                (λ same. omega (arith, ap owes same, put_at owes i u (owes i - 1) same))
                (λ other. omega (arith, put_other owes i u (owes i - 1) other))
                (cases_eq u i);
          }

      -- The cell written is that after the first i logs.
      write_there : Holds (set memory a c) origin log (put owes i (owes i - 1)) count a
      write_there =
          let short = here.within in
          let lies = core.inside i k a c here in
          let where_placed = core.placed i k (a, c) here in
          record {
            upto = i;
            low = where_placed.1;
            is = λ d.
                get_or-set_same memory a c d (omega (arith, core.memory_length))
                ∙ sym (layers_with origin log i k a c d where_placed.0 (core.once i) here (omega (arith, core.origin_length)));
            among = λ u m d that written.
                ⊎_elim
                (λ same. omega arith)
                (λ other.
                ⊎_elim
                (λ later. absurd (omega (arith, core.ordered i u k m a c d later here that (omega arith), put_other owes i u (owes i - 1) other)))
                (λ low. low)
                (cases_lt i u))
                (cases_eq u i);
            all = λ u m d that below.
                ⊎_elim
                (λ same.
                let one : m ≡ k = core.once i m k a d c (at_same (ap log same) that) here in
                omega (arith, ap (λ (n : ℕ). length (log n)) same, put_at owes i u (owes i - 1) same))
                (λ other.
                let none : owes u ≤ 0 = ⊎_elim (λ owing. absurd (free u m k a d c (omega arith) that here owing)) (λ low. low) (cases_lt 0 (owes u)) in
                omega (arith, that.within, put_other owes i u (owes i - 1) other))
                (cases_eq u i);
          }

      -- The memory with the pair written.
      pub core_write : Core size (set memory a c) origin log (put owes i (owes i - 1)) count
      core_write = record {
        memory_length = length-set memory a c ∙ core.memory_length;
        origin_length = core.origin_length;
        placed = core.placed;
        inside = core.inside;
        once = core.once;
        ordered = write_ordered;
        holds = λ x.
            ⊎_elim
            (λ same. subst (λ (n : ℕ). Holds (set memory a c) origin log (put owes i (owes i - 1)) count n) (sym same) write_there)
            (λ other. write_elsewhere x other)
            (cases_eq x a);
      }
