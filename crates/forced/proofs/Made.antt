-- What a making leaves, where the filter leaves nothing open: one refusal, or one state but for what the log arrays held.
use Rattle.std.proofs.Common.{◌≡◌, ℕ, suc, cond, eqb, List, [], ◌∷◌, length, replicate, sym, refl, ap, ◌∙◌, inl, inr, arith}
use Rattle.std.proofs.lemmas.Bool.{cases_lt, cases_eq}
use Rattle.cells.specs.declared.refusal.Refusal.{Refusal}
use Rattle.cells.specs.declared.refusal.Refusal.TheVariants.{RingLength, TaskCount, LogLength, LastPlace, MemorySize, ArrayLength, TaskNumber, Address, BrokenLine, OutputFull, Torn, PhaseForbids, LogFull, PlacesSpent, RingFull, MustWait}
use Rattle.cells.specs.Refusals.{number}
use Rattle.filters.specs.declared.filter.Filter.{Ghosts}
use Rattle.rules.specs.declared.ring.Entry.{Entry}
use Rattle.rules.specs.declared.ring.Status.TheVariants.{Complete}
use Rattle.rules.specs.declared.table.Phase.TheVariants.{Idle}
use Rattle.rules.specs.declared.table.TaskRecord.{TaskRecord}
use Rattle.rules.specs.Lists.{At}
use Rattle.rules.specs.Making.{Makes, MakingFault, MakingRefused, Vacant, with_ring_and_table}
use Rattle.rules.specs.Records.{Emptied}
use Rattle.rules.specs.State.{State}
use Rattle.forced.specs.Play.{Exact, blank}

-- A list in which just one value stands is that value again and again.
pub all_one : {X : Type 0} (x : X) (xs : List X) → ((i : ℕ) (y : X) → At xs i y → y ≡ x) → xs ≡ replicate (length xs) x
all_one x [] same = refl
all_one x (y ∷ ys) same = λ i. same 0 y (record { within = omega arith; is = refl }) i ∷ all_one x ys (λ k z there. same (suc k) z (record { within = omega (arith, there.within); is = there.is })) i

module _ {F : Type 0} {Φ : Ghosts F} (x : Exact Φ) where
  -- The one vacant entry.
  abbrev pub vacant : Entry F
  vacant = record { stamp = 0; filter = x.new; status = Complete }

  -- Every vacant entry is that one.
  pub vacant_is : (e : Entry F) → Vacant Φ e → e ≡ vacant
  vacant_is e v = λ i. record { stamp = v.stamp i; filter = x.fresh_is e.filter v.filter i; status = v.status i }

  -- Every emptied record is the blank one.
  pub emptied_is : (r : TaskRecord F) → Emptied Φ r → r ≡ blank x Idle 0
  emptied_is r b = λ i. record { phase = b.phase_is i; start = b.start_is i; place = b.place i; logged = b.logged i; written = b.written i; reads = x.fresh_is r.reads b.reads i; writes = x.fresh_is r.writes b.writes i }

  -- The state that an accepted making leaves.
  pub made_is : {C : Type 0} (asked s : State F C) → Makes Φ asked s → s ≡ with_ring_and_table asked (replicate (length asked.ring) vacant) (replicate (length asked.table) (blank x Idle 0))
  made_is asked s m =
      let rings : s.ring ≡ replicate (length asked.ring) vacant = all_one vacant s.ring (λ i e there. vacant_is e (m.vacant i e there)) ∙ ap (λ (n : ℕ). replicate n vacant) m.ring_length in
      let tables : s.table ≡ replicate (length asked.table) (blank x Idle 0) = all_one (blank x Idle 0) s.table (λ t r there. emptied_is r (m.emptied t r there)) ∙ ap (λ (n : ℕ). replicate n (blank x Idle 0)) m.table_length in
      m.after ∙ (λ i. with_ring_and_table asked (rings i) (tables i))

-- The refusal of a making by its number; for other numbers the answer does not matter.
abbrev refusal_of : ℕ → Refusal
refusal_of n = cond (eqb n 1) RingLength (cond (eqb n 2) TaskCount (cond (eqb n 3) LogLength (cond (eqb n 4) LastPlace (cond (eqb n 5) MemorySize ArrayLength))))

module _ {F C : Type 0} (s : State F C) where
  -- A fault of a making is known by its number.
  fault_number : (q : Refusal) → MakingFault s q → refusal_of (number q) ≡ q
  fault_number RingLength fault = refl
  fault_number TaskCount fault = refl
  fault_number LogLength fault = refl
  fault_number LastPlace fault = refl
  fault_number MemorySize fault = refl
  fault_number ArrayLength fault = refl
  fault_number TaskNumber fault = absurd fault
  fault_number Address fault = absurd fault
  fault_number BrokenLine fault = absurd fault
  fault_number OutputFull fault = absurd fault
  fault_number Torn fault = absurd fault
  fault_number PhaseForbids fault = absurd fault
  fault_number LogFull fault = absurd fault
  fault_number PlacesSpent fault = absurd fault
  fault_number RingFull fault = absurd fault
  fault_number (MustWait place) fault = absurd fault

  -- A making is refused with one number.
  pub refused_once : (p q : Refusal) → MakingRefused s p → MakingRefused s q → p ≡ q
  refused_once p q u v =
      let same : number p ≡ number q = elim (cases_lt (number p) (number q)) [
        | inl lower ↦ absurd (v.earlier p lower u.fault)
        | inr above ↦ elim (cases_eq (number p) (number q)) [
          | inl e ↦ e
          | inr ne ↦ absurd (u.earlier q (omega (arith, above, ne)) v.fault)
        ]
      ] in
      sym (fault_number p u.fault) ∙ ap refusal_of same ∙ fault_number q v.fault
