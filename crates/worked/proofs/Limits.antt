-- Ring lengths outside the limits are refused, those at the limits are made.
use Rattle.std.proofs.Common.{◌≡◌, ℕ, ◌<◌, ◌⊎◌, replicate, sym, refl, ap, ◌∙◌, inl, inr, ⊎_elim, arith, lit<, lit≤}
use lib.ListN.{length-replicate, get_or-replicate}
use Rattle.cells.specs.declared.refusal.Refusal.{Refusal}
use Rattle.cells.specs.declared.refusal.Refusal.TheVariants.{RingLength, TaskCount, LogLength, LastPlace, MemorySize, ArrayLength, TaskNumber, Address, BrokenLine, OutputFull, Torn, PhaseForbids, LogFull, PlacesSpent, RingFull, MustWait}
use Rattle.cells.specs.Refusals.{number}
use Rattle.filters.specs.contracts.small.SmallFilter.TheImpl.{ghosts}
use Rattle.filters.specs.declared.small.Small.{Small}
use Rattle.rules.specs.declared.ring.Entry.{Entry}
use Rattle.rules.specs.declared.table.TaskRecord.{TaskRecord}
use Rattle.rules.specs.Lists.{At}
use Rattle.rules.specs.Making.{Between, Vacant, WithinLimits, Makes}
use Rattle.rules.specs.Records.{Emptied}
use Rattle.rules.proofs.Limits.{makes_no_fault}
use Rattle.worked.specs.Makings.{asking, Refuses, Makeable}
use Rattle.worked.proofs.Fresh.{vacant, emptied, fresh}

-- The ring's length is the first to be checked.
first_checked : (q : Refusal) → (1 < number q) ⊎ (q ≡ RingLength)
first_checked RingLength = inr refl
first_checked TaskCount = inl (lit< tt)
first_checked LogLength = inl (lit< tt)
first_checked LastPlace = inl (lit< tt)
first_checked MemorySize = inl (lit< tt)
first_checked ArrayLength = inl (lit< tt)
first_checked TaskNumber = inl (lit< tt)
first_checked Address = inl (lit< tt)
first_checked BrokenLine = inl (lit< tt)
first_checked OutputFull = inl (lit< tt)
first_checked Torn = inl (lit< tt)
first_checked PhaseForbids = inl (lit< tt)
first_checked LogFull = inl (lit< tt)
first_checked PlacesSpent = inl (lit< tt)
first_checked RingFull = inl (lit< tt)
first_checked (MustWait place) = inl (lit< tt)

-- No refusal has a number below it.
none_before : (q : Refusal) → number q < 1 → ⊥
none_before q low = ⊎_elim (λ more. omega arith) (λ same. omega (arith, ap number same)) (first_checked q)

-- A ring length outside the limits is refused with the first refusal, whatever else is wrong.
pub refused : (slots last : ℕ) → (Between 2 slots 1024 → ⊥) → Refuses slots last RingLength
refused slots last outside ring table addresses cells = record {
  refused = record { fault = outside; earlier = λ q low fault. none_before q low };
  only = λ q refuses. ⊎_elim (λ more. absurd (refuses.earlier RingLength more outside)) (λ same. same) (first_checked q);
  unmade = λ s makes. makes.accepts RingLength outside;
}

-- In a list of one value again and again nothing else stands.
at_replicate : {X : Type 0} (n i : ℕ) (x y : X) → At (replicate n x) i y → y ≡ x
at_replicate n i x y there = there.is ∙ get_or-replicate n i x y (omega (arith, there.within, length-replicate n x))

-- Each slot of the fresh ring is vacant.
slots_vacant : (slots i : ℕ) (e : Entry Small) → At (replicate slots vacant) i e → Vacant ghosts e
slots_vacant slots i e there =
    let same = at_replicate slots i vacant e there in
    record {
      stamp = ap (λ (x : Entry Small). x.stamp) same;
      filter = ap (λ (x : Entry Small). x.filter.bits) same;
      status = ap (λ (x : Entry Small). x.status) same;
    }

-- Each record of the fresh table is emptied.
records_emptied : (t : ℕ) (r : TaskRecord Small) → At (replicate 4 emptied) t r → Emptied ghosts r
records_emptied t r there =
    let same = at_replicate 4 t emptied r there in
    record {
      phase_is = ap (λ (x : TaskRecord Small). x.phase) same;
      start_is = ap (λ (x : TaskRecord Small). x.start) same;
      place = ap (λ (x : TaskRecord Small). x.place) same;
      logged = ap (λ (x : TaskRecord Small). x.logged) same;
      written = ap (λ (x : TaskRecord Small). x.written) same;
      reads = ap (λ (x : TaskRecord Small). x.reads.bits) same;
      writes = ap (λ (x : TaskRecord Small). x.writes.bits) same;
    }

-- Numbers within the limits are made over arrays that fit.
pub made : (slots last : ℕ) → Between 2 slots 1024 → Between 1 last 4294967295 → Makeable slots last
made slots last ring_limits last-limits ring table addresses cells ring-fits table_fits addresses_fit cells_fit = record { made = (fresh slots last addresses cells, makes); unrefused = λ q refuses. makes.accepts q refuses.fault }
  where
    limits : WithinLimits (asking slots last ring table addresses cells)
    limits = record {
      ring = ring_limits;
      tasks = record { least = lit≤ tt; most = lit≤ tt };
      log = record { least = lit≤ tt; most = lit≤ tt };
      last = last-limits;
      size = record { least = lit≤ tt; most = lit≤ tt };
      fits = record { ring = ring-fits; table = table_fits; addresses = addresses_fit; cells = cells_fit; memory = refl };
    }

    makes : Makes ghosts (asking slots last ring table addresses cells) (fresh slots last addresses cells)
    makes = record {
      accepts = λ q fault. makes_no_fault limits q fault;
      ring_length = length-replicate slots vacant ∙ sym ring-fits;
      table_length = sym table_fits;
      vacant = slots_vacant slots;
      emptied = records_emptied;
      index = refl;
      size = refl;
      after = refl;
    }

-- The rings of the runs.
pub run_made : (last : ℕ) → Between 1 last 4294967295 → Makeable 4 last
run_made last limits = made 4 last (record { least = lit≤ tt; most = lit≤ tt }) limits
