-- A running transaction goes on: its Open record, its page and its part of the log arrays change, and nothing else.
use Rattle.std.proofs.Common.{◌≡◌, ℕ, ◌+◌, ◌*◌, ◌<◌, List, length, get_or, set, sum_by, sym, refl, ap, ◌∙◌, arith}
use Rattle.std.proofs.lemmas.List.Sums.{sum_by-set}
use Rattle.filters.specs.declared.filter.Filter.{Ghosts}
use Rattle.rules.specs.declared.table.Phase.TheVariants.{Open, Committed}
use Rattle.rules.specs.declared.table.TaskRecord.{TaskRecord}
use Rattle.rules.specs.Book.{Page, Book, running, place_of, owed, with_pages}
use Rattle.rules.specs.Lists.{At}
use Rattle.rules.specs.State.{State}
use Rattle.rules.specs.Steps.{owes}
use Rattle.promise.proofs.Promised.Invariant.{Inv, scene, owes_open}
use Rattle.promise.proofs.Promised.Pages.{Snap, running≢writing, newest_other, alike_other, log_set, snaps_turned, owners_turned}
use Rattle.promise.proofs.Promised.Tasks.{OpenFacts, open≢committed, tasks_turned, alone_turned, backed_turned}
use Rattle.promise.proofs.Promised.Turns.{at_read, Turned, turned_set}

-- An Open record in place of another owes nothing either.
pub open_sum : {F : Type 0} {table : List (TaskRecord F)} {t : ℕ} {r : TaskRecord F} → (x : TaskRecord F) → At table t r → r.phase ≡ Open → x.phase ≡ Open → sum_by owes (set table t x) ≡ sum_by owes table
open_sum {table = table} {t = t} {r = r} x there before after =
    omega (arith, sum_by-set owes table t x r there.within, ap owes (at_read there r), owes_open r before, owes_open x after)

module _ {F C : Type 0} where
  -- The state with other records and other log arrays.
  abbrev pub with_logs : State F C → List (TaskRecord F) → List ℕ → List C → State F C
  with_logs s table addresses cells = record { slots = s.slots; tasks = s.tasks; pairs = s.pairs; last = s.last; size = s.size; index = s.index; memory = s.memory; ring = s.ring; table = table; addresses = addresses; cells = cells }

  -- What a running transaction changes: its record, its page and its part of the log arrays.
  pub record Goes (s : State F C) (t : ℕ) (table : List (TaskRecord F)) (x : TaskRecord F) (addresses : List ℕ) (cells : List C) (q : Page C) : Type 0 where
    pub turned : Turned s.table table t x
    pub table_length : length table ≡ length s.table
    pub table_owes : sum_by owes table ≡ sum_by owes s.table
    pub opened : x.phase ≡ Open
    pub addresses_length : length addresses ≡ length s.addresses
    pub cells_length : length cells ≡ length s.cells
    pub addresses_kept : (u k : ℕ) → (u ≡ t → ⊥) → k < s.pairs → get_or addresses (u * s.pairs + k) 0 ≡ get_or s.addresses (u * s.pairs + k) 0
    pub cells_kept : (u k : ℕ) (c : C) → (u ≡ t → ⊥) → k < s.pairs → At s.cells (u * s.pairs + k) c → At cells (u * s.pairs + k) c
    pub task : q.task ≡ t
    pub standing : q.standing ≡ running

  module _ (Φ : Ghosts F) {s : State F C} {b : Book C} (inv : Inv Φ s b) {t : ℕ} {r : TaskRecord F} (there : At s.table t r) (opened : r.phase ≡ Open) where
    -- What the invariant says of the Open record.
    abbrev pub its : OpenFacts Φ s.pairs s.size b.origin (scene s b.pages inv.log inv.debts) t r
    its = (inv.tasks t r there).opened opened

    -- What holds after every call holds with these changed.
    pub goes_on : {table : List (TaskRecord F)} {x : TaskRecord F} {addresses : List ℕ} {cells : List C} {q : Page C} → Goes s t table x addresses cells q → Snap b.origin inv.log s.index q → OpenFacts Φ s.pairs s.size b.origin (record { addresses = addresses; cells = cells; pages = set b.pages its.at q; log = inv.log; debts = inv.debts; count = s.index }) t x → Inv Φ (with_logs s table addresses cells) (with_pages b (set b.pages its.at q))
    goes_on {table} {x} {addresses} {cells} {q} goes snap facts =
        let newest = its.newest in
        let page = its.page in
        let pages = turned_set b.pages its.at q newest.there.within in
        let fits = inv.fits in
        let free : r.phase ≡ Committed → ⊥ = λ committed. open≢committed (sym opened ∙ committed) in
        record {
          log = inv.log;
          debts = inv.debts;
          fits = record { ring = fits.ring; table = goes.table_length ∙ fits.table; addresses = goes.addresses_length ∙ fits.addresses; cells = goes.cells_length ∙ fits.cells; memory = fits.memory };
          small = inv.small;
          count = inv.count;
          core = inv.core;
          ring = inv.ring;
          order = inv.order;
          tied = λ i counted.
              log_set b.pages its.at i page q newest.there (alike_other i page q (λ e. omega (arith, ap place_of its.standing)) (λ e. omega (arith, ap place_of goes.standing)))
              ∙ inv.tied i counted;
          snaps = snaps_turned inv.snaps pages snap;
          owners = owners_turned inv.owners newest pages goes.task goes.turned (λ place n e. absurd (running≢writing (sym goes.standing ∙ e)));
          balanced = omega (
            arith,
            inv.balanced,
            goes.table_owes,
            sum_by-set (λ (p : Page C). owed p.standing) b.pages its.at q page newest.there.within,
            ap (λ (p : Page C). owed p.standing) (at_read newest.there page),
            ap owed its.standing,
            ap owed goes.standing,
          );
          tasks = tasks_turned Φ s.pairs s.size inv.tasks goes.turned
              (record { opened = λ is. facts; committed = λ is. absurd (open≢committed (sym goes.opened ∙ is)) })
              (λ u apart. record {
                newest = λ k p other. (k, newest_other newest pages goes.task apart other);
                addresses = λ k short. goes.addresses_kept u k apart short;
                cells = λ k c short here. goes.cells_kept u k c apart short here;
                log = λ i low. refl;
                debts = λ i low none. none;
                count = omega arith;
              })
              (λ u y apart here committed. refl);
          alone = alone_turned inv.alone goes.turned (λ u y apart here committed is same. open≢committed (sym goes.opened ∙ is));
          backed = λ i owing. backed_turned (inv.backed i owing) there goes.turned (λ committed. absurd (free committed));
        }
