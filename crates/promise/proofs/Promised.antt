-- The main promise holds after every call of any chain, over any filter that keeps the laws.
pub mod Accepting
pub mod Beginning
pub mod Committing
pub mod Counting
pub mod Emptying
pub mod Example
pub mod Finishing
pub mod Invariant
pub mod Keeping
pub mod Laws
pub mod Layers
pub mod Logging
pub mod Made
pub mod Memory
pub mod Order
pub mod Outstanding
pub mod Pages
pub mod Reading
pub mod Ring
pub mod Running
pub mod Snapshots
pub mod Tasks
pub mod Turns
pub mod WritingBack
use Rattle.filters.specs.declared.filter.Filter.{Ghosts}
use Rattle.rules.specs.Book.{Book}
use Rattle.rules.specs.Calls.{Call, Reply}
use Rattle.rules.specs.Promise.{Chain, then, Promise, Kept}
use Rattle.rules.specs.State.{State}
use Rattle.rules.specs.Steps.{Step}
use Rattle.promise.proofs.Promised.Keeping.{chain_holds}
use Rattle.promise.proofs.Promised.Laws.{Lawful}
use Rattle.promise.proofs.Promised.Outstanding.{counted}
use Rattle.promise.proofs.Promised.Snapshots.{laid_down, one_snapshot}

-- What holds after every call of a chain gives the three statements.
pub stands : {F C : Type 0} (Φ : Ghosts F) → Lawful Φ → {s : State F C} {b : Book C} → Chain Φ s b → Promise Φ s b
stands Φ laws chain =
    let inv = chain_holds Φ laws chain in
    record { laid_down = laid_down Φ inv; one_snapshot = one_snapshot Φ inv; counted = counted Φ inv }

-- A step of a call goes on with any chain that came to its state, and keeps the promise.
pub kept : {F C : Type 0} (Φ : Ghosts F) → Lawful Φ → {s s' : State F C} → (call : Call C) (reply : Reply call) → Step Φ s call reply s' → Kept Φ s call reply s'
kept Φ laws call reply step b chain =
    let longer = then chain call reply step in
    (longer, stands Φ laws longer)
