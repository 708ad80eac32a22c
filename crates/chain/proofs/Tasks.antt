-- The task of the oldest unfinished writer.
use Rattle.std.proofs.Common.{◌≡◌, ℕ, true, false, Option, Some, None, List, sym}
use Rattle.std.specs.List.{All, Contains}
use Rattle.std.specs.Option.{IfSome, IsSomeAnd, MatchOption}
use Rattle.chain.specs.declared.book.Page.{Page}
use Rattle.chain.specs.Pages.{NotAbove, Oldest, place_of, unfinished}

-- The task that is read off the oldest writer is the oldest writer's; where there is no such writer, there is no such task.
pub oldest_found : {B : Type 0} (page : B → Page) (Post : B → ℕ → Type 0) (ps : List Page) (found : Option B) (task : Option ℕ) → ((b : B) (t : ℕ) → Post b t → t ≡ (page b).task) → MatchOption found (task ≡ None) (λ b. IsSomeAnd task (Post b)) → IfSome found (λ b. Contains ps (page b)) → IfSome found (λ b. unfinished (page b) ≡ true) → MatchOption found (All (λ p. unfinished p ≡ false) ps) (λ b. All (λ q. unfinished q ≡ true → NotAbove (place_of (page b)) (place_of q)) ps) → Oldest ps task
oldest_found page Post ps None None reads cases among busy lowest = lowest
oldest_found page Post ps None (Some t) reads cases among busy lowest = absurd (cc)
oldest_found page Post ps (Some b) None reads cases among busy lowest = absurd cases
oldest_found page Post ps (Some b) (Some t) reads cases among busy lowest = (among.0, page b, among.1, among.2, (sym (reads b t cases), (busy, lowest)))
