-- For a filter whose new value and whose adding are functions, a call has one answer and one state after it.
use Rattle.std.specs.Prelude.{◌≡◌}
use Rattle.filters.specs.declared.filter.Filter.{Ghosts}
use Rattle.rules.specs.Calls.{Call, Reply}
use Rattle.forced.specs.Play.{Exact, play}
use Rattle.rules.specs.State.{State}
use Rattle.rules.specs.Steps.{Step}

-- Every step is the one that is played; so two steps of one call from one state answer alike and end alike.
pub record Determined {F : Type 0} (Φ : Ghosts F) (C : Type 0) : Type 0 where
  pub plays : (x : Exact Φ) (s : State F C) (call : Call C) (reply : Reply call) (s' : State F C) → Step Φ s call reply s' → play Φ x s call ≡ (reply, s')
  pub forced : Exact Φ → (s : State F C) (call : Call C) (r₁ r₂ : Reply call) (s₁ s₂ : State F C) → Step Φ s call r₁ s₁ → Step Φ s call r₂ s₂ → (r₁ ≡ r₂) × (s₁ ≡ s₂)
