-- The laws that a filter keeps.
use Rattle.std.proofs.Common.{◌≡◌, ℕ, ◌<◌, true, false}
use Rattle.filters.specs.declared.filter.Filter.{Ghosts}

pub record Lawful {F : Type 0} (Φ : Ghosts F) : Type 0 where
  pub none : (f : F) → Φ.fresh f → (a : ℕ) → Φ.covers f a → ⊥
  pub adds : (f g : F) (a : ℕ) → Φ.added f a g → Φ.covers g a
  pub keeps : (f g : F) (a b : ℕ) → Φ.added f a g → Φ.covers f b → Φ.covers g b
  pub common : (f g : F) (a : ℕ) → a < 65536 → Φ.covers f a → Φ.covers g a → Φ.meeting f g ≡ true
  pub apart : (f g : F) → ((a : ℕ) → Φ.covers f a → ⊥) → Φ.meeting f g ≡ false
  pub either : (f g : F) → Φ.meeting f g ≡ Φ.meeting g f

-- The laws, one by one.
pub lawful : {F : Type 0} (Φ : Ghosts F) → ((f : F) → Φ.fresh f → (a : ℕ) → Φ.covers f a → ⊥) → ((f g : F) (a : ℕ) → Φ.added f a g → Φ.covers g a) → ((f g : F) (a b : ℕ) → Φ.added f a g → Φ.covers f b → Φ.covers g b) → ((f g : F) (a : ℕ) → a < 65536 → Φ.covers f a → Φ.covers g a → Φ.meeting f g ≡ true) → ((f g : F) → ((a : ℕ) → Φ.covers f a → ⊥) → Φ.meeting f g ≡ false) → ((f g : F) → Φ.meeting f g ≡ Φ.meeting g f) → Lawful Φ
lawful Φ none adds keeps common apart either = record { none = none; adds = adds; keeps = keeps; common = common; apart = apart; either = either }
