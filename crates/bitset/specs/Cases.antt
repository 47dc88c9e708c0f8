-- Cases: of two numbers' order, of a truth value. Assumes nothing.
use Rattle.std.specs.Prelude.{ℕ, ◌-◌, ◌≤◌, ◌<◌, ◌≡◌, refl, Bool, true, false, ◌⊎◌}
use Rattle.std.proofs.Common.{inl, inr, ⊎_elim, eq-zero-or-pos, arith}

pub lt_or_le : (a b : ℕ) → (a < b) ⊎ (b ≤ a)
lt_or_le a b = ⊎_elim (λ (h : b - a ≡ 0). inr (omega arith)) (λ (h : 0 < b - a). inl (omega arith)) (eq-zero-or-pos (b - a))

pub false_or_true : (b : Bool) → (b ≡ false) ⊎ (b ≡ true)
false_or_true false = inl refl
false_or_true true = inr refl
