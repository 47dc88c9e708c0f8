-- How large products and quotients are, so that 64 bits hold them.
use Rattle.std.proofs.Common.{ℕ, zero, suc, ◌*◌, ◌/◌, ◌^◌, ◌≤◌, ◌<◌, le_trans, mul-le-mul, arith}
use Rattle.std.proofs.Math.Nat.{div-le_self}
use Rattle.std.proofs.Math.IntN.{ℤ, pos, negsuc, neg_ℤ, ◌*ℤ◌}
use Rattle.std.specs.Int.Signed.{mag, quot_z}
use mir.Syntax.{w32, w64}
use mir.Val.{Fits, SFits}
use Rattle.fixed.specs.Rules.{scale}

mag_neg : (x : ℕ) → mag (neg_ℤ (pos x)) ≤ x
mag_neg zero = omega arith
mag_neg (suc x) = omega arith

-- a quotient is no larger than what is divided, but for one step where -n becomes n
pub quotient_within : (x y : ℤ) → mag (quot_z x y) ≤ suc (mag x)
quotient_within (pos a) (pos b) = omega (arith, div-le_self a b)
quotient_within (pos a) (negsuc b) = omega (arith, mag_neg (a / suc b), div-le_self a (suc b))
quotient_within (negsuc a) (pos b) = omega (arith, mag_neg (suc a / b), div-le_self (suc a) b)
quotient_within (negsuc a) (negsuc b) = div-le_self (suc a) (suc b)

-- a product of two numbers of 32 bits
pub product_within : (x y : ℤ) → mag x < 2 ^ 31 → mag y < 2 ^ 31 → mag (x *ℤ y) ≤ 2 ^ 62
product_within (pos a) (pos b) h g = mul-le-mul {n₁ = a} {m₁ = b} {n₂ = 2 ^ 31} {m₂ = 2 ^ 31} (omega arith) (omega arith)
product_within (pos a) (negsuc b) h g = le_trans (mag_neg (a * suc b)) (mul-le-mul {n₂ = 2 ^ 31} {m₂ = 2 ^ 31} (omega arith) g)
product_within (negsuc a) (pos b) h g = le_trans (mag_neg (suc a * b)) (mul-le-mul {n₂ = 2 ^ 31} {m₂ = 2 ^ 31} h (omega arith))
product_within (negsuc a) (negsuc b) h g = mul-le-mul {n₂ = 2 ^ 31} {m₂ = 2 ^ 31} h g

module _ {a b : ℤ} (f : SFits w32 a) (g : SFits w32 b) where
  pub product64 : SFits w64 (a *ℤ b)
  product64 = record { sfits = omega (arith, product_within a b f.sfits g.sfits) }

  -- by any number, also by 0 and by -1
  pub quotient64 : (d : ℤ) → SFits w64 (quot_z (a *ℤ b) d)
  quotient64 d = record { sfits = omega (arith, quotient_within (a *ℤ b) d, product_within a b f.sfits g.sfits) }

-- a number of 32 bits times one of at most 65,536
pub times_fits : (a b : ℕ) → a < 2 ^ 32 → b ≤ scale → Fits w64 (a * b)
times_fits a b h g =
    let m : a * b ≤ 2 ^ 32 * scale = mul-le-mul {n₂ = 2 ^ 32} (omega arith) g in
    omega arith
