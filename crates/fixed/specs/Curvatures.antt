-- Laws of curvatures: the raised form is the same number; of two counts it is in range (proofs/Curvatures goes on from there).
use Rattle.std.specs.Prelude.{ℕ, suc, ◌+◌, ◌-◌, ◌*◌, ◌/◌, ◌≤◌, ◌<◌, ◌≡◌, true, ℤ, pos, negsuc, ◌+ℤ◌, ◌≤ℤ◌}
use Rattle.std.proofs.Common.{ap, arith, mul-le-mul_right, add_comm, lt-ltb, le-ltb, eq-eqb, ne_eqb, le-leb, leb-true, leb→le}
use Rattle.std.proofs.Math.Decide.{dec_lt, ℕ_discrete}
use Rattle.std.proofs.Math.Nat.{div-le_of_le-mul}
use Rattle.std.specs.Int.Signed.{mag}
use Rattle.fixed.specs.Answers.{out_of_range}
use Rattle.fixed.specs.Rules.{scale, curvature_of, in_range}
use Rattle.fixed.specs.Unsigned.{raised, lowered, raised_curvature}

-- ── Raised and lowered ──

pub raised_lowered : (c : ℕ) → raised (lowered c) ≡ c
unfolding raised lowered
raised_lowered c = elim (dec_lt c scale) [
  | yes h ↦ rw (lt-ltb c scale h) (omega arith)
  | no h ↦ rw (le-ltb c scale (omega arith)) (omega arith)
]

pub lowered_raised : (z : ℤ) → in_range z ≡ true → lowered (raised z) ≡ z
unfolding raised lowered in_range
lowered_raised (pos n) h =
    let e : scale + n - scale ≡ n = omega arith in
    rw (le-ltb (scale + n) scale (omega arith), e)
lowered_raised (negsuc n) h =
    let g : suc n ≤ scale = leb-true _ _ h in
    let e : scale - suc (scale - suc n) ≡ n = omega arith in
    rw (lt-ltb (scale - suc n) scale (omega arith), e)

-- the sum that gives the raised form its name
pub raised_is : (z : ℤ) → in_range z ≡ true → z +ℤ pos scale ≡ pos (raised z)
unfolding raised in_range
raised_is (pos n) h = ap pos (add_comm n scale)
raised_is (negsuc n) h = rw (le-ltb scale (suc n) (leb-true _ _ h))

pub raised_most : (z : ℤ) → in_range z ≡ true → raised z ≤ 2 * scale
unfolding raised in_range
raised_most (pos n) h = omega (arith, leb-true n scale h)
raised_most (negsuc n) h = omega arith

pub raised_rises : (y z : ℤ) → y ≤ℤ z → raised y ≤ raised z
unfolding raised
raised_rises (pos m) (pos n) h = omega (arith, leb→le m n h.le)
raised_rises (pos m) (negsuc n) h = absurd h.le
raised_rises (negsuc m) (pos n) h = omega arith
raised_rises (negsuc m) (negsuc n) h = omega (arith, leb→le n m h.le)

pub lowered_range : (c : ℕ) → c ≤ 2 * scale → in_range (lowered c) ≡ true
unfolding lowered in_range
lowered_range c h = elim (dec_lt c scale) [
  | yes g ↦ rw (lt-ltb c scale g) (le-leb (suc (scale - suc c)) scale (omega arith))
  | no g ↦ rw (le-ltb c scale (omega arith)) (le-leb (c - scale) scale (omega arith))
]

pub range_size : (z : ℤ) → in_range z ≡ true → mag z ≤ scale
unfolding in_range
range_size (pos n) h = leb-true n scale h
range_size (negsuc n) h = omega (arith, leb-true (suc n) scale h)

-- ── The curvature of two counts ──

-- a ratio of counts is at most 1
pub ratio_most : (shared joined : ℕ) → shared ≤ joined → shared * scale / joined ≤ scale
ratio_most shared joined h = div-le_of_le-mul joined (mul-le-mul_right scale h)

pub raised_curvature_most : (shared joined : ℕ) → shared ≤ joined → raised_curvature shared joined ≤ 2 * scale
unfolding raised_curvature
raised_curvature_most shared joined h = elim (ℕ_discrete joined 0) [
  | yes e ↦ rw (eq-eqb joined 0 e) (omega arith)
  | no e ↦ rw (ne_eqb joined 0 e) (omega (arith, ratio_most shared joined h))
]

-- ── What is refused and what is served ──

pub curvature_refused : (shared joined : ℕ) → joined < shared → curvature_of shared joined ≡ out_of_range
unfolding curvature_of
curvature_refused shared joined h = rw (lt-ltb joined shared h)
