-- That the curvature of two counts is the raised one lowered, and in range.
use Rattle.std.specs.Prelude.{ℕ, ◌*◌, ◌/◌, ◌^◌, ◌≤◌, ◌<◌, ◌≡◌, true, ℤ, pos, ◌-ℤ◌, ◌*ℤ◌}
use Rattle.std.proofs.Common.{ap, arith, le-ltb, eq-eqb, ne_eqb}
use Rattle.std.proofs.Math.Decide.{ℕ_discrete}
use Rattle.fixed.specs.Answers.{served}
use Rattle.fixed.specs.Rules.{scale, ratio_of, curvature_number, curvature_of, in_range}
use Rattle.fixed.specs.Unsigned.{lowered, raised_curvature}
use Rattle.fixed.specs.Kept.{kept_small}
use Rattle.fixed.specs.Curvatures.{ratio_most, raised_curvature_most, lowered_range}

pub ratio_counts : (shared joined : ℕ) → shared ≤ joined → (joined ≡ 0 → ⊥) → ratio_of (pos shared) (pos joined) ≡ pos (shared * scale / joined)
unfolding ratio_of
ratio_counts shared joined h e =
    let g : shared * scale / joined < 2 ^ 31 = omega (arith, ratio_most shared joined h) in
    rw (ne_eqb joined 0 e) (kept_small (pos (shared * scale / joined)) g)

-- the raised form is the same number
pub curvature_raised : (shared joined : ℕ) → shared ≤ joined → curvature_number shared joined ≡ lowered (raised_curvature shared joined)
unfolding curvature_number raised_curvature lowered
curvature_raised shared joined h = elim (ℕ_discrete joined 0) [
  | yes e ↦ rw (eq-eqb joined 0 e)
  | no e ↦ rw (ne_eqb joined 0 e) (ap (λ (r : ℤ). pos 2 *ℤ r -ℤ pos scale) (ratio_counts shared joined h e))
]

-- so no weight of it is refused
pub curvature_range : (shared joined : ℕ) → shared ≤ joined → in_range (curvature_number shared joined) ≡ true
curvature_range shared joined h =
    rw (curvature_raised shared joined h) (lowered_range (raised_curvature shared joined) (raised_curvature_most shared joined h))

pub curvature_served : (shared joined : ℕ) → shared ≤ joined → curvature_of shared joined ≡ served (lowered (raised_curvature shared joined))
unfolding curvature_of
curvature_served shared joined h = rw (le-ltb joined shared h) (ap served (curvature_raised shared joined h))
