-- THE SAME RULES WITHOUT SIGNS, for what keeps curvatures in a table and multiplies weights along a walk. Here `-` stops at 0 and `/` cuts.
-- A raised curvature is a curvature with 65,536 added, a number from 0 to 131,072.
use Rattle.std.specs.Prelude.{if◌then◌else◌, ℕ, suc, ◌+◌, ◌-◌, ◌*◌, ◌/◌, max, eqb, ℤ, pos, negsuc, ◌+ℤ◌, ◌*ℤ◌}
use Rattle.std.proofs.Math.IntN.{sub_ℕ}
use Rattle.std.specs.Int.Signed.{quot_z}
use Rattle.fixed.specs.Rules.{scale, floor, alpha_of, held}

-- the curvature z with 65,536 added
unfoldable pub raised : ℤ → ℕ
raised (pos n) = scale + n
raised (negsuc n) = scale - suc n

-- the curvature that the raised one c stands for
unfoldable pub lowered : ℕ → ℤ
lowered c = sub_ℕ c scale

-- 2 x ratio(shared, joined), and 65,536, which stands for curvature 0, where the joined set is empty
unfoldable pub raised_curvature : ℕ → ℕ → ℕ
raised_curvature shared joined = if eqb joined 0 then scale else 2 * (shared * scale / joined)

-- ── Alpha in 65,536ths ──

unfoldable pub fine_alpha_of : ℕ → ℕ
fine_alpha_of depth = scale * alpha_of depth

-- the weight by such an alpha and a curvature: 65,536 + alpha x curvature / 65,536 cut toward zero, held within 655 and 65,536
unfoldable pub fine_weight_number : ℕ → ℤ → ℤ
fine_weight_number alpha curvature =
    held (pos floor) (pos scale) (pos scale +ℤ quot_z (pos alpha *ℤ curvature) (pos scale))

-- the same without signs, by a raised curvature c: 65,536 less alpha x (c's distance below zero) / 65,536 cut, not under 655
unfoldable pub edge_weight : ℕ → ℕ → ℕ
edge_weight alpha c = max floor (scale - alpha * (scale - c) / scale)

-- ── Product ──

-- p x w / 65,536 cut
unfoldable pub cut : ℕ → ℕ → ℕ
cut p w = p * w / scale
