-- THE FIXED-POINT RULES, on whole numbers: `ℕ` from 0 up, and `ℤ` with a sign, where `pos n` is n and `negsuc n` is -(n + 1).
-- `quot_z a b` is a / b cut toward zero, `sub_ℕ a b` is a - b, below zero too, and `nat_abs z` is z without its sign.
-- Tests: `eqb` equal, `ltb` below, `leb` at most, and `lt_z` below with signs.
use Rattle.std.specs.Prelude.{if◌then◌else◌, ℕ, suc, ◌-◌, ◌*◌, ◌/◌, ◌%◌, ◌^◌, Bool, eqb, ltb, leb, ℤ, pos, negsuc, nat_abs, ◌+ℤ◌, ◌-ℤ◌, ◌*ℤ◌}
use Rattle.std.proofs.Math.IntN.{sub_ℕ}
use Rattle.std.specs.Int.Signed.{quot_z, lt_z}
use Rattle.fixed.specs.Answers.{Answer, served, out_of_range}

-- ── The numbers that the rules name ──

-- a fixed-point number counts 65,536ths: this many are 1
abbrev pub scale : ℕ
scale = 65536

-- the least weight
abbrev pub floor : ℕ
floor = 655

abbrev pub alpha_max : ℕ
alpha_max = 3

-- alpha rises from the first depth to the second
abbrev pub ramp_start : ℕ
ramp_start = 1000

abbrev pub ramp_end : ℕ
ramp_end = 6000

-- ── Ratio and product ──

-- the low 32 bits of z, as a number from 0 to 2 ^ 32 - 1: z, with multiples of 2 ^ 32 taken off it or added to it
unfoldable pub low_bits : ℤ → ℕ
low_bits (pos n) = n % 2 ^ 32
low_bits (negsuc n) = 2 ^ 32 - suc (n % 2 ^ 32)

-- the low 32 bits of z as two's complement, a number from -2 ^ 31 to 2 ^ 31 - 1: the upper half stands for numbers below zero
unfoldable pub kept : ℤ → ℤ
kept z = if ltb (low_bits z) (2 ^ 31) then pos (low_bits z) else sub_ℕ (low_bits z) (2 ^ 32)

abbrev pub is_zero : ℤ → Bool
is_zero z = eqb (nat_abs z) 0

-- 0 if d is 0, else n x 65,536 / d cut toward zero; the low 32 bits are kept
unfoldable pub ratio_of : ℤ → ℤ → ℤ
ratio_of n d = if is_zero d then pos 0 else kept (quot_z (n *ℤ pos scale) d)

-- a x b / 65,536 cut toward zero; the low 32 bits are kept
unfoldable pub product_of : ℤ → ℤ → ℤ
product_of a b = kept (quot_z (a *ℤ b) (pos scale))

-- ── Alpha ──

-- 0 below depth 1,000; 3 from 6,000; between, 3 x (depth - 1,000) / 5,000 cut
unfoldable pub alpha_of : ℕ → ℕ
alpha_of depth =
    if ltb depth ramp_start then 0
    else if leb ramp_end depth then alpha_max
    else alpha_max * (depth - ramp_start) / (ramp_end - ramp_start)

-- ── Curvature ──

-- 2 x ratio(shared, joined) - 65,536, and 0 where the joined set is empty
unfoldable pub curvature_number : ℕ → ℕ → ℤ
curvature_number shared joined =
    if eqb joined 0 then pos 0 else pos 2 *ℤ ratio_of (pos shared) (pos joined) -ℤ pos scale

-- counts out of range are refused: no more members are shared than joined
unfoldable pub curvature_of : ℕ → ℕ → Answer
curvature_of shared joined = if ltb joined shared then out_of_range else served (curvature_number shared joined)

-- a curvature is a number from -65,536 to 65,536
unfoldable pub in_range : ℤ → Bool
in_range z = leb (nat_abs z) scale

-- ── Weight ──

-- z held within a least and a greatest number
unfoldable pub held : ℤ → ℤ → ℤ → ℤ
held least greatest z = if lt_z z least then least else if lt_z greatest z then greatest else z

-- 65,536 if alpha is 0, else 65,536 + alpha x curvature held within 655 and 65,536
unfoldable pub weight_number : ℕ → ℤ → ℤ
weight_number alpha curvature =
    if eqb alpha 0 then pos scale else held (pos floor) (pos scale) (pos scale +ℤ pos alpha *ℤ curvature)

-- a curvature outside its range is refused, whatever alpha is
unfoldable pub weight_of : ℕ → ℤ → Answer
weight_of alpha curvature = if in_range curvature then served (weight_number alpha curvature) else out_of_range
