-- Laws of weights and their products. The form without signs is the same number as the rule's, and each law is said of both.
use Rattle.std.specs.Prelude.{ℕ, zero, suc, ◌+◌, ◌-◌, ◌*◌, ◌/◌, ◌≤◌, ◌<◌, max, min, ◌≡◌, refl, true, false, ℤ, pos, neg_ℤ, ◌+ℤ◌, ◌*ℤ◌, ◌≤ℤ◌}
use Rattle.std.proofs.Common.{sym, ap, ◌∙◌, arith, mul-le-mul, mul-le-mul_left, mul_assoc, mul-zero, zero-mul, le_trans, lt-ltb, le-ltb, eq-eqb, ne_eqb, le-leb, le→leb}
use Rattle.std.proofs.Math.Decide.{dec_lt, ℕ_discrete}
use Rattle.std.proofs.Math.Nat.{mul-div_right}
use Rattle.std.proofs.lemmas.Bool.{lt-leb}
use Rattle.std.specs.Int.Signed.{quot_z}
use Rattle.fixed.specs.Answers.{served, out_of_range}
use Rattle.fixed.specs.Rules.{scale, floor, alpha_max, ramp_start, ramp_end, product_of, alpha_of, in_range, held, weight_number, weight_of}
use Rattle.fixed.specs.Unsigned.{raised, lowered, fine_alpha_of, fine_weight_number, edge_weight, cut}
use Rattle.fixed.specs.Kept.{kept_small}
use Rattle.fixed.specs.Curvatures.{lowered_raised, raised_rises}

-- ── Alpha ──

pub alpha_most : (depth : ℕ) → alpha_of depth ≤ alpha_max
unfolding alpha_of
alpha_most depth = elim (dec_lt depth ramp_start) [
  | yes h ↦ rw (lt-ltb depth ramp_start h) (omega arith)
  | no h ↦ elim (dec_lt depth ramp_end) [
    | yes k ↦ rw (le-ltb depth ramp_start (omega arith), lt-leb ramp_end depth k) (omega arith)
    | no k ↦ rw (le-ltb depth ramp_start (omega arith), le-leb ramp_end depth (omega arith)) (omega arith)
  ]
]

-- alpha in 65,536ths is the same alpha
pub alpha_fine : (depth : ℕ) → fine_alpha_of depth ≡ scale * alpha_of depth
unfolding fine_alpha_of
alpha_fine depth = refl

-- ── Weights: the same number with signs and without, and with alpha whole or in 65,536ths ──

held_pos : (n : ℕ) → held (pos floor) (pos scale) (pos n) ≡ pos (max floor (min scale n))
unfolding held
held_pos n = elim (dec_lt n floor) [
  | yes h ↦ rw (lt-ltb n floor h) (ap pos (low n h))
  | no h ↦ elim (dec_lt scale n) [
    | yes k ↦ rw (le-ltb n floor (omega arith), lt-ltb scale n k) (ap pos (high n k))
    | no k ↦ rw (le-ltb n floor (omega arith), le-ltb scale n (omega arith)) (ap pos (mid n h k))
  ]
]
  where
    low : (n : ℕ) → n < floor → floor ≡ max floor (min scale n)
    low n h = omega arith

    high : (n : ℕ) → scale < n → scale ≡ max floor (min scale n)
    high n h = omega arith

    mid : (n : ℕ) → ¬ (n < floor) → ¬ (scale < n) → n ≡ max floor (min scale n)
    mid n h k = omega arith

held_less : (x : ℕ) → held (pos floor) (pos scale) (pos scale +ℤ neg_ℤ (pos x)) ≡ pos (max floor (scale - x))
unfolding held
held_less zero = refl
held_less (suc x) = elim (dec_lt scale (suc x)) [
  | yes h ↦ rw (lt-ltb scale (suc x) h) (ap pos (none x h))
  | no h ↦ rw (le-ltb scale (suc x) (omega arith)) (held_pos (scale - suc x) ∙ ap pos (some x))
]
  where
    none : (x : ℕ) → scale < suc x → floor ≡ max floor (scale - suc x)
    none x h = omega arith

    some : (x : ℕ) → max floor (min scale (scale - suc x)) ≡ max floor (scale - suc x)
    some x = omega arith

held_more : (x : ℕ) → held (pos floor) (pos scale) (pos scale +ℤ pos x) ≡ pos scale
held_more x = held_pos (scale + x) ∙ ap pos (most x)
  where
    most : (x : ℕ) → max floor (min scale (scale + x)) ≡ scale
    most x = omega arith

times_below : (alpha c : ℕ) → c < scale → pos alpha *ℤ lowered c ≡ neg_ℤ (pos (alpha * (scale - c)))
unfolding lowered
times_below alpha c h =
    let e : suc (scale - suc c) ≡ scale - c = omega arith in
    rw (lt-ltb c scale h, e)

times_above : (alpha c : ℕ) → scale ≤ c → pos alpha *ℤ lowered c ≡ pos (alpha * (c - scale))
unfolding lowered
times_above alpha c h = rw (le-ltb c scale h)

-- nothing is lost where the curvature is not below zero
no_loss : (alpha c : ℕ) → scale ≤ c → alpha * (scale - c) ≡ 0
no_loss alpha c h =
    let e : scale - c ≡ 0 = omega arith in
    rw e (mul-zero alpha)

-- alpha x (distance below zero) is taken off the full weight, down to the floor
pub weight_lowered : (alpha c : ℕ) → weight_number alpha (lowered c) ≡ pos (max floor (scale - alpha * (scale - c)))
unfolding weight_number
weight_lowered alpha c = elim (ℕ_discrete alpha 0) [
  | yes e ↦ rw (eq-eqb alpha 0 e, e, zero-mul (scale - c))
  | no e ↦ elim (dec_lt c scale) [
    | yes h ↦ rw (ne_eqb alpha 0 e, times_below alpha c h) (held_less (alpha * (scale - c)))
    | no h ↦
        let k : scale ≤ c = omega arith in
        rw (ne_eqb alpha 0 e, times_above alpha c k, no_loss alpha c k) (held_more (alpha * (c - scale)))
  ]
]

cut_negative : (x : ℕ) → quot_z (neg_ℤ (pos x)) (pos scale) ≡ neg_ℤ (pos (x / scale))
cut_negative zero = refl
cut_negative (suc x) = refl

-- with alpha in 65,536ths, whatever it is, the form without signs is the same number
pub fine_lowered : (alpha c : ℕ) → fine_weight_number alpha (lowered c) ≡ pos (edge_weight alpha c)
unfolding fine_weight_number edge_weight
fine_lowered alpha c = elim (dec_lt c scale) [
  | yes h ↦ rw (times_below alpha c h, cut_negative (alpha * (scale - c))) (held_less (alpha * (scale - c) / scale))
  | no h ↦
      let k : scale ≤ c = omega arith in
      rw (times_above alpha c k, no_loss alpha c k) (held_more (alpha * (c - scale) / scale))
]

-- a whole alpha, in 65,536ths, gives the weight of the rule
pub edge_whole : (alpha c : ℕ) → edge_weight (scale * alpha) c ≡ max floor (scale - alpha * (scale - c))
unfolding edge_weight
edge_whole alpha c = rw (mul_assoc scale alpha (scale - c), mul-div_right (alpha * (scale - c)) {m = scale} (omega arith))

pub edge_lowered : (alpha c : ℕ) → weight_number alpha (lowered c) ≡ pos (edge_weight (scale * alpha) c)
edge_lowered alpha c = weight_lowered alpha c ∙ ap pos (sym (edge_whole alpha c))

pub weight_edge : (alpha : ℕ) (z : ℤ) → in_range z ≡ true → weight_number alpha z ≡ pos (edge_weight (scale * alpha) (raised z))
weight_edge alpha z h = ap (weight_number alpha) (sym (lowered_raised z h)) ∙ edge_lowered alpha (raised z)

pub weight_fine : (alpha : ℕ) (z : ℤ) → in_range z ≡ true → fine_weight_number (scale * alpha) z ≡ weight_number alpha z
weight_fine alpha z h =
    ap (fine_weight_number (scale * alpha)) (sym (lowered_raised z h)) ∙ fine_lowered (scale * alpha) (raised z) ∙ sym (weight_edge alpha z h)

pub edge_at_depth : (depth c : ℕ) → weight_number (alpha_of depth) (lowered c) ≡ pos (edge_weight (fine_alpha_of depth) c)
edge_at_depth depth c = rw (alpha_fine depth) (edge_lowered (alpha_of depth) c)

-- ── Weights lie between 655 and 65,536, and never fall as curvature rises ──

pub edge_least : (alpha c : ℕ) → floor ≤ edge_weight alpha c
unfolding edge_weight
edge_least alpha c = omega arith

pub edge_most : (alpha c : ℕ) → edge_weight alpha c ≤ scale
unfolding edge_weight
edge_most alpha c = omega arith

pub edge_rises : (alpha : ℕ) {c d : ℕ} → c ≤ d → edge_weight alpha c ≤ edge_weight alpha d
unfolding edge_weight
edge_rises alpha {c} {d} h =
    let g : alpha * (scale - d) ≤ alpha * (scale - c) = mul-le-mul_left alpha (omega arith) in
    omega arith

pos_le : {m n : ℕ} → m ≤ n → pos m ≤ℤ pos n
pos_le {m} {n} h = record { le = le→leb m n h }

pub weight_least : (alpha : ℕ) (z : ℤ) → in_range z ≡ true → pos floor ≤ℤ weight_number alpha z
weight_least alpha z h = rw (weight_edge alpha z h) (pos_le (edge_least (scale * alpha) (raised z)))

pub weight_most : (alpha : ℕ) (z : ℤ) → in_range z ≡ true → weight_number alpha z ≤ℤ pos scale
weight_most alpha z h = rw (weight_edge alpha z h) (pos_le (edge_most (scale * alpha) (raised z)))

pub weight_rises : (alpha : ℕ) (y z : ℤ) → in_range y ≡ true → in_range z ≡ true → y ≤ℤ z → weight_number alpha y ≤ℤ weight_number alpha z
weight_rises alpha y z g h l =
    rw (weight_edge alpha y g, weight_edge alpha z h) (pos_le (edge_rises (scale * alpha) (raised_rises y z l)))

-- ── The cut product is at most its first factor, and never falls as a factor rises ──

pub cut_most : (p w : ℕ) → w ≤ scale → cut p w ≤ p
unfolding cut
cut_most p w h = omega (arith, mul-le-mul_left p h)

pub cut_rises : {p q w v : ℕ} → p ≤ q → w ≤ v → cut p w ≤ cut q v
unfolding cut
cut_rises {p} {q} {w} {v} h g =
    let f : p * w ≤ q * v = mul-le-mul h g in
    omega arith

-- the same number as the product with signs
pub product_cut : (p w : ℕ) → p ≤ scale → w ≤ scale → product_of (pos p) (pos w) ≡ pos (cut p w)
unfolding product_of cut
product_cut p w h g = kept_small (pos (p * w / scale)) (omega (arith, mul-le-mul_left p g))

pub product_most : (p w : ℕ) → p ≤ scale → w ≤ scale → product_of (pos p) (pos w) ≤ℤ pos p
product_most p w h g = rw (product_cut p w h g) (pos_le (cut_most p w g))

pub product_rises : {p q w v : ℕ} → p ≤ q → q ≤ scale → w ≤ v → v ≤ scale → product_of (pos p) (pos w) ≤ℤ product_of (pos q) (pos v)
product_rises {p} {q} {w} {v} h k g l =
    rw (product_cut p w (le_trans h k) (le_trans g l), product_cut q v k l) (pos_le (cut_rises h g))

-- ── What is refused and what is served ──

pub weight_refused : (alpha : ℕ) (z : ℤ) → in_range z ≡ false → weight_of alpha z ≡ out_of_range
unfolding weight_of
weight_refused alpha z h = rw h

pub weight_served : (alpha : ℕ) (z : ℤ) → in_range z ≡ true → weight_of alpha z ≡ served (pos (edge_weight (scale * alpha) (raised z)))
unfolding weight_of
weight_served alpha z h = rw h (ap served (weight_edge alpha z h))
