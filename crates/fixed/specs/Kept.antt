-- That `kept` is two's complement: the one number from -2 ^ 31 to 2 ^ 31 - 1 that differs from z by a multiple of 2 ^ 32.
use Rattle.std.specs.Prelude.{ℕ, zero, suc, ◌+◌, ◌-◌, ◌*◌, ◌/◌, ◌%◌, ◌^◌, ◌≤◌, ◌<◌, ◌≡◌, refl, true, false, ◌⊎◌, ℤ, pos, negsuc, neg_ℤ, ◌+ℤ◌, ◌-ℤ◌}
use Rattle.std.proofs.Common.{sym, ap, ◌∙◌, inl, inr, ⊎_elim, arith, lt-ltb, le-ltb, ltb-true, ltb-false}
use Rattle.std.proofs.Math.Decide.{dec_lt}
use Rattle.std.specs.Int.Signed.{mag, rem_z, lt_z}
use Rattle.fixed.specs.Rules.{low_bits, kept}

-- r has z's low 32 bits in two's complement: it is from -2 ^ 31 to 2 ^ 31 - 1, and z is k steps of 2 ^ 32 above it or below it.
-- (`mag` is n both for n and for -(n + 1).)
pub record Keeps (z r : ℤ) : Type 0 where
  pub within : mag r < 2 ^ 31
  pub away : (k : ℕ) × ((z ≡ r +ℤ pos (k * 2 ^ 32)) ⊎ (r ≡ z +ℤ pos (k * 2 ^ 32)))

-- ── By halves ──

kept_low : (z : ℤ) {m : ℕ} → low_bits z ≡ m → m < 2 ^ 31 → kept z ≡ pos m
unfolding kept
kept_low z {m} e h = rw (e, lt-ltb m (2 ^ 31) h)

kept_high : (z : ℤ) {k : ℕ} → low_bits z ≡ 2 ^ 32 - suc k → k < 2 ^ 31 → kept z ≡ negsuc k
unfolding kept
kept_high z {k} e h =
    let m = 2 ^ 32 - suc k in
    let f : 2 ^ 31 ≤ m = omega arith in
    let g : m < 2 ^ 32 = omega arith in
    let b : 2 ^ 32 - suc m ≡ k = omega arith in
    rw (e, le-ltb m (2 ^ 31) f, lt-ltb m (2 ^ 32) g, b)

low_pos : (n m : ℕ) → n % 2 ^ 32 ≡ m → low_bits (pos n) ≡ m
unfolding low_bits
low_pos n m e = e

low_neg : (n m : ℕ) → n % 2 ^ 32 ≡ m → low_bits (negsuc n) ≡ 2 ^ 32 - suc m
unfolding low_bits
low_neg n m e = rw e

-- ── The remainder by 2 ^ 32 has z's sign: it is kept as it is where it lies in the range, and else moved by 2 ^ 32 ──

abbrev pub rest : ℤ → ℤ
rest z = rem_z z (pos (2 ^ 32))

pub rest_below : (z : ℤ) → lt_z (rest z) (negsuc (2 ^ 31 - 1)) ≡ true → rest z +ℤ pos (2 ^ 32) ≡ kept z
rest_below (pos n) t = cc
rest_below (negsuc n) t = by n (suc n % 2 ^ 32) refl t
  where
    by : (n m : ℕ) → suc n % 2 ^ 32 ≡ m → lt_z (neg_ℤ (pos m)) (negsuc (2 ^ 31 - 1)) ≡ true → neg_ℤ (pos m) +ℤ pos (2 ^ 32) ≡ kept (negsuc n)
    by n zero e t = cc
    by n (suc k) e t =
        let h : 2 ^ 31 - 1 < k = ltb-true _ _ t in
        let f : n % 2 ^ 32 ≡ k = omega arith in
        let g : suc k ≤ 2 ^ 32 = omega arith in
        rw (le-ltb (2 ^ 32) (suc k) g) (sym (kept_low (negsuc n) (low_neg n k f) (omega arith)))

pub rest_within : (z : ℤ) → lt_z (rest z) (negsuc (2 ^ 31 - 1)) ≡ false → lt_z (rest z) (pos (2 ^ 31)) ≡ true → rest z ≡ kept z
rest_within (pos n) s t = sym (kept_low (pos n) (low_pos n _ refl) (ltb-true _ _ t))
rest_within (negsuc n) s t = by n (suc n % 2 ^ 32) refl s
  where
    by : (n m : ℕ) → suc n % 2 ^ 32 ≡ m → lt_z (neg_ℤ (pos m)) (negsuc (2 ^ 31 - 1)) ≡ false → neg_ℤ (pos m) ≡ kept (negsuc n)
    by n zero e s =
        let f : n % 2 ^ 32 ≡ 2 ^ 32 - 1 = omega arith in
        sym (kept_low (negsuc n) (low_neg n _ f) (omega arith))
    by n (suc k) e s =
        let h : k ≤ 2 ^ 31 - 1 = ltb-false _ _ s in
        let f : n % 2 ^ 32 ≡ k = omega arith in
        sym (kept_high (negsuc n) (low_neg n k f) (omega arith))

pub rest_above : (z : ℤ) → lt_z (rest z) (pos (2 ^ 31)) ≡ false → rest z -ℤ pos (2 ^ 32) ≡ kept z
rest_above (pos n) t =
    let h : 2 ^ 31 ≤ n % 2 ^ 32 = ltb-false _ _ t in
    let g : n % 2 ^ 32 < 2 ^ 32 = omega arith in
    let b : 2 ^ 32 - suc (2 ^ 32 - suc (n % 2 ^ 32)) ≡ n % 2 ^ 32 = omega arith in
    rw (lt-ltb (n % 2 ^ 32) (2 ^ 32) g) (sym (kept_high (pos n) (low_pos n _ (sym b)) (omega arith)))
rest_above (negsuc n) t = by n (suc n % 2 ^ 32) refl t
  where
    by : (n m : ℕ) → suc n % 2 ^ 32 ≡ m → lt_z (neg_ℤ (pos m)) (pos (2 ^ 31)) ≡ false → neg_ℤ (pos m) -ℤ pos (2 ^ 32) ≡ kept (negsuc n)
    by n zero e t = cc
    by n (suc k) e t = cc

-- ── A number that fits is kept as it is ──

pub kept_small : (z : ℤ) → mag z < 2 ^ 31 → kept z ≡ z
kept_small (pos n) h = kept_low (pos n) (low_pos n n (omega arith)) h
kept_small (negsuc n) h = kept_high (negsuc n) (low_neg n n (omega arith)) h

-- ── The kept number is the one number of its kind ──

low_same : (z : ℤ) (k : ℕ) → low_bits (z +ℤ pos (k * 2 ^ 32)) ≡ low_bits z
unfolding low_bits
low_same (pos n) k = omega arith
low_same (negsuc n) k = elim (dec_lt (k * 2 ^ 32) (suc n)) [
  | yes h ↦ rw (lt-ltb (k * 2 ^ 32) (suc n) h) (omega arith)
  | no h ↦ rw (le-ltb (k * 2 ^ 32) (suc n) (omega arith)) (omega arith)
]

kept_same : (x y : ℤ) → low_bits x ≡ low_bits y → kept x ≡ kept y
unfolding kept
kept_same x y e = rw e

pub kept_only : (z r : ℤ) → Keeps z r → r ≡ kept z
kept_only z r h = sym (kept_small r h.within) ∙ kept_same r z (⊎_elim
    (λ (e : z ≡ r +ℤ pos (h.away.0 * 2 ^ 32)). sym (rw e (low_same r h.away.0)))
    (λ (e : r ≡ z +ℤ pos (h.away.0 * 2 ^ 32)). rw e (low_same z h.away.0))
    h.away.1)

pub kept_keeps : (z : ℤ) → Keeps z (kept z)
kept_keeps (pos n) = elim (dec_lt (n % 2 ^ 32) (2 ^ 31)) [
  | yes h ↦ rw (kept_low (pos n) (low_pos n _ refl) h) (record {
    within = h;
    away = (n / 2 ^ 32, inl (ap pos (whole n)));
  })
  | no h ↦
      let k = 2 ^ 32 - suc (n % 2 ^ 32) in
      let e : n % 2 ^ 32 ≡ 2 ^ 32 - suc k = omega arith in
      let g : suc k ≤ suc (n / 2 ^ 32) * 2 ^ 32 = omega arith in
      let f : n ≡ suc (n / 2 ^ 32) * 2 ^ 32 - suc k = omega arith in
      rw (kept_high (pos n) (low_pos n _ e) (omega arith)) (record {
        within = omega arith;
        away = (suc (n / 2 ^ 32), inl (rw (le-ltb (suc (n / 2 ^ 32) * 2 ^ 32) (suc k) g) (ap pos f)));
      })
]
  where
    whole : (n : ℕ) → n ≡ n % 2 ^ 32 + n / 2 ^ 32 * 2 ^ 32
    whole n = omega arith
kept_keeps (negsuc n) = elim (dec_lt (n % 2 ^ 32) (2 ^ 31)) [
  | yes h ↦
      let g : n / 2 ^ 32 * 2 ^ 32 < suc n = omega arith in
      let f : n % 2 ^ 32 ≡ suc n - suc (n / 2 ^ 32 * 2 ^ 32) = omega arith in
      rw (kept_high (negsuc n) (low_neg n _ refl) h) (record {
        within = h;
        away = (n / 2 ^ 32, inr (rw (lt-ltb (n / 2 ^ 32 * 2 ^ 32) (suc n) g) (ap negsuc f)));
      })
  | no h ↦
      let g : suc n ≤ suc (n / 2 ^ 32) * 2 ^ 32 = omega arith in
      let f : 2 ^ 32 - suc (n % 2 ^ 32) ≡ suc (n / 2 ^ 32) * 2 ^ 32 - suc n = omega arith in
      rw (kept_low (negsuc n) (low_neg n _ refl) (omega arith)) (record {
        within = omega arith;
        away = (suc (n / 2 ^ 32), inr (rw (le-ltb (suc (n / 2 ^ 32) * 2 ^ 32) (suc n) g) (ap pos f)));
      })
]

pub kept_fits : (z : ℤ) → mag (kept z) < 2 ^ 31
kept_fits z = (kept_keeps z).within
