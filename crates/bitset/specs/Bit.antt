-- The bits of what the machine's operations on words give. Assumes nothing.
use Rattle.std.specs.Prelude.{◌≡◌, refl, true, false, not, cond, ◌&&◌, ◌||◌, ◌⊎◌, ℕ, zero, suc, ◌+◌, ◌-◌, ◌*◌, ◌/◌, ◌%◌, ◌^◌, ◌≤◌, ◌<◌, min, max, eqb}
use Rattle.std.proofs.Common.{sym, ap, ap₂, ◌∙◌, inl, inr, ⊎_elim, suc-le-suc, not-suc-le-zero, le_of_suc-le-suc, mod-lt, pow-suc, mod-eq_of_lt, add_comm, one-mul, lt_of_lt_of_le, lt_of_le_of_lt, one-add, arith, pow_pos, pow_mono, shr-shr, shl_exact}
use Rattle.std.proofs.lemmas.Bool.{false≢true}
use Rattle.std.proofs.Math.Nat.{mod-one, div-eq_of_lt}
use Rattle.std.proofs.Math.Dec.{eqb-suc-zero, eqb-zero-suc, eqb-suc-suc}
use Rattle.std.proofs.lemmas.Nat.{shr_le, mod-pow-add, and_shr, or_shr, ones_cat}
use Rattle.std.specs.Int.Bits.{bit_and, bit_or, and_step, or_step}
use Rattle.std.specs.Int.Count.{ones, ones_in, count_trailing_zeros, under}
use Rattle.bitset.specs.Cases.{lt_or_le}
use Rattle.bitset.specs.Sets.{is_one, count_below}

two_pos : 0 < 2
two_pos = omega arith

-- a digit is 0 or 1
digit : (x : ℕ) → (x % 2 ≡ 0) ⊎ (x % 2 ≡ 1)
digit x = ⊎_elim (λ (h : x % 2 < 1). inl (omega arith)) (λ (h : 1 ≤ x % 2). inr (omega arith)) (lt_or_le (x % 2) 1)

by_digits : (P : ℕ → ℕ → Type 0) → P 0 0 → P 0 1 → P 1 0 → P 1 1 → (x y : ℕ) → P (x % 2) (y % 2)
by_digits P a b c d x y =
    ⊎_elim
    (λ (e : x % 2 ≡ 0). ⊎_elim (λ (f : y % 2 ≡ 0). rw (e, f) a) (λ (f : y % 2 ≡ 1). rw (e, f) b) (digit y))
    (λ (e : x % 2 ≡ 1). ⊎_elim (λ (f : y % 2 ≡ 0). rw (e, f) c) (λ (f : y % 2 ≡ 1). rw (e, f) d) (digit y))
    (digit x)

-- bit i of x is bit 0 of x / 2 ^ i, and bit i + 1 is bit i of the half
pub shifted_one : (x k i : ℕ) → is_one (x / 2 ^ k) i ≡ is_one x (k + i)
unfolding is_one
shifted_one x k i = ap (λ (n : ℕ). eqb (n % 2) 1) (shr-shr x k i)

half_one : (x i : ℕ) → is_one x (suc i) ≡ is_one (x / 2) i
half_one x i = sym (shifted_one x 1 i ∙ ap (is_one x) (one-add i))

-- a word of k bits has none from k on
above_one : (x k i : ℕ) → x < 2 ^ k → k ≤ i → is_one x i ≡ false
unfolding is_one
above_one x k i h l = ap (λ (n : ℕ). eqb (n % 2) 1) (div-eq_of_lt (lt_of_lt_of_le h (pow_mono l)))

-- ── Operations ──

-- the lowest bit, above which stands r
even : (r : ℕ) → eqb ((r * 2 + 0) % 2) 1 ≡ false
even r = let e : (r * 2 + 0) % 2 ≡ 0 = omega arith in rw e

odd : (r : ℕ) → eqb ((r * 2 + 1) % 2) 1 ≡ true
odd r = let e : (r * 2 + 1) % 2 ≡ 1 = omega arith in rw e

pub or_one : (a b i : ℕ) → is_one (bit_or a b) i ≡ (is_one a i || is_one b i)
unfolding is_one
or_one a b i =
    let x = a / 2 ^ i in
    let y = b / 2 ^ i in
    let r = bit_or (x / 2) (y / 2) in
    ap (λ (n : ℕ). eqb (n % 2) 1) (or_shr a b i ∙ or_step x y)
    ∙ by_digits (λ (c d : ℕ). eqb ((r * 2 + max c d) % 2) 1 ≡ (eqb c 1 || eqb d 1)) (even r) (odd r) (odd r) (odd r) x y

pub and_one : (a b i : ℕ) → is_one (bit_and a b) i ≡ (is_one a i && is_one b i)
unfolding is_one
and_one a b i =
    let x = a / 2 ^ i in
    let y = b / 2 ^ i in
    let r = bit_and (x / 2) (y / 2) in
    ap (λ (n : ℕ). eqb (n % 2) 1) (and_shr a b i ∙ and_step x y)
    ∙ by_digits (λ (c d : ℕ). eqb ((r * 2 + min c d) % 2) 1 ≡ (eqb c 1 && eqb d 1)) (even r) (even r) (even r) (odd r) x y

-- the complement in k bits
not_low : (x d : ℕ) → x + d ≡ 1 → eqb x 1 ≡ not (eqb d 1)
not_low zero d e = let f : d ≡ 1 = omega arith in rw f
not_low (suc zero) d e = let f : d ≡ 0 = omega arith in rw f
not_low (suc (suc x)) d e = absurd (omega arith)

pub not_one : (i k a : ℕ) → i < k → a < 2 ^ k → is_one ((2 ^ k - 1) - a) i ≡ not (is_one a i)
unfolding is_one
not_one i zero a h f = absurd (not-suc-le-zero h)
not_one zero (suc k) a h f =
    let e : ((2 ^ suc k - 1) - a) / 2 ^ 0 % 2 + a / 2 ^ 0 % 2 ≡ 1 = omega (arith, pow-suc 2 k, pow_pos k) in
    not_low (((2 ^ suc k - 1) - a) / 2 ^ 0 % 2) (a / 2 ^ 0 % 2) e
not_one (suc i) (suc k) a h f =
    let half : ((2 ^ suc k - 1) - a) / 2 ≡ (2 ^ k - 1) - a / 2 = omega (arith, pow-suc 2 k, pow_pos k) in
    half_one ((2 ^ suc k - 1) - a) i ∙ ap (λ (n : ℕ). is_one n i) half
    ∙ not_one i k (a / 2) (le_of_suc-le-suc h) (omega (arith, pow-suc 2 k)) ∙ ap not (sym (half_one a i))

-- ── Words of no bit and of one ──

pub zero_one : (i : ℕ) → is_one 0 i ≡ false
unfolding is_one
zero_one zero = refl
zero_one (suc i) = half_one 0 i ∙ zero_one i

pub pow_one : (k i : ℕ) → is_one (2 ^ k) i ≡ eqb i k
unfolding is_one
pow_one zero zero = refl
pow_one zero (suc i) = half_one 1 i ∙ zero_one i ∙ sym (eqb-suc-zero i)
pow_one (suc k) zero = let e : 2 ^ suc k / 2 ^ 0 % 2 ≡ 0 = omega (arith, pow-suc 2 k) in rw (e, eqb-zero-suc k)
pow_one (suc k) (suc i) =
    let half : 2 ^ suc k / 2 ≡ 2 ^ k = omega (arith, pow-suc 2 k) in
    half_one (2 ^ suc k) i ∙ ap (λ (n : ℕ). is_one n i) half ∙ pow_one k i ∙ sym (eqb-suc-suc i k)

-- 1 << k
pub shifted_mark : (k : ℕ) → k < 64 → 1 * 2 ^ k % 2 ^ 64 ≡ 2 ^ k
shifted_mark k h = shl_exact 1 k 64 (omega arith) (omega arith) ∙ one-mul (2 ^ k)

-- ── The count of ones ──

one_digit : (d : ℕ) → d < 2 → ones d ≡ cond (eqb d 1) 1 0
unfolding ones ones_in
one_digit zero h = refl
one_digit (suc zero) h = refl
one_digit (suc (suc d)) h = absurd (not-suc-le-zero (le_of_suc-le-suc (le_of_suc-le-suc h)))

low_ones : (k x : ℕ) → count_below (is_one x) k ≡ ones (x % 2 ^ k)
unfolding count_below is_one ones ones_in
low_ones zero x = sym (ap ones (mod-one x))
low_ones (suc k) x =
    let top = x / 2 ^ k % 2 in
    let e : x % 2 ^ suc k ≡ top * 2 ^ k + x % 2 ^ k = ap (λ (n : ℕ). x % 2 ^ n) (sym (one-add k)) ∙ mod-pow-add x 1 k in
    ap₂ (λ (a b : ℕ). a + b) (low_ones k x) (sym (one_digit top (mod-lt (x / 2 ^ k) two_pos)))
    ∙ add_comm (ones (x % 2 ^ k)) (ones top)
    ∙ sym (ap ones e ∙ ones_cat k top (x % 2 ^ k) (mod-lt x (pow_pos k)))

-- the ones of a word of k bits are its bits that are one
pub ones_count : (k x : ℕ) → x < 2 ^ k → ones x ≡ count_below (is_one x) k
ones_count k x h = sym (low_ones k x ∙ ap ones (mod-eq_of_lt h))

-- ── The lowest one ──

bottom : (x d : ℕ) → x % 2 ≡ d → is_one x 0 ≡ eqb d 1
unfolding is_one
bottom x d e = let f : x / 2 ^ 0 % 2 ≡ d = omega arith in rw f

pub below_lowest : (k x i : ℕ) → i < count_trailing_zeros k x → is_one x i ≡ false
unfolding count_trailing_zeros
below_lowest zero x i h = absurd (not-suc-le-zero h)
below_lowest (suc k) x i h = by (x % 2) refl i h (λ j. below_lowest k (x / 2) j)
  where
    by : (d : ℕ) → x % 2 ≡ d → (i : ℕ) → i < under d (count_trailing_zeros k (x / 2))
        → ((j : ℕ) → j < count_trailing_zeros k (x / 2) → is_one (x / 2) j ≡ false) → is_one x i ≡ false
    by zero e zero h rest = bottom x 0 e
    by zero e (suc i) h rest = half_one x i ∙ rest i (le_of_suc-le-suc h)
    by (suc d) e i h rest = absurd (not-suc-le-zero h)

pub lowest_one : (k x : ℕ) → 0 < x → x < 2 ^ k → (count_trailing_zeros k x < k) × (is_one x (count_trailing_zeros k x) ≡ true)
unfolding count_trailing_zeros
lowest_one zero x p h = absurd (omega arith)
lowest_one (suc k) x p h = by (x % 2) refl (λ q. lowest_one k (x / 2) q (omega (arith, pow-suc 2 k)))
  where
    by : (d : ℕ) → x % 2 ≡ d
        → (0 < x / 2 → (count_trailing_zeros k (x / 2) < k) × (is_one (x / 2) (count_trailing_zeros k (x / 2)) ≡ true))
        → (under d (count_trailing_zeros k (x / 2)) < suc k) × (is_one x (under d (count_trailing_zeros k (x / 2))) ≡ true)
    by zero e rest = let r = rest (omega arith) in (suc-le-suc r.0, half_one x (count_trailing_zeros k (x / 2)) ∙ r.1)
    by (suc d) e rest = (omega arith, bottom x 1 (omega (arith, mod-lt x two_pos)))

-- the lowest one of x's bits from low on
pub lowest_from : (k x low : ℕ) → x < 2 ^ k → 0 < x / 2 ^ low → low + count_trailing_zeros k (x / 2 ^ low) < k
lowest_from k x low h p = by (lt_or_le (low + t) k)
  where
    t : ℕ
    t = count_trailing_zeros k (x / 2 ^ low)

    one : is_one x (low + t) ≡ true
    one = sym (shifted_one x low t) ∙ (lowest_one k (x / 2 ^ low) p (lt_of_le_of_lt (shr_le x low) h)).1

    by : (low + t < k) ⊎ (k ≤ low + t) → low + t < k
    by (inl l) = l
    by (inr g) = absurd (false≢true (sym (above_one x k (low + t) h g) ∙ one))
