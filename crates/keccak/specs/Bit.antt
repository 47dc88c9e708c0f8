-- The single bits of what the machine's operations give.
use Rattle.std.specs.Prelude.{◌≡◌, ◌⊎◌, ℕ, zero, suc, ◌+◌, ◌-◌, ◌*◌, ◌/◌, ◌%◌, ◌^◌, ◌≤◌, ◌<◌, min, max}
use Rattle.std.proofs.Common.{sym, ap, ap₂, ◌∙◌, subst, inl, inr, ⊎_elim, not-suc-le-zero, le_of_suc-le-suc, mod-lt, eq-zero-or-pos, pow-suc, add_comm, add-zero, add_assoc, eq-or-lt_of_le, arith, pow_pos, shr-shr, shr_lt}
use Rattle.std.proofs.Math.Nat.{mul-mod_left}
use Rattle.std.proofs.Math.Pow.{mod-mod-pow, field}
use Rattle.std.proofs.lemmas.Nat.{shr_le, mod-pow-add, shl-shr, or_shifted, or_lt}
use Rattle.std.specs.Int.Bits.{bit_xor, bit_and, bit_or, differ, or_self}
use Rattle.std.specs.Int.Bits.{xor_assoc as xor_groups}
use Rattle.std.proofs.lemmas.Nat.Bits.{bit_at-lt, bit_at-suc, bit_at-zero, bit_at_xor, bit_at_and, bit_at_or, bit_at_above, bit_at_cat_low, bit_at_cat_high, same_from_bits_below}
use Rattle.keccak.specs.Fips202.{◌⊕◌, bit}
use Rattle.keccak.specs.Each.{agree}
use Rattle.keccak.specs.Lanes.{turned}

pub below_or_not : (a b : ℕ) → (a < b) ⊎ (b ≤ a)
below_or_not a b = ⊎_elim (λ (h : b - a ≡ zero). inr (omega arith)) (λ (h : zero < b - a). inl (omega arith)) (eq-zero-or-pos (b - a))

pub equal_or_not : (a b : ℕ) → (a ≡ b) ⊎ (a ≡ b → ⊥)
equal_or_not a b =
    ⊎_elim (λ (h : a < b). inr (λ (e : a ≡ b). omega arith))
    (λ (h : b ≤ a). ⊎_elim (λ (e : b ≡ a). inl (sym e)) (λ (l : b < a). inr (λ (e : a ≡ b). omega arith)) (eq-or-lt_of_le h)) (below_or_not a b)

-- ⊕ and · of two bits: a sum's parity, however it is bracketed
sum_left : (p q r : ℕ) → (p ⊕ q) ⊕ r ≡ (p + q + r) % 2
sum_left p q r = omega arith

sum_right : (p q r : ℕ) → p ⊕ (q ⊕ r) ≡ (p + q + r) % 2
sum_right p q r = omega arith

sum_pairs : (p q r s : ℕ) → (p ⊕ q) ⊕ (r ⊕ s) ≡ (p + q + (r + s)) % 2
sum_pairs p q r s = sum_left p q (r ⊕ s) ∙ sum_right (p + q) r s ∙ ap (λ (n : ℕ). n % 2) (add_assoc (p + q) r s)

pub plus_assoc : (p q r : ℕ) → (p ⊕ q) ⊕ r ≡ p ⊕ (q ⊕ r)
plus_assoc p q r = sum_left p q r ∙ sym (sum_right p q r)

pub plus_swap : (p f q g : ℕ) → (p ⊕ f) ⊕ (q ⊕ g) ≡ (p ⊕ q) ⊕ (f ⊕ g)
plus_swap p f q g = let e : p + f + (q + g) ≡ p + q + (f + g) = omega arith in sum_pairs p f q g ∙ ap (λ (n : ℕ). n % 2) e ∙ sym (sum_pairs p q f g)

pub plus_comm : (p q : ℕ) → p ⊕ q ≡ q ⊕ p
plus_comm p q = ap (λ (n : ℕ). n % 2) (add_comm p q)

pub plus_zero : (v : ℕ) → v % 2 ≡ v % 2 ⊕ 0
plus_zero v = omega arith

pub zero_plus : (v : ℕ) → 0 ⊕ v % 2 ≡ v % 2
zero_plus v = omega arith

min_is : (x y : ℕ) → x < 2 → y < 2 → min x y ≡ x * y
min_is = agree 2 2 min ◌*◌ tt

-- of two bits
pub differ_is : (x y : ℕ) → x < 2 → y < 2 → differ x y ≡ x ⊕ y
differ_is = agree 2 2 differ ◌⊕◌ tt

pub max_lt : (x y : ℕ) → x < 2 → y < 2 → max x y < 2
max_lt x y hx hy = omega arith

pub product_lt : (x y : ℕ) → x < 2 → y < 2 → x * y < 2
product_lt x y hx hy = subst (λ (n : ℕ). n < 2) (min_is x y hx hy) (omega arith)

pub below_pow : (n : ℕ) → n < 2 ^ n
below_pow zero = omega arith
below_pow (suc n) = omega (arith, below_pow n, pow-suc 2 n)

pub xor_assoc : (a b c : ℕ) → bit_xor (bit_xor a b) c ≡ bit_xor a (bit_xor b c)
xor_assoc = xor_groups

pub xor_bit : (a b i : ℕ) → bit (bit_xor a b) i ≡ bit a i ⊕ bit b i
xor_bit = bit_at_xor

pub and_bit : (a b i : ℕ) → bit (bit_and a b) i ≡ bit a i * bit b i
and_bit a b i = bit_at_and a b i ∙ min_is (bit a i) (bit b i) (bit_at-lt a i) (bit_at-lt b i)

pub or_bit : (a b i : ℕ) → bit (bit_or a b) i ≡ max (bit a i) (bit b i)
or_bit = bit_at_or

-- numbers with the same bits are equal
pub same_bits : (k a b : ℕ) → a < 2 ^ k → b < 2 ^ k → ((i : ℕ) → i < k → bit a i ≡ bit b i) → a ≡ b
same_bits = same_from_bits_below

-- the complement in k bits
not_half : (a k : ℕ) → a < 2 ^ suc k → ((2 ^ suc k - 1) - a) / 2 ≡ (2 ^ k - 1) - a / 2
not_half a k h = omega (arith, pow-suc 2 k, pow_pos k)

pub not_bit : (i k a : ℕ) → i < k → a < 2 ^ k → bit ((2 ^ k - 1) - a) i ≡ bit a i ⊕ 1
not_bit i zero a h f = absurd (not-suc-le-zero h)
not_bit zero (suc k) a h f = omega (arith, pow-suc 2 k, pow_pos k)
not_bit (suc i) (suc k) a h f =
    bit_at-suc ((2 ^ suc k - 1) - a) i
    ∙ ap (λ (n : ℕ). bit n i) (not_half a k f)
    ∙ not_bit i k (a / 2) (le_of_suc-le-suc h) (omega (arith, pow-suc 2 k))
    ∙ ap (λ (n : ℕ). n ⊕ 1) (sym (bit_at-suc a i))

-- the low j bits of a number
pub low_bit : (x i j : ℕ) → i < j → bit (x % 2 ^ j) i ≡ bit x i
low_bit x i j h =
    let e : j ≡ (j - i) + i = omega arith in
    let d : j - i ≡ (j - i - 1) + 1 = omega arith in
    ap (λ (n : ℕ). x % 2 ^ n / 2 ^ i % 2) e
    ∙ ap (λ (n : ℕ). n % 2) (field x (j - i) i)
    ∙ ap (λ (n : ℕ). x / 2 ^ i % 2 ^ n % 2) d
    ∙ mod-mod-pow (x / 2 ^ i) (j - i - 1) 1

-- a number put n places up, with another below it
module _ (x y n : ℕ) (small : y < 2 ^ n) where
  pub under_bit : (i : ℕ) → i < n → bit (x * 2 ^ n + y) i ≡ bit y i
  under_bit = bit_at_cat_low x n y

  pub over_bit : (i : ℕ) → bit (x * 2 ^ n + y) (n + i) ≡ bit x i
  over_bit i = bit_at_cat_high x n y (n + i) small (omega arith) ∙ ap (bit x) (omega arith)

-- a lane of m + n bits turned by n places
module _ (x n m : ℕ) (h : x < 2 ^ (m + n)) where
  top_lt : x / 2 ^ m < 2 ^ n
  top_lt = shr_lt n m (subst (λ (k : ℕ). x < 2 ^ k) (add_comm m n) h)

  turned_sum : bit_or (x * 2 ^ n % 2 ^ (m + n)) (x / 2 ^ m) ≡ (x % 2 ^ m) * 2 ^ n + x / 2 ^ m
  turned_sum =
      ap (λ (v : ℕ). bit_or v (x / 2 ^ m))
      (mod-pow-add (x * 2 ^ n) m n
      ∙ ap₂ (λ (p q : ℕ). p % 2 ^ m * 2 ^ n + q) (shl-shr x n) (mul-mod_left x (2 ^ n))
      ∙ add-zero (x % 2 ^ m * 2 ^ n))
      ∙ or_shifted (x % 2 ^ m) n (x / 2 ^ m) top_lt

  turned_low : (i : ℕ) → i < n → bit ((x % 2 ^ m) * 2 ^ n + x / 2 ^ m) i ≡ bit x (i + m)
  turned_low i hi =
      under_bit (x % 2 ^ m) (x / 2 ^ m) n top_lt i hi ∙ ap (λ (v : ℕ). v % 2) (shr-shr x m i) ∙ ap (bit x) (add_comm m i)

  turned_high : (i : ℕ) → i < m → bit ((x % 2 ^ m) * 2 ^ n + x / 2 ^ m) (n + i) ≡ bit x i
  turned_high i hi = over_bit (x % 2 ^ m) (x / 2 ^ m) n top_lt i ∙ low_bit x i m hi

-- bit z of a lane turned by n is its bit z - n, modulo 64
turned_zero : (v : ℕ) → v < 2 ^ 64 → turned v 0 ≡ v
unfolding turned
turned_zero v h =
    let p : v * 2 ^ 0 % 2 ^ 64 ≡ v = omega arith in
    let q : v / 2 ^ 0 ≡ v = omega arith in
    ap₂ bit_or p q ∙ or_self v

pub turned_bit : (v n z : ℕ) → v < 2 ^ 64 → n < 64 → z < 64 → bit (turned v n) z ≡ bit v ((z + (64 - n)) % 64)
unfolding turned
turned_bit v zero z hv hn hz =
    let e : z ≡ (z + (64 - 0)) % 64 = omega arith in
    ap (λ (u : ℕ). bit u z) (turned_zero v hv) ∙ ap (bit v) e
turned_bit v (suc k) z hv hn hz =
    let n : ℕ = suc k in
    let m : ℕ = 64 - n in
    let e : 64 ≡ m + n = omega arith in
    let r : (64 - n) % 64 ≡ m = omega arith in
    let h : v < 2 ^ (m + n) = subst (λ (k : ℕ). v < 2 ^ k) e hv in
    ap (λ (k : ℕ). bit (bit_or (v * 2 ^ n % 2 ^ 64) (v / 2 ^ k)) z) r
    ∙ ap (λ (k : ℕ). bit (bit_or (v * 2 ^ n % 2 ^ k) (v / 2 ^ m)) z) e
    ∙ ap (λ (u : ℕ). bit u z) (turned_sum v n m h)
    ∙ ⊎_elim
    (λ (l : z < n). let a : z + m ≡ (z + m) % 64 = omega arith in turned_low v n m h z l ∙ ap (bit v) a)
    (λ (l : n ≤ z).
    let a : z ≡ n + (z - n) = omega arith in
    let b : z - n ≡ (z + m) % 64 = omega arith in
    ap (bit ((v % 2 ^ m) * 2 ^ n + v / 2 ^ m)) a ∙ turned_high v n m h (z - n) (omega arith) ∙ ap (bit v) b)
    (below_or_not z n)

pub turned_lt : (v n : ℕ) → v < 2 ^ 64 → turned v n < 2 ^ 64
unfolding turned
turned_lt v n h =
    or_lt 64 (v * 2 ^ n % 2 ^ 64) (v / 2 ^ ((64 - n) % 64)) (mod-lt (v * 2 ^ n) (pow_pos 64)) (omega (arith, shr_le v ((64 - n) % 64)))

-- bits that are not there
pub zero_bit : (i : ℕ) → bit 0 i ≡ 0
zero_bit = bit_at-zero

pub high_bit : (v i : ℕ) → v < 2 ^ 8 → 8 ≤ i → bit v i ≡ 0
high_bit v i = bit_at_above v 8 i
