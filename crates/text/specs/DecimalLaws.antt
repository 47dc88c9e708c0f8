-- That digit after digit makes a number's text, how long it is, and that it reads back as the number. Assumes nothing.
use Rattle.std.specs.Prelude.{ℕ, zero, suc, ◌-◌, ◌*◌, ◌/◌, ◌%◌, ◌^◌, ◌≤◌, ◌<◌, ◌≡◌, refl, true, false, List, [], ◌∷◌, ◌++◌, length, ℤ, pos, negsuc, nat_abs}
use Rattle.std.proofs.Common.{zero-le, suc-le-suc, sym, ap, ◌∙◌, arith, not-suc-le-zero, length-append, lit<, lit≤, lt-ltb, le-ltb, leb-false}
use Rattle.std.proofs.lemmas.Bool.{false≢true}
use Rattle.std.proofs.Math.Nat.{pow-succ', one-le-pow}
use Rattle.std.specs.Int.Signed.{le_z}
use Rattle.io.specs.Digits.{last_digits, hex_digit_ascii, IsDigitCount}
use Rattle.text.specs.Cases.{either}
use Rattle.text.specs.Numeral.{number_limit, most_digits}
use Rattle.text.specs.Decimal.{digit_byte, decimal_in, decimal_of, minus, signed_of}

pub decimal_one : (room n : ℕ) → n < 10 → decimal_in (suc room) n ≡ digit_byte n ∷ []
unfolding decimal_in
decimal_one room n h = rw (lt-ltb n 10 h)

pub decimal_more : (room n : ℕ) → 10 ≤ n → decimal_in (suc room) n ≡ decimal_in room (n / 10) ++ (digit_byte (n % 10) ∷ [])
unfolding decimal_in
decimal_more room n h = rw (le-ltb n 10 h)

glyph_is : (d : ℕ) → d < 10 → hex_digit_ascii d ≡ digit_byte d
glyph_is d h = rw (lt-ltb d 10 h)

-- a power of ten is ten of the one below, and at least 1
pub ten_more : (k : ℕ) → 10 ^ suc k ≡ 10 * 10 ^ k
ten_more k = pow-succ' 10 k

ten_least : (k : ℕ) → 1 ≤ 10 ^ k
ten_least k = one-le-pow k 10 (lit< tt)

-- the last k + 1 digits of a number that has just so many are its text
pub spelled : (k room n : ℕ) → n < 10 ^ suc k → (0 < k → 10 ^ k ≤ n) → n < 10 ^ suc room → last_digits 10 (suc k) n ≡ decimal_in (suc room) n
spelled zero room n h low most =
    let small : n < 10 = h in
    let same : n % 10 ≡ n = omega arith in
    rw (same, glyph_is n small) (sym (decimal_one room n small))
spelled (suc k) zero n h low most =
    let big : 10 ^ suc k ≤ n = low (omega arith) in
    absurd (omega (arith, ten_more k, ten_least k))
spelled (suc k) (suc room) n h low most =
    let big : 10 ^ suc k ≤ n = low (omega arith) in
    let ten : 10 ≤ n = omega (arith, ten_more k, ten_least k) in
    let last : n % 10 < 10 = omega arith in
    let rest = spelled k room (n / 10) (omega (arith, ten_more (suc k))) (λ (g : 0 < k). omega (arith, ten_more k)) (omega (arith, ten_more (suc room))) in
    ap (λ (front : List ℕ). front ++ (hex_digit_ascii (n % 10) ∷ [])) rest
    ∙ ap (λ (d : ℕ). decimal_in (suc room) (n / 10) ++ (d ∷ [])) (glyph_is (n % 10) last)
    ∙ sym (decimal_more (suc room) n ten)

-- the fewest digits that hold a 64-bit number are its text
pub fewest_text : (n k : ℕ) → n < number_limit → IsDigitCount 10 1 n k → last_digits 10 k n ≡ decimal_of n
fewest_text n zero h f = absurd (not-suc-le-zero f.0)
fewest_text n (suc k) h f =
    let less : suc k - 1 ≡ k = omega arith in
    spelled k 19 n f.1 (λ (g : 0 < k). rw less at (f.2 (omega arith))) (omega arith)

-- a text has no more digits than hold its number
pub decimal_length : (k room n : ℕ) → n < 10 ^ suc k → length (decimal_in room n) ≤ suc k
unfolding decimal_in
decimal_length k zero n h = zero-le
decimal_length zero (suc room) n h = rw (decimal_one room n h) (lit≤ tt)
decimal_length (suc k) (suc room) n h =
    either 10 n
    (λ (big : 10 ≤ n).
    rw (decimal_more room n big, length-append (decimal_in room (n / 10)) (digit_byte (n % 10) ∷ []))
    (omega (arith, decimal_length k room (n / 10) (omega (arith, ten_more (suc k))))))
    (λ (small : n < 10). rw (decimal_one room n small) (omega arith))

-- a signed number's text is that of its distance from zero, with `-` in front of one below
pub signed_up : (z : ℤ) → le_z (pos 0) z ≡ true → decimal_of (nat_abs z) ≡ signed_of z
signed_up (pos n) e = refl
signed_up (negsuc n) e = absurd (false≢true e)

pub signed_down : (z : ℤ) → le_z (pos 0) z ≡ false → minus (decimal_of (nat_abs z)) ≡ signed_of z
signed_down (pos n) e = absurd (not-suc-le-zero (leb-false 0 n e))
signed_down (negsuc n) e = refl

pub signed_length : (k : ℕ) (z : ℤ) → nat_abs z < 10 ^ suc k → length (signed_of z) ≤ suc (suc k)
signed_length k (pos n) h = omega (arith, decimal_length k most_digits n h)
signed_length k (negsuc n) h = suc-le-suc (decimal_length k most_digits (suc n) h)
