-- WHAT IS WRITTEN READS BACK: a number's text is a decimal number, and the same one. Assumes nothing.
use Rattle.std.specs.Prelude.{ℕ, zero, suc, ◌+◌, ◌*◌, ◌/◌, ◌%◌, ◌^◌, ◌≤◌, ◌<◌, ◌≡◌, refl, true, ◌&&◌, Some, List, [], ◌∷◌, ◌++◌, length}
use Rattle.std.proofs.Common.{sym, ◌∙◌, arith, pow-suc, mul_assoc, add-one, length-append, lit≤, le-leb, lt-ltb}
use Rattle.std.proofs.Math.Bool.{and-true, and_assoc}
use Rattle.text.specs.Cases.{either}
use Rattle.text.specs.Numeral.{most_digits, number_limit, is_digit, digit_of, all_digits, value_of, is_numeral, number_of}
use Rattle.text.specs.Decimal.{digit_byte, decimal_in, decimal_of}
use Rattle.text.specs.DecimalLaws.{decimal_one, decimal_more, ten_more, decimal_length}

-- a string with one digit more
value_more : (s : List ℕ) (b : ℕ) → value_of (s ++ (b ∷ [])) ≡ value_of s * 10 + digit_of b
unfolding value_of
value_more [] b = omega arith
value_more (x ∷ s) b =
    let p = 10 ^ length s in
    let one_more : length (s ++ (b ∷ [])) ≡ suc (length s) = length-append s (b ∷ []) ∙ add-one (length s) in
    let e : digit_of x * (p * 10) ≡ digit_of x * p * 10 = sym (mul_assoc (digit_of x) p 10) in
    rw (one_more, pow-suc 10 (length s), value_more s b) (omega (arith, e))

digits_more : (s : List ℕ) (b : ℕ) → all_digits (s ++ (b ∷ [])) ≡ (all_digits s && is_digit b)
unfolding all_digits
digits_more [] b = and-true (is_digit b)
digits_more (x ∷ s) b = rw (digits_more s b) (sym (and_assoc (is_digit x) (all_digits s) (is_digit b)))

is_digit_lem : (d : ℕ) → d < 10 → is_digit (digit_byte d) ≡ true
unfolding is_digit
is_digit_lem d h = rw (le-leb 48 (48 + d) (omega arith), le-leb (48 + d) 57 (omega arith))

decimal_value : (room n : ℕ) → n < 10 ^ room → value_of (decimal_in room n) ≡ n
unfolding value_of decimal_in
decimal_value zero n h = omega arith
decimal_value (suc room) n h =
    either 10 n
    (λ (big : 10 ≤ n).
    rw (decimal_more room n big, value_more (decimal_in room (n / 10)) (digit_byte (n % 10)), decimal_value room (n / 10) (omega (arith, ten_more room)))
    (omega arith))
    (λ (small : n < 10). rw (decimal_one room n small) (omega arith))

decimal_digits : (room n : ℕ) → all_digits (decimal_in room n) ≡ true
unfolding all_digits decimal_in
decimal_digits zero n = refl
decimal_digits (suc room) n =
    either 10 n
    (λ (big : 10 ≤ n).
    rw (decimal_more room n big, digits_more (decimal_in room (n / 10)) (digit_byte (n % 10)), decimal_digits room (n / 10))
    (is_digit_lem (n % 10) (omega arith)))
    (λ (small : n < 10). rw (decimal_one room n small, is_digit_lem n small))

decimal_some : (room n : ℕ) → 1 ≤ length (decimal_in (suc room) n)
decimal_some room n =
    either 10 n
    (λ (big : 10 ≤ n). rw (decimal_more room n big, length-append (decimal_in room (n / 10)) (digit_byte (n % 10) ∷ [])) (omega arith))
    (λ (small : n < 10). rw (decimal_one room n small) (lit≤ tt))

pub reads_back : (n : ℕ) → n < number_limit → number_of (decimal_of n) ≡ Some n
unfolding number_of is_numeral
reads_back n h =
    let low = decimal_some 19 n in
    let high : length (decimal_of n) ≤ most_digits = decimal_length 19 most_digits n (omega arith) in
    let value : value_of (decimal_of n) ≡ n = decimal_value most_digits n (omega arith) in
    rw (le-leb 1 (length (decimal_of n)) low, le-leb (length (decimal_of n)) most_digits high, decimal_digits most_digits n, value, lt-ltb n number_limit h)
