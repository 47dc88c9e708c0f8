-- A string of digits read from its front, as the code reads it, and that this gives the number that the string stands for.
-- Assumes nothing.
use Rattle.std.specs.Prelude.{ℕ, ◌+◌, ◌*◌, ◌^◌, ◌≤◌, ◌<◌, ◌≡◌, refl, Bool, true, false, ◌&&◌, Option, Some, None, SomeIff, List, [], ◌∷◌, length, drop, get_or, leb, ltb}
use Rattle.std.proofs.Common.{sym, ◌∙◌, drop_of_length-le, add-one, lit<, arith, mul_assoc, add-mul, mul-le-mul_left, le_trans}
use Rattle.std.proofs.Math.Bool.{and-false}
use Rattle.std.proofs.Math.Seq.{drop-cons}
use borrow.Author.Tests.{lt-ltb, le-ltb, le-leb, lt-leb, ltb-true, ltb-false}
use Rattle.std.proofs.Math.Nat.{pow-succ', one-le-pow}
use Rattle.text.specs.Numeral.{is_digit, digit_of, all_digits, value_of, is_numeral, number_if, number_of, number_limit, most_digits}

-- the number n with one digit more at its end
unfoldable pub with_digit : ℕ → ℕ → Option ℕ
with_digit n b = number_if (is_digit b && ltb (n * 10 + digit_of b) number_limit) (n * 10 + digit_of b)

module _ (n b : ℕ) where
  pub digit_low : b < 48 → None ≡ with_digit n b
  unfolding with_digit is_digit
  digit_low h = rw (lt-leb 48 b h)

  pub digit_high : 57 < b → None ≡ with_digit n b
  unfolding with_digit is_digit
  digit_high h = rw (lt-leb b 57 h, and-false (leb 48 b))

  pub digit_wide : number_limit ≤ n * 10 + digit_of b → None ≡ with_digit n b
  unfolding with_digit
  digit_wide h = rw (le-ltb (n * 10 + digit_of b) number_limit h, and-false (is_digit b))

  pub digit_fits : 48 ≤ b → b ≤ 57 → n * 10 + digit_of b < number_limit → Some (n * 10 + digit_of b) ≡ with_digit n b
  unfolding with_digit is_digit
  digit_fits lo hi h = rw (le-leb 48 b lo, le-leb b 57 hi, lt-ltb (n * 10 + digit_of b) number_limit h)

  -- a sum that is some exactly where 64 bits hold it
  pub digit_checked : (r : Option ℕ) → 48 ≤ b → b ≤ 57 → SomeIff r (n * 10 + digit_of b < number_limit) (n * 10 + digit_of b) → r ≡ with_digit n b
  digit_checked None lo hi h = digit_wide (omega (arith, h))
  digit_checked (Some m) lo hi (fits, e) = rw e (digit_fits lo hi fits)

-- what was read, with one byte more
abbrev digit_more : Option ℕ → ℕ → Option ℕ
digit_more None b = None
digit_more (Some n) b = with_digit n b

-- what a string reads as, where something was read before it
unfoldable pub read_on : List ℕ → Option ℕ → Option ℕ
read_on [] r = r
read_on (b ∷ s) r = read_on s (digit_more r b)

pub bad_stays : (s : List ℕ) → read_on s None ≡ None
unfolding read_on
bad_stays [] = refl
bad_stays (b ∷ s) = bad_stays s

-- n with the digits of s after it
after : ℕ → List ℕ → ℕ
after n s = n * 10 ^ length s + value_of s

after_more : (n b : ℕ) (s : List ℕ) → after n (b ∷ s) ≡ after (n * 10 + digit_of b) s
unfolding after value_of
after_more n b s =
    let p = 10 ^ length s in
    let e : n * (10 * p) ≡ n * 10 * p = sym (mul_assoc n 10 p) in
    let f : (n * 10 + digit_of b) * p ≡ n * 10 * p + digit_of b * p = add-mul (n * 10) (digit_of b) p in
    rw (pow-succ' 10 (length s)) (omega (arith, e, f))

after_least : (n : ℕ) (s : List ℕ) → n ≤ after n s
unfolding after
after_least n s =
    let p = 10 ^ length s in
    let h : n * 1 ≤ n * p = mul-le-mul_left n (one-le-pow (length s) 10 (lit< tt)) in
    omega arith

-- what n and the digits after it read as
whole : ℕ → List ℕ → Option ℕ
whole n s = number_if (all_digits s && ltb (after n s) number_limit) (after n s)

-- one digit of the string, where the rest reads on as it should
digit_read : (b n : ℕ) (s : List ℕ) → (n * 10 + digit_of b < number_limit → read_on s (Some (n * 10 + digit_of b)) ≡ whole (n * 10 + digit_of b) s)
    → (p q : Bool) → is_digit b ≡ p → ltb (n * 10 + digit_of b) number_limit ≡ q → read_on s (with_digit n b) ≡ whole n (b ∷ s)
unfolding with_digit read_on whole all_digits
digit_read b n s rest false q e f = rw e (bad_stays s)
digit_read b n s rest true false e f =
    let long : number_limit ≤ after n (b ∷ s) =
    rw (after_more n b s) (le_trans (ltb-false (n * 10 + digit_of b) number_limit f) (after_least (n * 10 + digit_of b) s)) in
    rw (e, f, le-ltb (after n (b ∷ s)) number_limit long, and-false (all_digits s)) (bad_stays s)
digit_read b n s rest true true e f = rw (e, f, after_more n b s) (rest (ltb-true (n * 10 + digit_of b) number_limit f))

reads_on : (s : List ℕ) (n : ℕ) → n < number_limit → read_on s (Some n) ≡ whole n s
unfolding read_on whole all_digits after value_of
reads_on [] n h = let e : n * 1 + 0 ≡ n = omega arith in rw (e, lt-ltb n number_limit h)
reads_on (b ∷ s) n h = digit_read b n s (reads_on s (n * 10 + digit_of b)) (is_digit b) (ltb (n * 10 + digit_of b) number_limit) refl refl

-- a string of 1 to 20 bytes that is read from its front, after nothing, gives its number
pub reads : (s : List ℕ) → 1 ≤ length s → length s ≤ most_digits → read_on s (Some 0) ≡ number_of s
unfolding number_of is_numeral whole after
reads s lo hi =
    let e : 0 * 10 ^ length s + value_of s ≡ value_of s = omega arith in
    rw (reads_on s 0 (lit< tt), e, le-leb 1 (length s) lo, le-leb (length s) most_digits hi)

-- a string of no byte, or of more than 20, is no number
pub too_short : (s : List ℕ) → length s ≡ 0 → None ≡ number_of s
unfolding number_of is_numeral
too_short s e = rw e

pub too_long : (s : List ℕ) → most_digits < length s → None ≡ number_of s
unfolding number_of is_numeral
too_long s h = rw (lt-leb (length s) most_digits h, and-false (leb 1 (length s)))

-- the way of a loop that reads a string from its front
module _ (s : List ℕ) (i n : ℕ) where
  pub read_end : length s ≤ i → read_on (drop i s) (Some n) ≡ Some n
  unfolding read_on
  read_end h = rw (drop_of_length-le s h)

  pub read_more : (r : Option ℕ) → i < length s → r ≡ with_digit n (get_or s i 0) → read_on (drop i s) (Some n) ≡ read_on (drop (i + 1) s) r
  unfolding read_on
  read_more r h e = rw (add-one i, drop-cons s i 0 h, e)

  pub read_bad : i < length s → None ≡ with_digit n (get_or s i 0) → read_on (drop i s) (Some n) ≡ None
  read_bad h e = read_more None h e ∙ bad_stays (drop (i + 1) s)
