-- Which strings of bytes are decimal numbers, and what number each stands for. Assumes nothing.
use Rattle.std.specs.Prelude.{ℕ, ◌+◌, ◌-◌, ◌*◌, ◌^◌, Bool, true, cond, ◌&&◌, Option, Some, None, List, [], ◌∷◌, length, leb, ltb}
use Prim.Native.Char.{code}

-- the most digits that a number is written with
abbrev pub most_digits : ℕ
most_digits = 20

-- one more than the largest number that 64 bits hold
abbrev pub number_limit : ℕ
number_limit = 2 ^ 64

-- a byte is one of the ten digits
unfoldable pub is_digit : ℕ → Bool
is_digit b = leb (code "0") b && leb b (code "9")

-- the number that one digit stands for
abbrev pub digit_of : ℕ → ℕ
digit_of b = b - code "0"

-- every byte of a string is a digit
unfoldable pub all_digits : List ℕ → Bool
all_digits [] = true
all_digits (b ∷ s) = is_digit b && all_digits s

-- the number that a string of digits stands for: each counts ten times as much as the one after it
unfoldable pub value_of : List ℕ → ℕ
value_of [] = 0
value_of (b ∷ s) = digit_of b * 10 ^ length s + value_of s

-- a string is written as a decimal number is: 1 to 20 digits and nothing else. Zeros may lead
unfoldable pub is_numeral : List ℕ → Bool
is_numeral s = leb 1 (length s) && (leb (length s) most_digits && all_digits s)

-- a number where a test holds, and none where it does not
abbrev pub number_if : Bool → ℕ → Option ℕ
number_if test n = cond test (Some n) None

-- what a string reads as: its number, where it is written as one and 64 bits hold it
unfoldable pub number_of : List ℕ → Option ℕ
number_of s = number_if (is_numeral s && ltb (value_of s) number_limit) (value_of s)
