-- A number as text. Assumes nothing.
use Rattle.std.specs.Prelude.{ℕ, zero, suc, ◌+◌, ◌/◌, ◌%◌, cond, List, [], ◌∷◌, ◌++◌, ltb, ℤ, pos, negsuc}
use Prim.Native.Char.{code}
use Rattle.text.specs.Numeral.{most_digits}

-- the byte of a digit below ten
abbrev pub digit_byte : ℕ → ℕ
digit_byte d = code "0" + d

-- a number of at most `room` digits in decimal: a digit alone, or the text of a tenth of it and its last digit
unfoldable pub decimal_in : ℕ → ℕ → List ℕ
decimal_in zero n = []
decimal_in (suc room) n = cond (ltb n 10) (digit_byte n ∷ []) (decimal_in room (n / 10) ++ (digit_byte (n % 10) ∷ []))

-- a 64-bit number in decimal, which takes no more than 20 digits
abbrev pub decimal_of : ℕ → List ℕ
decimal_of n = decimal_in most_digits n

-- a text with `-` in front
abbrev pub minus : List ℕ → List ℕ
minus s = code "-" ∷ s

-- a signed number in decimal
abbrev pub signed_of : ℤ → List ℕ
signed_of (pos n) = decimal_of n
signed_of (negsuc n) = minus (decimal_of (suc n))
