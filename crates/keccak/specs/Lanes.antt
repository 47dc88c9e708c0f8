-- KECCAK-p on lanes. The lane (x, y) is a number of 64 bits, whose bit z is A[x, y, z]; it stands at 5y + x of a list of 25.
-- Six of the lanes are kept complemented from round to round, so that χ needs five complements instead of 25
-- (Keccak implementation overview, section 2.2, "lane complementing").
use Rattle.std.specs.Prelude.{ℕ, zero, suc, ◌+◌, ◌-◌, ◌*◌, ◌/◌, ◌%◌, ◌^◌, List, [], ◌∷◌, get_or}
use Rattle.std.specs.Int.Bits.{bit_xor, bit_and, bit_or}
use Rattle.keccak.specs.declared.Form.{Form}
use Rattle.keccak.specs.declared.Form.TheVariants.{And, Or, NotAnd, NotOr, OrNot, OtherAnd, OtherOr}
use Rattle.keccak.specs.Fips202.{listed, offset, rc}

-- which lane stands at i
abbrev pub Lanes : Type 0
Lanes = ℕ → ℕ

abbrev pub lane : List ℕ → Lanes
lane s i = get_or s i 0

-- a lane turned by n places, n below 64, and a lane's complement
unfoldable pub turned : ℕ → ℕ → ℕ
turned v n = bit_or (v * 2 ^ n % 2 ^ 64) (v / 2 ^ ((64 - n) % 64))

abbrev pub complement : ℕ → ℕ
complement v = (2 ^ 64 - 1) - v

-- θ: the parities of the five columns, and what they add to each column
unfoldable pub parity : Lanes → ℕ → ℕ
parity a x = bit_xor (bit_xor (bit_xor (bit_xor (a x) (a (x + 5))) (a (x + 10))) (a (x + 15))) (a (x + 20))

unfoldable pub effect : Lanes → ℕ → ℕ
effect a x = bit_xor (parity a ((x + 4) % 5)) (turned (parity a ((x + 1) % 5)) 1)

unfoldable pub effects : List ℕ → List ℕ
effects s = listed 5 0 (effect (lane s))

-- ρ: how far the lane at i is turned. Both steps: the lane at i of a state whose columns' effects are d
unfoldable pub rotation : ℕ → ℕ
rotation i = offset (i % 5) (i / 5) % 64

unfoldable pub moved : Lanes → Lanes → Lanes
moved a d i = turned (bit_xor (a i) (d (i % 5))) (rotation i)

-- π: where the lane at i comes from
abbrev pub origin : ℕ → ℕ
origin i = (i % 5 + 3 * (i / 5)) % 5 + 5 * (i % 5)

unfoldable pub brought : Lanes → Lanes → Lanes
brought a d i = moved a d (origin i)

-- χ on the lane b and the next two of its row, c and e, in the forms that it has where some of the three are complemented
abbrev pub mix : Form → ℕ → ℕ → ℕ → ℕ
mix And b c e = bit_xor b (bit_and c e)
mix Or b c e = bit_xor b (bit_or c e)
mix NotAnd b c e = bit_xor b (bit_and (complement c) e)
mix NotOr b c e = bit_xor b (bit_or (complement c) e)
mix OrNot b c e = bit_xor b (bit_or c (complement e))
mix OtherAnd b c e = bit_xor (complement b) (bit_and c e)
mix OtherOr b c e = bit_xor (complement b) (bit_or c e)

abbrev pub form : ℕ → Form
form i =
    get_or
    (Or ∷ NotOr ∷ And ∷ Or ∷ And
    ∷ Or ∷ And ∷ OrNot ∷ Or ∷ And
    ∷ Or ∷ And ∷ NotAnd ∷ OtherOr ∷ And
    ∷ And ∷ Or ∷ NotOr ∷ OtherAnd ∷ Or
    ∷ NotAnd ∷ OtherOr ∷ And ∷ Or ∷ And ∷ [])
    i And

-- the lane k places on in the row of the lane at i
abbrev pub along : ℕ → ℕ → ℕ
along i k = i / 5 * 5 + (i % 5 + k) % 5

unfoldable pub mixed : Lanes → Lanes
mixed b i = mix (form i) (b i) (b (along i 1)) (b (along i 2))

-- ι, with the constant c
abbrev pub iota : ℕ → Lanes → Lanes
iota c a zero = bit_xor (a 0) c
iota c a (suc i) = a (suc i)

unfoldable pub round_of : ℕ → List ℕ → List ℕ
round_of c s = listed 25 0 (iota c (mixed (brought (lane s) (lane (effects s)))))

-- the constant of round i as a number: the sum over j to l = 6 of rc(j + 7 i) at the place 2^j - 1
abbrev pub constant_to : ℕ → ℕ → ℕ
constant_to zero i = 0
constant_to (suc j) i = constant_to j i + rc (j + 7 * i) * 2 ^ (2 ^ j - 1)

unfoldable pub constant_of : ℕ → ℕ
constant_of i = constant_to 7 i

-- the rounds 0 to n - 1
unfoldable pub rounds_of : ℕ → List ℕ → List ℕ
rounds_of zero s = s
rounds_of (suc n) s = round_of (constant_of n) (rounds_of n s)

-- which lanes are kept complemented, and a state with these complemented, or back
abbrev pub veil : ℕ → ℕ
veil i = get_or (0 ∷ 1 ∷ 1 ∷ 0 ∷ 0 ∷ 0 ∷ 0 ∷ 0 ∷ 1 ∷ 0 ∷ 0 ∷ 0 ∷ 1 ∷ 0 ∷ 0 ∷ 0 ∷ 0 ∷ 1 ∷ 0 ∷ 0 ∷ 1 ∷ 0 ∷ 0 ∷ 0 ∷ 0 ∷ []) i 0

abbrev pub under : ℕ → ℕ → ℕ
under zero v = v
under (suc f) v = complement v

unfoldable pub veiled : List ℕ → List ℕ
veiled s = listed 25 0 (λ i. under (veil i) (lane s i))

unfoldable pub permuted : List ℕ → List ℕ
permuted s = veiled (rounds_of 24 (veiled s))
