-- SHA3-256 of bytes, as a sponge on lanes that takes in one byte after another.
use Rattle.std.specs.Prelude.{ℕ, zero, suc, ◌-◌, ◌*◌, ◌/◌, ◌%◌, ◌^◌, cond, List, [], ◌∷◌, ◌++◌, eqb, set, replicate}
use Rattle.std.specs.Int.Bits.{bit_xor}
use Rattle.keccak.specs.Fips202.{listed}
use Rattle.keccak.specs.Lanes.{lane, permuted}
use Rattle.sha3.specs.declared.Hasher.{Hasher}

-- A block has the rate's 1088 bits, so 136 bytes. Place p of it is byte p mod 8, the lowest first, of lane p / 8.
abbrev pub rate : ℕ
rate = 136

-- A state with v added to lane k (bit by bit, ⊕), with a byte added at a place, and with bytes added from a place on.
-- Of a number only the low eight bits count, so that what follows holds of every list.
unfoldable pub plus_lane : List ℕ → ℕ → ℕ → List ℕ
plus_lane s k v = set s k (bit_xor (lane s k) v)

unfoldable pub plus_byte : List ℕ → ℕ → ℕ → List ℕ
plus_byte s p b = plus_lane s (p / 8) (b % 2 ^ 8 * 2 ^ (8 * (p % 8)))

unfoldable pub plus_bytes : List ℕ → ℕ → List ℕ → List ℕ
plus_bytes s p [] = s
plus_bytes s p (b ∷ m) = plus_bytes (plus_byte s p b) (suc p) m

-- A hasher that has p bytes of its block; a full block is permuted, and the next begins.
unfoldable pub holding : List ℕ → ℕ → Hasher
holding s p = cond (eqb p rate) (record { lanes = permuted s; at = 0 }) (record { lanes = s; at = p })

-- One byte more, and bytes one after another
unfoldable pub take_byte : Hasher → ℕ → Hasher
take_byte h b = holding (plus_byte h.lanes h.at b) (suc h.at)

unfoldable pub take_bytes : Hasher → List ℕ → Hasher
take_bytes h [] = h
take_bytes h (b ∷ m) = take_bytes (take_byte h b) m

-- Every hasher can be used: its place counts modulo the rate.
abbrev pub within : Hasher → Hasher
within h = record { lanes = h.lanes; at = h.at % rate }

unfoldable pub taken : Hasher → List ℕ → Hasher
taken h m = take_bytes (within h) m

-- A new hasher has zero lanes.
unfoldable pub after : List ℕ → Hasher
after m = take_bytes (record { lanes = replicate 25 0; at = 0 }) m

-- The suffix 01 and pad10*1 as bytes, where the block has room for j + 1 of them
unfoldable pub padding : ℕ → List ℕ
padding zero = 0x86 ∷ []
padding (suc j) = 0x06 ∷ replicate j 0 ++ 0x80 ∷ []

-- The byte at a place of the state, and the first 32
unfoldable pub byte_of : List ℕ → ℕ → ℕ
byte_of s p = lane s (p / 8) / 2 ^ (8 * (p % 8)) % 2 ^ 8

unfoldable pub output : List ℕ → List ℕ
output s = listed 32 0 (byte_of s)

-- The hash that a hasher gives: it takes the padding in, which fills the block.
unfoldable pub digest : Hasher → List ℕ
digest h = output (taken h (padding (135 - h.at % rate))).lanes

-- SHA3-256 of a list of bytes
unfoldable pub sha3 : List ℕ → List ℕ
sha3 m = digest (after m)
