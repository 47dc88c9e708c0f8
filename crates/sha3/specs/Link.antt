-- SHA3-256 of bytes is FIPS 202's SHA3-256 of their bits.
use Rattle.std.specs.Prelude.{◌≡◌, refl, ◌⊎◌, Bool, cond, List, [], ◌∷◌, ◌++◌, length, get_or, set, take, drop, replicate}
use Rattle.std.proofs.Math.Path.{sym, ap}
use Rattle.std.proofs.Common.{ap₂, subst, ◌∙◌, inl, inr, append_assoc, mod-lt, add-zero, zero-add, mul-zero, mul-suc, eq-or-lt_of_le, lt_of_lt_of_le, arith, lit<, length-set, length-append, length-drop, pow_pos, pow_mono, shr-shr, shl_lt, ext_get_or, get_or-set_same, get_or-set_other, get_or-take, take-add, take_all, length-take-le}
use Rattle.std.proofs.Math.Logic.{⊎_elim}
use Prim.Native.Nat.{ℕ, zero, suc, ◌+◌, ◌-◌, ◌*◌, ◌/◌, ◌%◌, ◌^◌, ◌≤◌, ◌<◌}
use borrow.Author.Tests.{eq-eqb, ne_eqb}
use Rattle.std.specs.Int.Bits.{bit_xor}
use Rattle.std.proofs.lemmas.Nat.{xor_lt}
use Rattle.std.proofs.Math.Dec.{eqb}
use Rattle.std.proofs.lemmas.List.{length-replicate, replicate-append-replicate}
use Rattle.std.proofs.Math.Seq.{set_out}
use Rattle.keccak.specs.Fips202.{Bits, ◌⊕◌, xor, listed, bit, bits_by, bits_of, absorbed, pad10*1, keccak_p}
use Rattle.keccak.specs.Lanes.{lane, permuted}
use Rattle.keccak.specs.Strings.{listed_at, listed_length, bits_by_length, bits_by_append, bits_by_take, bits_by_drop, xor_at, xor_length, zeros_at, padded_at, byte_bit, lane_bit}
use Rattle.keccak.specs.Bit.{below_or_not, equal_or_not, plus_assoc, plus_zero, zero_plus, zero_bit, high_bit, xor_bit, low_bit, under_bit, over_bit}
use Rattle.keccak.specs.Link.{permuted_bits, permuted_lt, permuted_length}
use Rattle.sha3.specs.declared.Hasher.{Hasher}
use Rattle.sha3.specs.Hash.{plus_lane, plus_byte, plus_bytes, take_byte, take_bytes, taken, after, padding, byte_of, output, digest, sha3}
use Rattle.sha3.specs.Sponge.{of, holding_full, holding_part, take_bytes_append, take_bytes_block, after_more}

-- 1. Adding bytes to lanes is adding their bits.
-- what stands at place q, if these are the bytes from p on
abbrev standing : ℕ → List ℕ → ℕ → ℕ
standing p [] q = 0
standing p (b ∷ m) q = cond (eqb q p) b (standing (suc p) m q)

before_all : (m : List ℕ) (p q : ℕ) → q < p → standing p m q ≡ 0
before_all [] p q h = refl
before_all (b ∷ m) p q h =
    ap (λ (t : Bool). cond t b (standing (suc p) m q)) (ne_eqb q p (λ (e : q ≡ p). omega arith)) ∙ before_all m (suc p) q (omega arith)

from_start : (m : List ℕ) (p i : ℕ) → standing p m (p + i) ≡ get_or m i 0
from_start [] p i = refl
from_start (b ∷ m) p zero = ap (λ (t : Bool). cond t b (standing (suc p) m (p + 0))) (eq-eqb (p + 0) p (add-zero p))
from_start (b ∷ m) p (suc i) =
    let e : p + suc i ≡ suc p + i = omega arith in
    ap (λ (t : Bool). cond t b (standing (suc p) m (p + suc i))) (ne_eqb (p + suc i) p (λ (e : p + suc i ≡ p). omega arith))
    ∙ ap (standing (suc p) m) e ∙ from_start m (suc p) i

-- a byte within its lane
shifted_bit : (v r z : ℕ) → bit (v % 2 ^ 8 * 2 ^ (8 * r)) z ≡ bit (cond (eqb (z / 8) r) v 0) (z % 8)
shifted_bit v r z =
    ⊎_elim
    (λ (low : z < 8 * r).
    ap (λ (x : ℕ). bit x z) (sym (add-zero (v % 2 ^ 8 * 2 ^ (8 * r)))) ∙ under_bit (v % 2 ^ 8) 0 (8 * r) (pow_pos (8 * r)) z low ∙ zero_bit z
    ∙ sym (ap (λ (t : Bool). bit (cond t v 0) (z % 8)) (ne_eqb (z / 8) r (λ (e : z / 8 ≡ r). omega arith)) ∙ zero_bit (z % 8)))
    (λ (up : 8 * r ≤ z).
    let e : z ≡ 8 * r + (z - 8 * r) = omega arith in
    ap (λ (x : ℕ). bit x z) (sym (add-zero (v % 2 ^ 8 * 2 ^ (8 * r)))) ∙ ap (bit (v % 2 ^ 8 * 2 ^ (8 * r) + 0)) e
    ∙ over_bit (v % 2 ^ 8) 0 (8 * r) (pow_pos (8 * r)) (z - 8 * r)
    ∙ ⊎_elim
    (λ (at : z - 8 * r < 8).
    let f : z - 8 * r ≡ z % 8 = omega arith in
    low_bit v (z - 8 * r) 8 at ∙ ap (bit v) f
    ∙ sym (ap (λ (t : Bool). bit (cond t v 0) (z % 8)) (eq-eqb (z / 8) r (omega arith))))
    (λ (over : 8 ≤ z - 8 * r).
    high_bit (v % 2 ^ 8) (z - 8 * r) (mod-lt v (pow_pos 8)) over
    ∙ sym (ap (λ (t : Bool). bit (cond t v 0) (z % 8)) (ne_eqb (z / 8) r (λ (e : z / 8 ≡ r). omega arith)) ∙ zero_bit (z % 8)))
    (below_or_not (z - 8 * r) 8))
    (below_or_not z (8 * r))

module _ (s : List ℕ) (p b k z : ℕ) (hp : p / 8 < length s) (hz : z < 64) where
  plus_byte_bit : bit (lane (plus_byte s p b) k) z ≡ bit (lane s k) z ⊕ bit (cond (eqb (8 * k + z / 8) p) b 0) (z % 8)
  unfolding plus_byte plus_lane
  plus_byte_bit =
      let v : ℕ = b % 2 ^ 8 * 2 ^ (8 * (p % 8)) in
      let w : ℕ = bit_xor (lane s (p / 8)) v in
      ⊎_elim
      (λ (e : k ≡ p / 8).
      ap (λ (j : ℕ). bit (lane (set s (p / 8) w) j) z) e
      ∙ ap (λ (x : ℕ). bit x z) (get_or-set_same s (p / 8) w 0 hp)
      ∙ xor_bit (lane s (p / 8)) v z
      ∙ ap (λ (j : ℕ). bit (lane s j) z ⊕ bit v z) (sym e)
      ∙ ap (λ (x : ℕ). bit (lane s k) z ⊕ x) (shifted_bit b (p % 8) z ∙ ap (λ (t : Bool). bit (cond t b 0) (z % 8)) (same e)))
      (λ (d : k ≡ p / 8 → ⊥). ap (λ (x : ℕ). bit x z) (get_or-set_other s (p / 8) k w 0 d) ∙ plus_zero (lane s k / 2 ^ z) ∙ ap (λ (x : ℕ). bit (lane s k) z ⊕ x) (sym (none d)))
      (equal_or_not k (p / 8))
    where
      same : k ≡ p / 8 → eqb (z / 8) (p % 8) ≡ eqb (8 * k + z / 8) p
      same e =
          ⊎_elim
          (λ (yes : z / 8 ≡ p % 8). eq-eqb (z / 8) (p % 8) yes ∙ sym (eq-eqb (8 * k + z / 8) p (omega arith)))
          (λ (no : z / 8 ≡ p % 8 → ⊥). ne_eqb (z / 8) (p % 8) no ∙ sym (ne_eqb (8 * k + z / 8) p (λ (q : 8 * k + z / 8 ≡ p). no (omega arith))))
          (equal_or_not (z / 8) (p % 8))

      none : (k ≡ p / 8 → ⊥) → bit (cond (eqb (8 * k + z / 8) p) b 0) (z % 8) ≡ 0
      none d = ap (λ (t : Bool). bit (cond t b 0) (z % 8)) (ne_eqb (8 * k + z / 8) p (λ (q : 8 * k + z / 8 ≡ p). d (omega arith))) ∙ zero_bit (z % 8)

plus_byte_length : (s : List ℕ) (p b : ℕ) → length (plus_byte s p b) ≡ length s
unfolding plus_byte plus_lane
plus_byte_length s p b = length-set s (p / 8) _

plus_bytes_length : (m s : List ℕ) (p : ℕ) → length (plus_bytes s p m) ≡ length s
unfolding plus_bytes
plus_bytes_length [] s p = refl
plus_bytes_length (b ∷ m) s p = plus_bytes_length m (plus_byte s p b) (suc p) ∙ plus_byte_length s p b

plus_bytes_bit : (m s : List ℕ) (p k z : ℕ) → p + length m ≤ 8 * length s → z < 64
    → bit (lane (plus_bytes s p m) k) z ≡ bit (lane s k) z ⊕ bit (standing p m (8 * k + z / 8)) (z % 8)
unfolding plus_bytes
plus_bytes_bit [] s p k z h hz = plus_zero (lane s k / 2 ^ z) ∙ ap (λ (x : ℕ). bit (lane s k) z ⊕ x) (sym (zero_bit (z % 8)))
plus_bytes_bit (b ∷ m) s p k z h hz =
    let q : ℕ = 8 * k + z / 8 in
    plus_bytes_bit m (plus_byte s p b) (suc p) k z (omega (arith, plus_byte_length s p b)) hz
    ∙ ap (λ (x : ℕ). x ⊕ bit (standing (suc p) m q) (z % 8)) (plus_byte_bit s p b k z (omega arith) hz)
    ∙ plus_assoc (bit (lane s k) z) (bit (cond (eqb q p) b 0) (z % 8)) (bit (standing (suc p) m q) (z % 8))
    ∙ ap (λ (x : ℕ). bit (lane s k) z ⊕ x) (both q (equal_or_not q p))
  where
    both : (q : ℕ) → (q ≡ p) ⊎ (q ≡ p → ⊥)
        → bit (cond (eqb q p) b 0) (z % 8) ⊕ bit (standing (suc p) m q) (z % 8) ≡ bit (cond (eqb q p) b (standing (suc p) m q)) (z % 8)
    both q (inl e) =
        ap₂ (λ (t : Bool) (x : ℕ). bit (cond t b 0) (z % 8) ⊕ bit x (z % 8)) (eq-eqb q p e) (before_all m (suc p) q (omega arith))
        ∙ ap (λ (x : ℕ). bit b (z % 8) ⊕ x) (zero_bit (z % 8))
        ∙ sym (plus_zero (b / 2 ^ (z % 8)))
        ∙ sym (ap (λ (t : Bool). bit (cond t b (standing (suc p) m q)) (z % 8)) (eq-eqb q p e))
    both q (inr d) =
        ap (λ (t : Bool). bit (cond t b 0) (z % 8) ⊕ bit (standing (suc p) m q) (z % 8)) (ne_eqb q p d)
        ∙ ap (λ (x : ℕ). x ⊕ bit (standing (suc p) m q) (z % 8)) (zero_bit (z % 8))
        ∙ zero_plus (standing (suc p) m q / 2 ^ (z % 8))
        ∙ sym (ap (λ (t : Bool). bit (cond t b (standing (suc p) m q)) (z % 8)) (ne_eqb q p d))

-- the lanes stay below 2^64
abbrev pub Small : List ℕ → Type 0
Small s = (k : ℕ) → k < 25 → lane s k < 2 ^ 64

plus_byte_lt : (s : List ℕ) (p b k : ℕ) → lane s k < 2 ^ 64 → lane (plus_byte s p b) k < 2 ^ 64
unfolding plus_byte plus_lane
plus_byte_lt s p b k h =
    ⊎_elim
    (λ (e : k ≡ p / 8).
    ⊎_elim
    (λ (l : p / 8 < length s).
    subst (λ (x : ℕ). x < 2 ^ 64) (sym (ap (lane (set s (p / 8) _)) e ∙ get_or-set_same s (p / 8) _ 0 l))
    (xor_lt 64 (lane s (p / 8)) _ (subst (λ (j : ℕ). lane s j < 2 ^ 64) e h) byte_lt))
    (λ (o : length s ≤ p / 8). subst (λ (x : List ℕ). lane x k < 2 ^ 64) (sym (set_out s (p / 8) _ o)) h)
    (below_or_not (p / 8) (length s)))
    (λ (d : k ≡ p / 8 → ⊥). subst (λ (x : ℕ). x < 2 ^ 64) (sym (get_or-set_other s (p / 8) k _ 0 d)) h)
    (equal_or_not k (p / 8))
  where
    byte_lt : b % 2 ^ 8 * 2 ^ (8 * (p % 8)) < 2 ^ 64
    byte_lt = let e : 8 + 8 * (p % 8) ≤ 64 = omega arith in lt_of_lt_of_le (shl_lt 8 (8 * (p % 8)) (mod-lt b (pow_pos 8))) (pow_mono e)

plus_bytes_lt : (m s : List ℕ) (p k : ℕ) → lane s k < 2 ^ 64 → lane (plus_bytes s p m) k < 2 ^ 64
unfolding plus_bytes
plus_bytes_lt [] s p k h = h
plus_bytes_lt (b ∷ m) s p k h = plus_bytes_lt m (plus_byte s p b) (suc p) k (plus_byte_lt s p b k h)

-- 2. A block: S ⊕ (P_i || 0^c)
block_bits : (s m : List ℕ) → length s ≡ 25 → length m ≡ 136 → bits_by 64 (plus_bytes s 0 m) ≡ xor (bits_by 64 s) (bits_of m ++ replicate 512 0)
block_bits s m ls lm =
    let X : Bits = bits_by 64 s in
    let Y : Bits = bits_of m ++ replicate 512 0 in
    let x : length X ≡ 1600 = bits_by_length 64 s ∙ ap (λ (n : ℕ). 64 * n) ls in
    let y : length Y ≡ 1600 = length-append (bits_of m) (replicate 512 0) ∙ ap₂ ◌+◌ (bits_by_length 8 m ∙ ap (λ (n : ℕ). 8 * n) lm) (length-replicate {A = ℕ} 512 0) in
    let l : length (bits_by 64 (plus_bytes s 0 m)) ≡ 1600 = bits_by_length 64 (plus_bytes s 0 m) ∙ ap (λ (n : ℕ). 64 * n) (plus_bytes_length m s 0 ∙ ls) in
    ext_get_or 0 (bits_by 64 (plus_bytes s 0 m)) (xor X Y) (l ∙ sym (xor_length X Y (x ∙ sym y) ∙ x))
    (λ i h.
    let q : 8 * (i / 64) + i % 64 / 8 ≡ 0 + i / 8 = omega arith in
    let r : i % 64 % 8 ≡ i % 8 = omega arith in
    lane_bit (plus_bytes s 0 m) i
    ∙ plus_bytes_bit m s 0 (i / 64) (i % 64) (omega arith) (mod-lt i (lit< tt))
    ∙ ap₂ ◌⊕◌ (sym (lane_bit s i))
    ((λ j. bit (standing 0 m (q j)) (r j)) ∙ ap (λ (v : ℕ). bit v (i % 8)) (from_start m 0 (i / 8)) ∙ sym (padded_at (bits_of m) 512 i ∙ byte_bit m i))
    ∙ sym (xor_at X Y i (omega (arith, l, x)) (omega (arith, l, y))))

-- 3. The hasher after n whole blocks has FIPS 202's state.
abbrev pub new : Hasher
new = of (replicate 25 0) 0

abbrev pub state_of : List ℕ → ℕ → List ℕ
state_of l n = (take_bytes new (take (136 * n) l)).lanes

pub record Blocks (l : List ℕ) (n : ℕ) : Type 0 where
  pub place : take_bytes new (take (136 * n) l) ≡ of (state_of l n) 0
  pub long : length (state_of l n) ≡ 25
  pub small : Small (state_of l n)
  pub bits : bits_by 64 (state_of l n) ≡ absorbed keccak_p 1088 (bits_of l) n

zero_lanes : (k n : ℕ) → bits_by n (replicate k 0) ≡ replicate (n * k) 0
unfolding bits_by
zero_lanes zero n = ap (λ (j : ℕ). replicate j 0) (sym (mul-zero n))
zero_lanes (suc k) n =
    let e : n + n * k ≡ n * suc k = omega (arith, mul-suc n k) in
    ap₂ ◌++◌ (zero_listed n 0) (zero_lanes k n) ∙ replicate-append-replicate n (n * k) 0 ∙ ap (λ (j : ℕ). replicate j 0) e
  where
    zero_listed : (n a : ℕ) → listed n a (bit 0) ≡ replicate n 0
    zero_listed zero a = refl
    zero_listed (suc n) a = ap₂ ◌∷◌ (zero_bit a) (zero_listed n (suc a))

pub blocks : (l : List ℕ) (n : ℕ) → 136 * n ≤ length l → Blocks l n
unfolding take_bytes absorbed
blocks l zero h =
    record {
      place = refl;
      long = refl;
      small = λ k hk. subst (λ (x : ℕ). x < 2 ^ 64) (sym (zeros_at 25 k)) (pow_pos 64);
      bits = zero_lanes 25 64;
    }
blocks l (suc n) h =
    let before : Blocks l n = blocks l n (omega arith) in
    let s : List ℕ = state_of l n in
    let m : List ℕ = take 136 (drop (136 * n) l) in
    let lm : length m ≡ 136 = length-take-le 136 (drop (136 * n) l) (omega (arith, length-drop (136 * n) l)) in
    let e : 136 * suc n ≡ 136 * n + 136 = omega arith in
    let whole : take_bytes new (take (136 * suc n) l) ≡ of (permuted (plus_bytes s 0 m)) 0 =
    ap (λ (j : ℕ). take_bytes new (take j l)) e
    ∙ ap (take_bytes new) (take-add (136 * n) 136 l)
    ∙ take_bytes_append new (take (136 * n) l) m
    ∙ ap (λ (x : Hasher). take_bytes x m) before.place
    ∙ take_bytes_block m s 0 (lit< tt) (omega arith)
    ∙ holding_full (plus_bytes s 0 m) (0 + length m) (omega arith)
    in
    let small : Small (plus_bytes s 0 m) = λ k hk. plus_bytes_lt m s 0 k (before.small k hk) in
    let lanes : state_of l (suc n) ≡ permuted (plus_bytes s 0 m) = ap (λ (x : Hasher). x.lanes) whole in
    record {
      place = whole ∙ ap (λ (x : List ℕ). of x 0) (sym lanes);
      long = ap length lanes ∙ permuted_length (plus_bytes s 0 m);
      small = subst Small (sym lanes) (permuted_lt (plus_bytes s 0 m) small);
      bits =
          ap (bits_by 64) lanes
          ∙ permuted_bits (plus_bytes s 0 m) small
          ∙ ap keccak_p
          (block_bits s m before.long lm
          ∙ ap₂ (λ (x y : Bits). xor x (y ++ replicate 512 0)) before.bits (block l n));
    }
  where
    block : (l : List ℕ) (n : ℕ) → bits_of (take 136 (drop (136 * n) l)) ≡ take 1088 (drop (1088 * n) (bits_of l))
    block l n =
        let e : 8 * (136 * n) ≡ 1088 * n = omega arith in
        bits_by_take 8 136 (drop (136 * n) l) ∙ ap (take 1088) (bits_by_drop 8 (136 * n) l ∙ ap (λ (j : ℕ). drop j (bits_of l)) e)

-- 4. The first 32 bytes are the first 256 bits.
pub output_length : (s : List ℕ) → length (output s) ≡ 32
unfolding output
output_length s = listed_length 32 0 (byte_of s)

pub output_bits : (s : List ℕ) → length s ≡ 25 → bits_of (output s) ≡ take 256 (bits_by 64 s)
unfolding output byte_of
output_bits s ls =
    let a : length (bits_of (output s)) ≡ 256 = bits_by_length 8 (output s) ∙ ap (λ (n : ℕ). 8 * n) (output_length s) in
    let b : length (take 256 (bits_by 64 s)) ≡ 256 = length-take-le 256 (bits_by 64 s) (omega (arith, bits_by_length 64 s, ls)) in
    ext_get_or 0 (bits_of (output s)) (take 256 (bits_by 64 s)) (a ∙ sym b)
    (λ i h.
    let lt : i < 256 = omega (arith, a) in
    let x : ℕ = lane s (i / 8 / 8) in
    let k : i / 8 / 8 ≡ i / 64 = omega arith in
    let z : 8 * (i / 8 % 8) + i % 8 ≡ i % 64 = omega arith in
    byte_bit (output s) i
    ∙ ap (λ (v : ℕ). bit v (i % 8)) (listed_at 32 (i / 8) (byte_of s) (omega arith))
    ∙ low_bit (x / 2 ^ (8 * (i / 8 % 8))) (i % 8) 8 (mod-lt i (lit< tt))
    ∙ ap (λ (v : ℕ). v % 2) (shr-shr x (8 * (i / 8 % 8)) (i % 8))
    ∙ (λ j. bit (lane s (k j)) (z j))
    ∙ sym (get_or-take 256 (bits_by 64 s) i 0 lt ∙ lane_bit s i))

-- 5. The padding as bits: 01, and pad10*1
zeros_bits : (j : ℕ) → bits_of (replicate j 0 ++ 0x80 ∷ []) ≡ replicate (8 * j + 7) 0 ++ 1 ∷ []
unfolding bits_by
zeros_bits zero = refl
zeros_bits (suc j) =
    let e : suc (suc (suc (suc (suc (suc (suc (suc (8 * j + 7)))))))) ≡ 8 * suc j + 7 = omega arith in
    ap (λ (l : Bits). 0 ∷ 0 ∷ 0 ∷ 0 ∷ 0 ∷ 0 ∷ 0 ∷ 0 ∷ l) (zeros_bits j) ∙ ap (λ (n : ℕ). replicate n 0 ++ 1 ∷ []) e

padding_bits : (j : ℕ) → bits_of (padding j) ≡ 0 ∷ 1 ∷ 1 ∷ (replicate (8 * j + 4) 0 ++ 1 ∷ [])
unfolding bits_by padding
padding_bits zero = refl
padding_bits (suc j) =
    let e : suc (suc (suc (suc (suc (8 * j + 7))))) ≡ 8 * suc j + 4 = omega arith in
    ap (λ (l : Bits). 0 ∷ 1 ∷ 1 ∷ 0 ∷ 0 ∷ 0 ∷ 0 ∷ 0 ∷ l) (zeros_bits j) ∙ ap (λ (n : ℕ). 0 ∷ 1 ∷ 1 ∷ (replicate n 0 ++ 1 ∷ [])) e

padding_length : (j : ℕ) → length (padding j) ≡ suc j
unfolding padding
padding_length zero = refl
padding_length (suc j) =
    let e : j + 1 ≡ suc j = omega arith in
    ap suc (length-append (replicate j 0) (0x80 ∷ []) ∙ ap (λ (n : ℕ). n + 1) (length-replicate {A = ℕ} j 0) ∙ e)

abbrev pub padded : List ℕ → List ℕ
padded m = m ++ padding (135 - length m % 136)

pub padded_length : (m : List ℕ) → length (padded m) ≡ 136 * (length m / 136 + 1)
padded_length m =
    length-append m (padding (135 - length m % 136)) ∙ ap (λ (n : ℕ). length m + n) (padding_length (135 - length m % 136)) ∙ omega arith

pub padded_bits : (m : List ℕ) → bits_of (padded m) ≡ (bits_of m ++ 0 ∷ 1 ∷ []) ++ pad10*1 1088 (length (bits_of m ++ 0 ∷ 1 ∷ []))
unfolding pad10*1
padded_bits m =
    let N : Bits = bits_of m ++ 0 ∷ 1 ∷ [] in
    let l : length N ≡ 8 * length m + 2 = length-append (bits_of m) (0 ∷ 1 ∷ []) ∙ ap (λ (n : ℕ). n + 2) (bits_by_length 8 m) in
    let j : 8 * (135 - length m % 136) + 4 ≡ (0 + (1088 - (length N + 2) % 1088)) % 1088 = omega (arith, l) in
    bits_by_append 8 m (padding (135 - length m % 136))
    ∙ ap (λ (x : Bits). bits_of m ++ x) (padding_bits (135 - length m % 136))
    ∙ sym (append_assoc (bits_of m) (0 ∷ 1 ∷ []) (1 ∷ (replicate (8 * (135 - length m % 136) + 4) 0 ++ 1 ∷ [])))
    ∙ ap (λ (n : ℕ). N ++ (1 ∷ (replicate n 0 ++ 1 ∷ []))) j

-- 6. All of it
place : (m s : List ℕ) (p : ℕ) → p < 136 → (take_bytes (of s p) m).at ≡ (p + length m) % 136
unfolding take_bytes take_byte
place [] s p h = omega arith
place (b ∷ m) s p h =
    ⊎_elim
    (λ (e : suc p ≡ 136).
    let f : (0 + length m) % 136 ≡ (p + suc (length m)) % 136 = omega arith in
    ap (λ (x : Hasher). (take_bytes x m).at) (holding_full (plus_byte s p b) (suc p) e) ∙ place m (permuted (plus_byte s p b)) 0 (lit< tt) ∙ f)
    (λ (l : suc p < 136).
    let f : (suc p + length m) % 136 ≡ (p + suc (length m)) % 136 = omega arith in
    ap (λ (x : Hasher). (take_bytes x m).at) (holding_part (plus_byte s p b) (suc p) l) ∙ place m (plus_byte s p b) (suc p) l ∙ f)
    (eq-or-lt_of_le h)

pub sha3_padded : (m : List ℕ) → sha3 m ≡ output (state_of (padded m) (length m / 136 + 1))
unfolding sha3 digest after
sha3_padded m =
    let at : 135 - (after m).at % 136 ≡ 135 - length m % 136 = omega (arith, place m (replicate 25 0) 0 (lit< tt), zero-add (length m)) in
    ap (λ (j : ℕ). output (taken (after m) (padding j)).lanes) at
    ∙ ap (λ (x : Hasher). output x.lanes) (after_more (after m) m (padding (135 - length m % 136)) refl)
    ∙ ap (λ (x : List ℕ). output (take_bytes new x).lanes) (sym (take_all (136 * (length m / 136 + 1)) (padded m) (omega (arith, padded_length m))))
