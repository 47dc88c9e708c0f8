-- The permutation of lanes is FIPS 202's KECCAK-p, bit for bit.
use Rattle.std.specs.Prelude.{◌≡◌, refl, List, ◌++◌, ltb, length, get_or}
use Rattle.std.proofs.Common.{sym, ap, ◌∙◌, subst, append_assoc, append-nil, mod-lt, arith, lit<, ltb→lt}
use Rattle.std.proofs.Math.Path.{ap₂}
use Prim.Native.Nat.{ℕ, zero, suc, ◌+◌, ◌-◌, ◌*◌, ◌/◌, ◌%◌, ◌^◌, ◌≤◌, ◌<◌, max}
use Rattle.std.specs.Int.Bits.{bit_and, bit_or, bit_xor, xor_lt, and_lt}
use Rattle.std.proofs.lemmas.Nat.{or_lt}
use Rattle.std.proofs.Math.Pow.{ones_sub-lt}
use Rattle.keccak.specs.Fips202.{Bits, State, ◌⊕◌, listed, array, string, Lane, C, D, θ, ρ, π, χ, ι, RC, rc, offset, Rnd, rounds, keccak_p, bit, bits_by}
use Rattle.keccak.specs.declared.Form.{Form}
use Rattle.keccak.specs.declared.Form.TheVariants.{And, Or, NotAnd, NotOr, OrNot, OtherAnd, OtherOr}
use Rattle.keccak.specs.Lanes.{Lanes, lane, turned, complement, parity, effect, effects, rotation, moved, origin, brought, mix, form, along, mixed, iota, round_of, constant_of, rounds_of, veil, under, veiled, permuted}
use Rattle.keccak.specs.Each.{each_at, agree}
use Rattle.keccak.specs.Strings.{listed_at, bits_by_at, joined, bits_by_joined, joined_same, listed_same}
use Rattle.keccak.specs.Bit.{plus_assoc, plus_swap, plus_comm, plus_zero, xor_bit, and_bit, or_bit, not_bit, turned_bit, turned_lt}

-- Each lane has 64 bits, and they are the array's, all complemented where the lane's flag is 1.
pub record Is (f : Lanes) (a : Lanes) (A : State) : Type 0 where
  pub small : (i : ℕ) → i < 25 → a i < 2 ^ 64
  pub bits : (i z : ℕ) → i < 25 → z < 64 → A (i % 5) (i / 5) z < 2
  pub same : (i z : ℕ) → i < 25 → z < 64 → bit (a i) z ≡ A (i % 5) (i / 5) z ⊕ f i

m2 : (n : ℕ) → n % 2 < 2
m2 n = mod-lt n (lit< tt)

m5 : (n : ℕ) → n % 5 < 5
m5 n = mod-lt n (lit< tt)

m64 : (n : ℕ) → n % 64 < 64
m64 n = mod-lt n (lit< tt)

-- the round constants
constant_lt : (i : ℕ) → i < 24 → constant_of i < 2 ^ 64
unfolding constant_of rc
constant_lt i h = ltb→lt (constant_of i) (2 ^ 64) (each_at 24 (λ k. ltb (constant_of k) (2 ^ 64)) tt i h)

constant_bit : (i z : ℕ) → i < 24 → z < 64 → bit (constant_of i) z ≡ get_or (RC i) z 0
unfolding constant_of rc RC
constant_bit = agree 24 64 (λ i z. bit (constant_of i) z) (λ i z. get_or (RC i) z 0) tt

-- the flags that the linear steps leave
abbrev parity_f : Lanes → ℕ → ℕ
parity_f f x = f x ⊕ f (x + 5) ⊕ f (x + 10) ⊕ f (x + 15) ⊕ f (x + 20)

abbrev effect_f : Lanes → ℕ → ℕ
effect_f f x = parity_f f ((x + 4) % 5) ⊕ parity_f f ((x + 1) % 5)

abbrev moved_f : Lanes → Lanes
moved_f f i = f i ⊕ effect_f f (i % 5)

abbrev brought_f : Lanes → Lanes
brought_f f i = moved_f f (origin i)

module _ (f a : Lanes) (A : State) (is : Is f a A) where
  -- the lane at i is that of (x, y)
  at : (i x y z : ℕ) → x < 5 → y < 5 → z < 64 → i ≡ 5 * y + x → bit (a i) z ≡ A x y z ⊕ f i
  at i x y z hx hy hz e =
      let p : i % 5 ≡ x = omega arith in
      let q : i / 5 ≡ y = omega arith in
      is.same i z (omega arith) hz ∙ (λ j. A (p j) (q j) z ⊕ f i)

  -- θ
  parity_lt : (x : ℕ) → x < 5 → parity a x < 2 ^ 64
  unfolding parity
  parity_lt x h =
      xor_lt 64 _ (a (x + 20))
      (xor_lt 64 _ (a (x + 15))
      (xor_lt 64 _ (a (x + 10))
      (xor_lt 64 (a x) (a (x + 5)) (is.small x (omega arith)) (is.small (x + 5) (omega arith)))
      (is.small (x + 10) (omega arith)))
      (is.small (x + 15) (omega arith)))
      (is.small (x + 20) (omega arith))

  -- one lane more in a column's sum
  add_lane : (v i x y z P F : ℕ) → x < 5 → y < 5 → z < 64 → i ≡ 5 * y + x → bit v z ≡ P ⊕ F → bit (bit_xor v (a i)) z ≡ (P ⊕ A x y z) ⊕ (F ⊕ f i)
  add_lane v i x y z P F hx hy hz e s =
      xor_bit v (a i) z ∙ ap₂ ◌⊕◌ s (at i x y z hx hy hz e) ∙ plus_swap P F (A x y z) (f i)

  parity_bit : (x z : ℕ) → x < 5 → z < 64 → bit (parity a x) z ≡ C A x z ⊕ parity_f f x
  unfolding parity
  parity_bit x z h hz =
      add_lane _ (x + 20) x 4 z _ _ h (lit< tt) hz (omega arith)
      (add_lane _ (x + 15) x 3 z _ _ h (lit< tt) hz (omega arith)
      (add_lane _ (x + 10) x 2 z _ _ h (lit< tt) hz (omega arith)
      (add_lane (a x) (x + 5) x 1 z _ _ h (lit< tt) hz (omega arith) (at x x 0 z h (lit< tt) hz (omega arith)))))

  effect_lt : (x : ℕ) → effect a x < 2 ^ 64
  unfolding effect
  effect_lt x =
      xor_lt 64 (parity a ((x + 4) % 5)) (turned (parity a ((x + 1) % 5)) 1) (parity_lt ((x + 4) % 5) (m5 (x + 4)))
      (turned_lt (parity a ((x + 1) % 5)) 1 (parity_lt ((x + 1) % 5) (m5 (x + 1))))

  effect_bit : (x z : ℕ) → z < 64 → bit (effect a x) z ≡ D A x z ⊕ effect_f f x
  unfolding effect
  effect_bit x z hz =
      xor_bit (parity a ((x + 4) % 5)) (turned (parity a ((x + 1) % 5)) 1) z
      ∙ ap₂ ◌⊕◌ (parity_bit ((x + 4) % 5) z (m5 (x + 4)) hz)
      (turned_bit (parity a ((x + 1) % 5)) 1 z (parity_lt ((x + 1) % 5) (m5 (x + 1))) (lit< tt) hz
      ∙ parity_bit ((x + 1) % 5) ((z + 63) % 64) (m5 (x + 1)) (m64 (z + 63)))
      ∙ plus_swap (C A ((x + 4) % 5) z) (parity_f f ((x + 4) % 5)) (C A ((x + 1) % 5) ((z + 63) % 64)) (parity_f f ((x + 1) % 5))

  -- θ and ρ
  rotation_lt : (i : ℕ) → rotation i < 64
  unfolding rotation
  rotation_lt i = m64 (offset (i % 5) (i / 5))

  moved_is : Is (moved_f f) (moved a (effect a)) (ρ (θ A))
  unfolding moved ρ θ rotation
  moved_is =
      let sum : (i : ℕ) → i < 25 → bit_xor (a i) (effect a (i % 5)) < 2 ^ 64 = λ i hi. xor_lt 64 (a i) (effect a (i % 5)) (is.small i hi) (effect_lt (i % 5)) in
      record {
        small = λ i hi. turned_lt (bit_xor (a i) (effect a (i % 5))) (rotation i) (sum i hi);
        bits = λ i z hi hz. m2 _;
        same = λ i z hi hz.
            let w : ℕ = (z + (64 - rotation i)) % 64 in
            turned_bit (bit_xor (a i) (effect a (i % 5))) (rotation i) z (sum i hi) (rotation_lt i) hz
            ∙ xor_bit (a i) (effect a (i % 5)) w
            ∙ ap₂ ◌⊕◌ (is.same i w hi (m64 (z + (64 - rotation i)))) (effect_bit (i % 5) w (m64 (z + (64 - rotation i))))
            ∙ plus_swap (A (i % 5) (i / 5) w) (f i) (D A (i % 5) w) (effect_f f (i % 5));
      }

-- π
brought_is : (f a : Lanes) (A : State) → Is f a A → Is (brought_f f) (brought a (effect a)) (π (ρ (θ A)))
unfolding brought π
brought_is f a A is =
    let m = moved_is f a A is in
    record {
      small = λ i hi. m.small (origin i) (omega arith);
      bits = λ i z hi hz.
          let p : origin i % 5 ≡ (i % 5 + 3 * (i / 5)) % 5 = omega arith in
          let q : origin i / 5 ≡ i % 5 = omega arith in
          subst (λ (v : ℕ). v < 2) (λ j. ρ (θ A) (p j) (q j) z) (m.bits (origin i) z (omega arith) hz);
      same = λ i z hi hz.
          at (moved_f f) (moved a (effect a)) (ρ (θ A)) m (origin i) ((i % 5 + 3 * (i / 5)) % 5) (i % 5) z (m5 (i % 5 + 3 * (i / 5))) (m5 i) hz (omega arith);
    }

-- χ: each form, bit by bit
abbrev mix_bit : Form → ℕ → ℕ → ℕ → ℕ
mix_bit And b c e = b ⊕ c * e
mix_bit Or b c e = b ⊕ max c e
mix_bit NotAnd b c e = b ⊕ (c ⊕ 1) * e
mix_bit NotOr b c e = b ⊕ max (c ⊕ 1) e
mix_bit OrNot b c e = b ⊕ max c (e ⊕ 1)
mix_bit OtherAnd b c e = (b ⊕ 1) ⊕ c * e
mix_bit OtherOr b c e = (b ⊕ 1) ⊕ max c e

module _ (b c e z : ℕ) (hb : b < 2 ^ 64) (hc : c < 2 ^ 64) (he : e < 2 ^ 64) (hz : z < 64) where
  mix_bit_lem : (k : Form) → bit (mix k b c e) z ≡ mix_bit k (bit b z) (bit c z) (bit e z)
  mix_bit_lem And = xor_bit b (bit_and c e) z ∙ ap (λ (n : ℕ). bit b z ⊕ n) (and_bit c e z)
  mix_bit_lem Or = xor_bit b (bit_or c e) z ∙ ap (λ (n : ℕ). bit b z ⊕ n) (or_bit c e z)
  mix_bit_lem NotAnd = xor_bit b (bit_and (complement c) e) z ∙ ap (λ (n : ℕ). bit b z ⊕ n) (and_bit (complement c) e z ∙ ap (λ (n : ℕ). n * bit e z) (not_bit z 64 c hz hc))
  mix_bit_lem NotOr = xor_bit b (bit_or (complement c) e) z ∙ ap (λ (n : ℕ). bit b z ⊕ n) (or_bit (complement c) e z ∙ ap (λ (n : ℕ). max n (bit e z)) (not_bit z 64 c hz hc))
  mix_bit_lem OrNot = xor_bit b (bit_or c (complement e)) z ∙ ap (λ (n : ℕ). bit b z ⊕ n) (or_bit c (complement e) z ∙ ap (max (bit c z)) (not_bit z 64 e hz he))
  mix_bit_lem OtherAnd = xor_bit (complement b) (bit_and c e) z ∙ ap₂ ◌⊕◌ (not_bit z 64 b hz hb) (and_bit c e z)
  mix_bit_lem OtherOr = xor_bit (complement b) (bit_or c e) z ∙ ap₂ ◌⊕◌ (not_bit z 64 b hz hb) (or_bit c e z)

  mix_lt : (k : Form) → mix k b c e < 2 ^ 64
  mix_lt And = xor_lt 64 b (bit_and c e) hb (and_lt 64 c e hc he)
  mix_lt Or = xor_lt 64 b (bit_or c e) hb (or_lt 64 c e hc he)
  mix_lt NotAnd = xor_lt 64 b (bit_and (complement c) e) hb (and_lt 64 (complement c) e (ones_sub-lt 64 c) he)
  mix_lt NotOr = xor_lt 64 b (bit_or (complement c) e) hb (or_lt 64 (complement c) e (ones_sub-lt 64 c) he)
  mix_lt OrNot = xor_lt 64 b (bit_or c (complement e)) hb (or_lt 64 c (complement e) hc (ones_sub-lt 64 e))
  mix_lt OtherAnd = xor_lt 64 (complement b) (bit_and c e) (ones_sub-lt 64 b) (and_lt 64 c e hc he)
  mix_lt OtherOr = xor_lt 64 (complement b) (bit_or c e) (ones_sub-lt 64 b) (or_lt 64 c e hc he)

-- The form at each lane is right: one computed test, over the 25 lanes and the eight values n of three bits.
form_right : (i n : ℕ) → i < 25 → n < 8
    → mix_bit (form i) (n % 2 ⊕ brought_f veil i) (n / 2 % 2 ⊕ brought_f veil (along i 1)) (n / 4 ⊕ brought_f veil (along i 2))
    ≡ (n % 2 ⊕ (n / 2 % 2 ⊕ 1) * (n / 4)) ⊕ veil i
form_right =
    agree 25 8 (λ i n. mix_bit (form i) (n % 2 ⊕ brought_f veil i) (n / 2 % 2 ⊕ brought_f veil (along i 1)) (n / 4 ⊕ brought_f veil (along i 2)))
    (λ i n. (n % 2 ⊕ (n / 2 % 2 ⊕ 1) * (n / 4)) ⊕ veil i) tt

second : (y w : ℕ) → y < 2 → (y + 2 * w) % 2 ≡ y
second y w h = omega arith

form_bits : (i x y w : ℕ) → i < 25 → x < 2 → y < 2 → w < 2
    → mix_bit (form i) (x ⊕ brought_f veil i) (y ⊕ brought_f veil (along i 1)) (w ⊕ brought_f veil (along i 2)) ≡ (x ⊕ (y ⊕ 1) * w) ⊕ veil i
form_bits i x y w hi hx hy hw =
    let n : ℕ = x + 2 * y + 4 * w in
    let p : n % 2 ≡ x = omega arith in
    let h : n / 2 ≡ y + 2 * w = omega arith in
    let q : n / 2 % 2 ≡ y = ap (λ (k : ℕ). k % 2) h ∙ second y w hy in
    let r : n / 4 ≡ w = omega arith in
    sym (λ j. mix_bit (form i) (p j ⊕ brought_f veil i) (q j ⊕ brought_f veil (along i 1)) (r j ⊕ brought_f veil (along i 2)))
    ∙ form_right i n hi (omega arith)
    ∙ (λ j. (p j ⊕ (q j ⊕ 1) * r j) ⊕ veil i)

mixed_is : (b : Lanes) (B : State) → Is (brought_f veil) b B → Is veil (mixed b) (χ B)
unfolding mixed χ
mixed_is b B is =
    record {
      small = λ i hi. mix_lt (b i) (b (along i 1)) (b (along i 2)) 0 (is.small i hi) (is.small (along i 1) (omega arith)) (is.small (along i 2) (omega arith)) (lit< tt) (form i);
      bits = λ i z hi hz. m2 _;
      same = λ i z hi hz.
          let y : i / 5 < 5 = omega arith in
          let c : bit (b (along i 1)) z ≡ B ((i % 5 + 1) % 5) (i / 5) z ⊕ brought_f veil (along i 1) =
          at (brought_f veil) b B is (along i 1) ((i % 5 + 1) % 5) (i / 5) z (m5 (i % 5 + 1)) y hz (omega arith)
          in
          let e : bit (b (along i 2)) z ≡ B ((i % 5 + 2) % 5) (i / 5) z ⊕ brought_f veil (along i 2) =
          at (brought_f veil) b B is (along i 2) ((i % 5 + 2) % 5) (i / 5) z (m5 (i % 5 + 2)) y hz (omega arith)
          in
          mix_bit_lem (b i) (b (along i 1)) (b (along i 2)) z (is.small i hi) (is.small (along i 1) (omega arith)) (is.small (along i 2) (omega arith)) hz (form i)
          ∙ (λ j. mix_bit (form i) (is.same i z hi hz j) (c j) (e j))
          ∙ form_bits i (B (i % 5) (i / 5) z) (B ((i % 5 + 1) % 5) (i / 5) z) (B ((i % 5 + 2) % 5) (i / 5) z) hi (is.bits i z hi hz)
          (bit_at b B is (along i 1) ((i % 5 + 1) % 5) (i / 5) z (m5 (i % 5 + 1)) y hz (omega arith))
          (bit_at b B is (along i 2) ((i % 5 + 2) % 5) (i / 5) z (m5 (i % 5 + 2)) y hz (omega arith));
    }
  where
    bit_at : (b : Lanes) (B : State) → Is (brought_f veil) b B → (i x y z : ℕ) → x < 5 → y < 5 → z < 64 → i ≡ 5 * y + x → B x y z < 2
    bit_at b B is i x y z hx hy hz e =
        let p : i % 5 ≡ x = omega arith in
        let q : i / 5 ≡ y = omega arith in
        subst (λ (v : ℕ). v < 2) (λ j. B (p j) (q j) z) (is.bits i z (omega arith) hz)

-- ι changes no lane but the first
others : (A : State) (r x y z : ℕ) → 0 < 5 * y + x → ι A r x y z ≡ A x y z
unfolding ι
others A r zero zero z h = absurd (omega arith)
others A r zero (suc y) z h = refl
others A r (suc x) y z h = refl

iota_is : (a : Lanes) (A : State) → Is veil a A → (r : ℕ) → r < 24 → Is veil (iota (constant_of r) a) (ι A r)
unfolding ι
iota_is a A is r hr =
    record { small = sm; bits = bi; same = sa }
  where
    sm : (i : ℕ) → i < 25 → iota (constant_of r) a i < 2 ^ 64
    sm zero h = xor_lt 64 (a 0) (constant_of r) (is.small 0 h) (constant_lt r hr)
    sm (suc i) h = is.small (suc i) h

    bi : (i z : ℕ) → i < 25 → z < 64 → ι A r (i % 5) (i / 5) z < 2
    bi zero z h hz = m2 _
    bi (suc i) z h hz = subst (λ (v : ℕ). v < 2) (sym (others A r (suc i % 5) (suc i / 5) z (omega arith))) (is.bits (suc i) z h hz)

    sa : (i z : ℕ) → i < 25 → z < 64 → bit (iota (constant_of r) a i) z ≡ ι A r (i % 5) (i / 5) z ⊕ veil i
    sa zero z h hz =
        xor_bit (a 0) (constant_of r) z ∙ ap₂ ◌⊕◌ (is.same 0 z h hz) (constant_bit r z hr hz)
        ∙ plus_assoc (A 0 0 z) 0 (get_or (RC r) z 0) ∙ ap (λ (n : ℕ). A 0 0 z ⊕ n) (plus_comm 0 (get_or (RC r) z 0)) ∙ sym (plus_assoc (A 0 0 z) (get_or (RC r) z 0) 0)
    sa (suc i) z h hz = is.same (suc i) z h hz ∙ ap (λ (n : ℕ). n ⊕ veil (suc i)) (sym (others A r (suc i % 5) (suc i / 5) z (omega arith)))

-- the list of the 25 lanes
listed_is : (f a : Lanes) (A : State) → Is f a A → Is f (lane (listed 25 0 a)) A
listed_is f a A is =
    record {
      small = λ i hi. subst (λ (v : ℕ). v < 2 ^ 64) (sym (listed_at 25 i a hi)) (is.small i hi);
      bits = is.bits;
      same = λ i z hi hz. ap (λ (v : ℕ). bit v z) (listed_at 25 i a hi) ∙ is.same i z hi hz;
    }

-- a round, and n of them
same_lanes : (f a b : Lanes) (A : State) → ((i : ℕ) → i < 25 → b i ≡ a i) → Is f a A → Is f b A
same_lanes f a b A e is =
    record {
      small = λ i hi. subst (λ (v : ℕ). v < 2 ^ 64) (sym (e i hi)) (is.small i hi);
      bits = is.bits;
      same = λ i z hi hz. ap (λ (v : ℕ). bit v z) (e i hi) ∙ is.same i z hi hz;
    }

by_list : (s : List ℕ) (i : ℕ) → brought (lane s) (lane (effects s)) i ≡ brought (lane s) (effect (lane s)) i
unfolding brought moved effects
by_list s i = ap (λ (d : ℕ). turned (bit_xor (lane s (origin i)) d) (rotation (origin i))) (listed_at 5 (origin i % 5) (effect (lane s)) (m5 (origin i)))

round_is : (r : ℕ) → r < 24 → (s : List ℕ) (A : State) → Is veil (lane s) A → Is veil (lane (round_of (constant_of r) s)) (Rnd A r)
unfolding round_of Rnd
round_is r hr s A is =
    let b = same_lanes _ _ (brought (lane s) (lane (effects s))) _ (λ i hi. by_list s i) (brought_is veil (lane s) A is) in
    listed_is _ _ _ (iota_is _ _ (mixed_is _ _ b) r hr)

rounds_is : (n : ℕ) → n ≤ 24 → (s : List ℕ) (A : State) → Is veil (lane s) A → Is veil (lane (rounds_of n s)) (rounds n A)
unfolding rounds_of rounds
rounds_is zero h s A is = is
rounds_is (suc n) h s A is = round_is n h (rounds_of n s) (rounds n A) (rounds_is n (omega arith) s A is)

-- complementing the six lanes
under_is : (f v z : ℕ) → f < 2 → v < 2 ^ 64 → z < 64 → bit (under f v) z ≡ bit v z ⊕ f
under_is zero v z hf hv hz = plus_zero (v / 2 ^ z)
under_is (suc zero) v z hf hv hz = not_bit z 64 v hz hv
under_is (suc (suc f)) v z hf hv hz = absurd (omega arith)

under_lt : (f v : ℕ) → v < 2 ^ 64 → under f v < 2 ^ 64
under_lt zero v h = h
under_lt (suc f) v h = ones_sub-lt 64 v

veil_lt : (i : ℕ) → i < 25 → veil i < 2
veil_lt i h = ltb→lt (veil i) 2 (each_at 25 (λ k. ltb (veil k) 2) tt i h)

veiled_is : (f g : Lanes) (s : List ℕ) (A : State) → ((i : ℕ) → i < 25 → f i ⊕ veil i ≡ g i) → Is f (lane s) A → Is g (lane (veiled s)) A
unfolding veiled
veiled_is f g s A e is =
    listed_is g (λ i. under (veil i) (lane s i)) A
    (record {
      small = λ i hi. under_lt (veil i) (lane s i) (is.small i hi);
      bits = is.bits;
      same = λ i z hi hz.
          under_is (veil i) (lane s i) z (veil_lt i hi) (is.small i hi) hz
          ∙ ap (λ (n : ℕ). n ⊕ veil i) (is.same i z hi hz)
          ∙ plus_assoc (A (i % 5) (i / 5) z) (f i) (veil i)
          ∙ ap (λ (n : ℕ). A (i % 5) (i / 5) z ⊕ n) (e i hi);
    })

-- no lane complemented
abbrev bare : Lanes
bare i = 0

plain : (v : ℕ) → v < 2 → v ⊕ 0 ≡ v
plain v h = omega arith

veil_once : (i : ℕ) → i < 25 → bare i ⊕ veil i ≡ veil i
veil_once i h = plus_comm 0 (veil i) ∙ plain (veil i) (veil_lt i h)

veil_twice : (i : ℕ) → i < 25 → veil i ⊕ veil i ≡ bare i
veil_twice i h = omega arith

-- a state array as a string is its lanes, one after the other
planes : (l : ℕ → ℕ → Bits) → (l 0 0 ++ l 1 0 ++ l 2 0 ++ l 3 0 ++ l 4 0) ++ (l 0 1 ++ l 1 1 ++ l 2 1 ++ l 3 1 ++ l 4 1)
    ++ (l 0 2 ++ l 1 2 ++ l 2 2 ++ l 3 2 ++ l 4 2) ++ (l 0 3 ++ l 1 3 ++ l 2 3 ++ l 3 3 ++ l 4 3) ++ (l 0 4 ++ l 1 4 ++ l 2 4 ++ l 3 4 ++ l 4 4)
    ≡ joined 25 0 (λ i. l (i % 5) (i / 5))
planes l = simp (append_assoc, append-nil)

string_is : (a : Lanes) (A : State) → Is bare a A → string A ≡ bits_by 64 (listed 25 0 a)
unfolding string
string_is a A is =
    planes (Lane A)
    ∙ joined_same 25 0 (λ i. Lane A (i % 5) (i / 5)) (λ i. listed 64 0 (bit (a i))) (λ i hi. listed_same 64 0 (A (i % 5) (i / 5)) (bit (a i)) (λ z hz. sym (is.same i z hi hz ∙ plain _ (is.bits i z hi hz))))
    ∙ sym (bits_by_joined 64 25 0 a)

-- the lanes of a string
lanes_are : (s : List ℕ) → ((i : ℕ) → i < 25 → lane s i < 2 ^ 64) → Is bare (lane s) (array (bits_by 64 s))
unfolding array
lanes_are s small =
    record {
      small = small;
      bits = λ i z hi hz. subst (λ (v : ℕ). v < 2) (sym (there i z hz)) (m2 _);
      same = λ i z hi hz. plus_zero (lane s i / 2 ^ z) ∙ ap (λ (v : ℕ). v ⊕ 0) (sym (there i z hz));
    }
  where
    there : (i z : ℕ) → z < 64 → get_or (bits_by 64 s) (64 * (5 * (i / 5) + i % 5) + z) 0 ≡ bit (lane s i) z
    there i z hz =
        let e : 64 * (5 * (i / 5) + i % 5) + z ≡ 64 * i + z = omega arith in
        ap (λ (j : ℕ). get_or (bits_by 64 s) j 0) e ∙ bits_by_at 64 s i z hz

permuted_is : (s : List ℕ) → ((i : ℕ) → i < 25 → lane s i < 2 ^ 64) → Is bare (lane (permuted s)) (rounds 24 (array (bits_by 64 s)))
unfolding permuted
permuted_is s small =
    veiled_is veil bare _ _ veil_twice (rounds_is 24 (omega arith) (veiled s) (array (bits_by 64 s)) (veiled_is bare veil s _ veil_once (lanes_are s small)))

pub permuted_lt : (s : List ℕ) → ((i : ℕ) → i < 25 → lane s i < 2 ^ 64) → (i : ℕ) → i < 25 → lane (permuted s) i < 2 ^ 64
permuted_lt s small i h = (permuted_is s small).small i h

permuted_listed : (s : List ℕ) → listed 25 0 (lane (permuted s)) ≡ permuted s
unfolding permuted veiled
permuted_listed s = refl

pub permuted_length : (s : List ℕ) → length (permuted s) ≡ 25
unfolding permuted veiled
permuted_length s = refl

-- KECCAK-p on lanes is KECCAK-p on their bits
pub permuted_bits : (s : List ℕ) → ((i : ℕ) → i < 25 → lane s i < 2 ^ 64) → bits_by 64 (permuted s) ≡ keccak_p (bits_by 64 s)
unfolding keccak_p
permuted_bits s small =
    ap (bits_by 64) (sym (permuted_listed s)) ∙ sym (string_is (lane (permuted s)) (rounds 24 (array (bits_by 64 s))) (permuted_is s small))
