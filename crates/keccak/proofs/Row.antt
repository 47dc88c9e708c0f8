-- The lanes that a loop stores one after the other: those of a plane, and the planes of a state.
use mathlib.Core.Path.{◌≡◌, refl, sym, ap, ◌∙◌}
use mathlib.Core.List.{List, []}
use Prim.Native.Nat.{ℕ, zero, suc, ◌+◌, ◌-◌, ◌*◌, ◌/◌, ◌%◌, ◌^◌, ◌<◌}
use native.Mathlib.Omega.{arith}
use native.Mathlib.Nat.{mod-lt}
use lib.Bits.{bit_xor, bit_or}
use lib.Dec.{lit<}
use lib.ListN.{length, length-set, get_or, set}
use lib.Seq.{sets, ext_get_or}
use Rattle.std.proofs.Common.{add-zero, add-one}
use Rattle.std.specs.Int.{w64, rotate_left}
use Rattle.keccak.specs.declared.TheConstants.{FORMS}
use Rattle.keccak.specs.declared.Form.{Form}
use Rattle.keccak.specs.declared.Form.TheVariants.{And}
use Rattle.keccak.specs.Fips202.{listed}
use Rattle.keccak.specs.Lanes.{Lanes, lane, turned, parity, effect, effects, moved, brought, mix, form, along, mixed, iota, round_of}
use Rattle.keccak.specs.Strings.{listed_at, listed_length}

-- a list of f's values read at i
pub entry : (n i : ℕ) (l : List ℕ) (f : Lanes) → l ≡ listed n 0 f → i < n → get_or l i 0 ≡ f i
entry n i l f e h = ap (λ (s : List ℕ). get_or s i 0) e ∙ listed_at n i f h

-- a list filled from a on, and one place more
set_next : (n a : ℕ) (s : List ℕ) (f : Lanes) → set (sets s a (listed n a f)) (a + n) (f (a + n)) ≡ sets s a (listed (suc n) a f)
set_next zero a s f = ap (λ (i : ℕ). set s i (f i)) (add-zero a)
set_next (suc n) a s f =
    let e : a + suc n ≡ suc a + n = omega arith in
    ap (λ (i : ℕ). set (sets s a (listed (suc n) a f)) i (f i)) e ∙ set_next n (suc a) (set s a (f a)) f

-- l is s with n of f's values from place a on
abbrev pub Filled : List ℕ → ℕ → ℕ → Lanes → List ℕ → Type 0
Filled s a n f l = (length l ≡ length s) × (l ≡ sets s a (listed n a f))

pub one_more : (s l : List ℕ) (a n i v : ℕ) (f : Lanes) → Filled s a n f l → i ≡ a + n → v ≡ f i → Filled s a (n + 1) f (set l i v)
one_more s l a n i v f h ei ev = (
  length-set l i v ∙ h.0,
  (λ j. set (h.1 j) i (ev j)) ∙ ap (λ (k : ℕ). set (sets s a (listed n a f)) k (f k)) ei ∙ set_next n a s f
      ∙ ap (λ (k : ℕ). sets s a (listed k a f)) (sym (add-one n)),
)

-- the library's turn
pub turned_by : (v n : ℕ) → n < 64 → rotate_left w64 v n ≡ turned v n
unfolding turned
turned_by v n h = let e : n % 64 ≡ n = omega arith in ap (λ (k : ℕ). bit_or (v * 2 ^ k % 2 ^ 64) (v / 2 ^ ((64 - k) % 64))) e

-- the effect on a sheet, from the five parities
pub effect_at : (a : Lanes) (c : List ℕ) (x r : ℕ) → c ≡ listed 5 0 (parity a) → r ≡ rotate_left w64 (get_or c ((x + 1) % 5) 0) 1
    → bit_xor (get_or c ((x + 4) % 5) 0) r ≡ effect a x
unfolding effect
effect_at a c x r ec er =
    let m : (k : ℕ) → get_or c (k % 5) 0 ≡ parity a (k % 5) = λ k. entry 5 (k % 5) c (parity a) ec (mod-lt k (lit< tt)) in
    λ j. bit_xor (m (x + 4) j) ((er ∙ turned_by _ 1 (lit< tt) ∙ ap (λ (v : ℕ). turned v 1) (m (x + 1))) j)

-- π: where the lane at x of row y comes from
pub brought_at : (a d : Lanes) (y x : ℕ) → x < 5 → moved a d ((x + 3 * y) % 5 + 5 * x) ≡ brought a d (5 * y + x)
unfolding brought
brought_at a d y x h =
    let q : (5 * y + x) / 5 ≡ y = omega arith in
    let r : (5 * y + x) % 5 ≡ x = omega arith in
    sym (λ j. moved a d ((r j + 3 * q j) % 5 + 5 * r j))

-- The table of forms is that of the specification: one computed test of each of the 25 lanes.
below_five : (P : ℕ → Type 0) → P 0 → P 1 → P 2 → P 3 → P 4 → (i : ℕ) → i < 5 → P i
below_five P a b c d e zero h = a
below_five P a b c d e (suc zero) h = b
below_five P a b c d e (suc (suc zero)) h = c
below_five P a b c d e (suc (suc (suc zero))) h = d
below_five P a b c d e (suc (suc (suc (suc zero)))) h = e
below_five P a b c d e (suc (suc (suc (suc (suc i))))) h = absurd (omega arith)

pub form_at : (y : ℕ) → y < 5 → (x : ℕ) → x < 5 → get_or (get_or FORMS y []) x And ≡ form (5 * y + x)
form_at =
    let row : (y : ℕ) → Type 0 = λ y. (x : ℕ) → x < 5 → get_or (get_or FORMS y []) x And ≡ form (5 * y + x) in
    let at : ℕ → ℕ → Type 0 = λ y x. get_or (get_or FORMS y []) x And ≡ form (5 * y + x) in
    below_five row (below_five (at 0) refl refl refl refl refl) (below_five (at 1) refl refl refl refl refl) (below_five (at 2) refl refl refl refl refl)
    (below_five (at 3) refl refl refl refl refl) (below_five (at 4) refl refl refl refl refl)

-- the lane k places on from the one at x of row y
on : (y x k : ℕ) → x < 5 → along (5 * y + x) k ≡ 5 * y + (x + k) % 5
on y x k h =
    let q : (5 * y + x) / 5 ≡ y = omega arith in
    let r : (5 * y + x) % 5 ≡ x = omega arith in
    let e : y * 5 + (x + k) % 5 ≡ 5 * y + (x + k) % 5 = omega arith in
    (λ j. q j * 5 + (r j + k) % 5) ∙ e

-- χ of the lane at x of row y, from the row
pub mixed_at : (b : Lanes) (l : List ℕ) (k : Form) (y x : ℕ) → x < 5 → l ≡ listed 5 0 (λ x. b (5 * y + x)) → k ≡ form (5 * y + x)
    → mix k (get_or l x 0) (get_or l ((x + 1) % 5) 0) (get_or l ((x + 2) % 5) 0) ≡ mixed b (5 * y + x)
unfolding mixed
mixed_at b l k y x h el ek =
    let m : (i : ℕ) → i < 5 → get_or l i 0 ≡ b (5 * y + i) = λ i. entry 5 i l (λ x. b (5 * y + x)) el in
    let n : (k : ℕ) → get_or l ((x + k) % 5) 0 ≡ b (along (5 * y + x) k) = λ k. m ((x + k) % 5) (mod-lt (x + k) (lit< tt)) ∙ ap b (sym (on y x k h)) in
    λ j. mix (ek j) (m x h j) (n 1 j) (n 2 j)

-- five planes stored one after the other are the whole state, whatever stood there
pub stored : (e : List ℕ) (f : Lanes) → length e ≡ 25
    → sets (sets (sets (sets (sets e 0 (listed 5 0 f)) 5 (listed 5 5 f)) 10 (listed 5 10 f)) 15 (listed 5 15 f)) 20 (listed 5 20 f) ≡ listed 25 0 f
stored e f l =
    let written : e ≡ listed 25 0 (lane e) =
    ext_get_or 0 e (listed 25 0 (lane e)) (l ∙ sym (listed_length 25 0 (lane e))) (λ k h. sym (listed_at 25 k (lane e) (omega arith)))
    in
    ap (λ (x : List ℕ). sets (sets (sets (sets (sets x 0 (listed 5 0 f)) 5 (listed 5 5 f)) 10 (listed 5 10 f)) 15 (listed 5 15 f)) 20 (listed 5 20 f)) written

-- so is a round
pub whole : (a d e e₀ e₁ e₂ e₃ e₄ : List ℕ) (k : ℕ) → length e ≡ 25 → d ≡ effects a
    → e₀ ≡ sets e 0 (listed 5 0 (mixed (brought (lane a) (lane d)))) → e₁ ≡ sets e₀ 5 (listed 5 5 (mixed (brought (lane a) (lane d))))
    → e₂ ≡ sets e₁ 10 (listed 5 10 (mixed (brought (lane a) (lane d)))) → e₃ ≡ sets e₂ 15 (listed 5 15 (mixed (brought (lane a) (lane d))))
    → e₄ ≡ sets e₃ 20 (listed 5 20 (mixed (brought (lane a) (lane d)))) → set e₄ 0 (bit_xor (lane e₄ 0) k) ≡ round_of k a
unfolding round_of
whole a d e e₀ e₁ e₂ e₃ e₄ k l ed p₀ p₁ p₂ p₃ p₄ =
    let f : Lanes = mixed (brought (lane a) (lane d)) in
    let all : e₄ ≡ listed 25 0 f = let s = stored e f l in cc in
    ap (λ (x : List ℕ). set x 0 (bit_xor (lane x 0) k)) all ∙ ap (λ (x : List ℕ). listed 25 0 (iota k (mixed (brought (lane a) (lane x))))) ed
