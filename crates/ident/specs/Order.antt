-- Two strings of bytes of one length are in the order of their numbers as soon as a byte decides it.
use Rattle.std.specs.Prelude.{ℕ, suc, ◌+◌, ◌*◌, ◌^◌, ◌≤◌, ◌<◌, ◌≡◌, refl, Bool, true, false, List, [], ◌∷◌, length, get_or, drop, leb}
use Rattle.std.proofs.Common.{sym, ap, ◌∙◌, arith, mul-le-mul_right, pow-suc, add-one, length-drop, drop_of_length-le, drop-cons, get_or-drop, le-leb}
use Rattle.std.proofs.Math.Decide.{dec_lt}
use Rattle.std.proofs.lemmas.Bool.{lt-leb}
use Rattle.std.specs.Prelude.{Some}
use Rattle.std.specs.Cmp.{ranks}
use Rattle.std.specs.Cmp.Lexicographic.{slice_partial_cmp}
use Rattle.std.specs.Ordering.{MatchOrdering, partial_ordering_then, is_some_and, is_le, nat_cmp}
use Rattle.std.specs.declared.cmp.Ordering.{Ordering}
use Rattle.std.specs.declared.cmp.Ordering.TheVariants.{Less, Equal, Greater}
use Rattle.ident.specs.Ident.{big_endian, at_most}

-- every element is a byte
abbrev pub Bytes : List ℕ → Type 0
Bytes m = (k : ℕ) → get_or m k 0 < 256

tail_bytes : (b : ℕ) (m : List ℕ) → Bytes (b ∷ m) → Bytes m
tail_bytes b m h k = h (suc k)

pub big_lt : (m : List ℕ) → Bytes m → big_endian m < 256 ^ length m
unfolding big_endian
big_lt [] h = omega arith
big_lt (b ∷ m) h =
    let r : big_endian m < 256 ^ length m = big_lt m (tail_bytes b m h) in
    let q : b < 256 = h 0 in
    let s : (b + 1) * 256 ^ length m ≤ 256 * 256 ^ length m = mul-le-mul_right (256 ^ length m) (omega arith) in
    omega (arith, pow-suc 256 (length m), s)

-- the same number added on both sides
leb_add : (c x y : ℕ) → leb (c + x) (c + y) ≡ leb x y
leb_add c x y = elim (dec_lt y x) [
  | yes h ↦ let k : c + y < c + x = omega arith in lt-leb (c + x) (c + y) k ∙ sym (lt-leb x y h)
  | no h ↦
      let g : x ≤ y = omega arith in
      let k : c + x ≤ c + y = omega arith in
      le-leb (c + x) (c + y) k ∙ sym (le-leb x y g)
]

big_cons : (b : ℕ) (m : List ℕ) → big_endian (b ∷ m) ≡ b * 256 ^ length m + big_endian m
unfolding big_endian
big_cons b m = refl

module _ (a b : ℕ) (m n : List ℕ) (long : length m ≡ length n) where
  power : 256 ^ length m ≡ 256 ^ length n
  power = ap (λ (k : ℕ). 256 ^ k) long

  pub less_first : a < b → Bytes m → at_most (a ∷ m) (b ∷ n) ≡ true
  less_first h y =
      let r : big_endian m < 256 ^ length m = big_lt m y in
      let s : (a + 1) * 256 ^ length n ≤ b * 256 ^ length n = mul-le-mul_right (256 ^ length n) (omega arith) in
      let k : a * 256 ^ length n + big_endian m ≤ b * 256 ^ length n + big_endian n = omega (arith, power) in
      rw (big_cons a m, big_cons b n, power) (le-leb _ _ k)

  pub more_first : b < a → Bytes n → at_most (a ∷ m) (b ∷ n) ≡ false
  more_first h y =
      let r : big_endian n < 256 ^ length n = big_lt n y in
      let s : (b + 1) * 256 ^ length n ≤ a * 256 ^ length n = mul-le-mul_right (256 ^ length n) (omega arith) in
      let k : b * 256 ^ length n + big_endian n < a * 256 ^ length n + big_endian m = omega arith in
      rw (big_cons a m, big_cons b n, power) (lt-leb _ _ k)

  pub same_first : a ≡ b → at_most (a ∷ m) (b ∷ n) ≡ at_most m n
  same_first e = rw (big_cons a m, big_cons b n, power, e) (leb_add (b * 256 ^ length n) (big_endian m) (big_endian n))

drop_bytes : (m : List ℕ) (i : ℕ) → Bytes m → Bytes (drop i m)
drop_bytes m i h k = rw (get_or-drop i m k 0) (h (i + k))

-- two strings of one length: what the byte at place i decides, where it decides, and else the rest
module _ (g h : List ℕ) (i : ℕ) (in_g : i < length g) (in-h : i < length h) (long : length g ≡ length h) where
  rest_long : length (drop (suc i) g) ≡ length (drop (suc i) h)
  rest_long = rw (length-drop (suc i) g, length-drop (suc i) h, long)

  pub less_at : Bytes g → get_or g i 0 < get_or h i 0 → at_most (drop i g) (drop i h) ≡ true
  less_at y l = rw (drop-cons g i 0 in_g, drop-cons h i 0 in-h) (less_first (get_or g i 0) (get_or h i 0) (drop (suc i) g) (drop (suc i) h) rest_long l (drop_bytes g (suc i) y))

  pub more_at : Bytes h → get_or h i 0 < get_or g i 0 → at_most (drop i g) (drop i h) ≡ false
  more_at y l = rw (drop-cons g i 0 in_g, drop-cons h i 0 in-h) (more_first (get_or g i 0) (get_or h i 0) (drop (suc i) g) (drop (suc i) h) rest_long l (drop_bytes h (suc i) y))

  pub same_at : get_or g i 0 ≡ get_or h i 0 → at_most (drop i g) (drop i h) ≡ at_most (drop (i + 1) g) (drop (i + 1) h)
  same_at e = rw (add-one, drop-cons g i 0 in_g, drop-cons h i 0 in-h) (same_first (get_or g i 0) (get_or h i 0) (drop (suc i) g) (drop (suc i) h) rest_long e)

pub none_left : (g h : List ℕ) (i : ℕ) → length g ≤ i → length h ≤ i → true ≡ at_most (drop i g) (drop i h)
unfolding big_endian
none_left g h i p q = rw (drop_of_length-le g p, drop_of_length-le h q)

------ the library's `<=` at arrays of bytes

abbrev pub at_most_by_cmp : List ℕ → List ℕ → Bool
at_most_by_cmp g h = is_some_and is_le (slice_partial_cmp (λ x y. Some (nat_cmp x y)) g h)

by_first : (x y : ℕ) (g h : List ℕ) → length g ≡ length h → Bytes g → Bytes h → at_most_by_cmp g h ≡ at_most g h
    → (o : Ordering) → MatchOrdering o (x < y) (x ≡ y) (y < x)
    → is_some_and is_le (partial_ordering_then (Some o) (slice_partial_cmp (λ a b. Some (nat_cmp a b)) g h)) ≡ at_most (x ∷ g) (y ∷ h)
by_first x y g h l bg bh rest Less k = sym (less_first x y g h l k bg)
by_first x y g h l bg bh rest Equal k = rest ∙ sym (same_first x y g h l k)
by_first x y g h l bg bh rest Greater k = sym (more_first x y g h l k bh)

pub cmp_at_most : (g h : List ℕ) → length g ≡ length h → Bytes g → Bytes h → at_most_by_cmp g h ≡ at_most g h
unfolding big_endian
cmp_at_most [] [] l bg bh = refl
cmp_at_most [] (y ∷ h) l bg bh = absurd (omega arith)
cmp_at_most (x ∷ g) [] l bg bh = absurd (omega arith)
cmp_at_most (x ∷ g) (y ∷ h) l bg bh =
    let e : length g ≡ length h = omega arith in
    by_first x y g h e (tail_bytes x g bg) (tail_bytes y h bh) (cmp_at_most g h e (tail_bytes x g bg) (tail_bytes y h bh)) (nat_cmp x y) (ranks x y)
