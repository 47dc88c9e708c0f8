-- Laws of strings of bits.
use Rattle.std.specs.Prelude.{◌≡◌, get_or, replicate}
use Rattle.std.proofs.Math.Path.{refl, sym, ap}
use Rattle.std.proofs.Common.{ap₂, subst, ◌∙◌, not-suc-le-zero, le_of_suc-le-suc, zero-add, mul-zero, mod-lt, arith, lit<, length-append, drop_of_length-le, get_or-append-add, take_all}
use mathlib.Core.List.{List, [], ◌∷◌, ◌++◌, append_assoc}
use Prim.Native.Nat.{ℕ, zero, suc, ◌+◌, ◌*◌, ◌/◌, ◌%◌, ◌^◌, ◌<◌}
use Rattle.std.proofs.Math.Nat.{zero-div, mul-suc}
use Rattle.std.proofs.Math.ListN.{length, take, drop, get_or-append}
use Rattle.std.proofs.Math.Seq.{take-append-add, drop-append-add}
use Rattle.keccak.specs.Fips202.{Bits, ◌⊕◌, xor, listed, bit, bits_by, bits_of}

-- what `listed` holds
at_from : (n a i : ℕ) (f : ℕ → ℕ) → i < n → get_or (listed n a f) i 0 ≡ f (a + i)
at_from zero a i f h = absurd (not-suc-le-zero h)
at_from (suc n) a zero f h = let e : a ≡ a + 0 = omega arith in ap f e
at_from (suc n) a (suc i) f h = let e : suc a + i ≡ a + suc i = omega arith in at_from n (suc a) i f (le_of_suc-le-suc h) ∙ ap f e

pub listed_at : (n i : ℕ) (f : ℕ → ℕ) → i < n → get_or (listed n 0 f) i 0 ≡ f i
listed_at n i f h = at_from n 0 i f h ∙ ap f (zero-add i)

pub listed_length : (n a : ℕ) (f : ℕ → ℕ) → length (listed n a f) ≡ n
listed_length zero a f = refl
listed_length (suc n) a f = ap suc (listed_length n (suc a) f)

pub listed_same : (n a : ℕ) (f g : ℕ → ℕ) → ((i : ℕ) → i < a + n → f i ≡ g i) → listed n a f ≡ listed n a g
listed_same zero a f g e = refl
listed_same (suc n) a f g e = ap₂ ◌∷◌ (e a (omega arith)) (listed_same n (suc a) f g (λ i h. e i (omega arith)))

-- l(a) || l(a + 1) || .., n in all
abbrev pub joined : ℕ → ℕ → (ℕ → Bits) → Bits
joined zero a l = []
joined (suc n) a l = l a ++ joined n (suc a) l

pub joined_same : (n a : ℕ) (l m : ℕ → Bits) → ((i : ℕ) → i < a + n → l i ≡ m i) → joined n a l ≡ joined n a m
joined_same zero a l m e = refl
joined_same (suc n) a l m e = ap₂ ◌++◌ (e a (omega arith)) (joined_same n (suc a) l m (λ i h. e i (omega arith)))

pub bits_by_joined : (k n a : ℕ) (f : ℕ → ℕ) → bits_by k (listed n a f) ≡ joined n a (λ i. listed k 0 (bit (f i)))
unfolding bits_by
bits_by_joined k zero a f = refl
bits_by_joined k (suc n) a f = ap (λ (l : Bits). listed k 0 (bit (f a)) ++ l) (bits_by_joined k n (suc a) f)

-- the bits of numbers of n bits
pub bits_by_length : (n : ℕ) (l : List ℕ) → length (bits_by n l) ≡ n * length l
unfolding bits_by
bits_by_length n [] = sym (mul-zero n)
bits_by_length n (h ∷ l) =
    length-append (listed n 0 (bit h)) (bits_by n l) ∙ ap₂ ◌+◌ (listed_length n 0 (bit h)) (bits_by_length n l)
    ∙ omega (arith, mul-suc n (length l))

pub bits_by_at : (n : ℕ) (l : List ℕ) (k z : ℕ) → z < n → get_or (bits_by n l) (n * k + z) 0 ≡ bit (get_or l k 0) z
unfolding bits_by
bits_by_at n [] k z h = sym (ap (λ (v : ℕ). v % 2) (zero-div (2 ^ z)))
bits_by_at n (v ∷ l) zero z h =
    let e : n * 0 + z ≡ z = omega (arith, mul-zero n) in
    let j : z < length (listed n 0 (bit v)) = subst (λ (m : ℕ). z < m) (sym (listed_length n 0 (bit v))) h in
    ap (λ (i : ℕ). get_or (bits_by n (v ∷ l)) i 0) e ∙ get_or-append (listed n 0 (bit v)) (bits_by n l) 0 z j ∙ listed_at n z (bit v) h
bits_by_at n (v ∷ l) (suc k) z h =
    let e : n * suc k + z ≡ length (listed n 0 (bit v)) + (n * k + z) = omega (arith, mul-suc n k, listed_length n 0 (bit v)) in
    ap (λ (i : ℕ). get_or (bits_by n (v ∷ l)) i 0) e ∙ get_or-append-add (listed n 0 (bit v)) (bits_by n l) (n * k + z) 0 ∙ bits_by_at n l k z h

-- strings: ⊕ bit by bit, zeros at the end, and parts of a string of numbers
pub xor_at : (X Y : Bits) (i : ℕ) → i < length X → i < length Y → get_or (xor X Y) i 0 ≡ get_or X i 0 ⊕ get_or Y i 0
unfolding xor
xor_at [] Y i h l = absurd (not-suc-le-zero h)
xor_at (a ∷ X) [] i h l = absurd (not-suc-le-zero l)
xor_at (a ∷ X) (b ∷ Y) zero h l = refl
xor_at (a ∷ X) (b ∷ Y) (suc i) h l = xor_at X Y i (le_of_suc-le-suc h) (le_of_suc-le-suc l)

pub xor_length : (X Y : Bits) → length X ≡ length Y → length (xor X Y) ≡ length X
unfolding xor
xor_length [] Y e = refl
xor_length (a ∷ X) [] e = sym e
xor_length (a ∷ X) (b ∷ Y) e = ap suc (xor_length X Y (omega arith))

pub zeros_at : (n i : ℕ) → get_or {A = ℕ} (replicate n 0) i 0 ≡ 0
zeros_at zero i = refl
zeros_at (suc n) zero = refl
zeros_at (suc n) (suc i) = zeros_at n i

pub padded_at : (X : Bits) (n i : ℕ) → get_or (X ++ replicate n 0) i 0 ≡ get_or X i 0
padded_at [] n i = zeros_at n i
padded_at (a ∷ X) n zero = refl
padded_at (a ∷ X) n (suc i) = padded_at X n i

module _ (n : ℕ) where
  pub bits_by_append : (l m : List ℕ) → bits_by n (l ++ m) ≡ bits_by n l ++ bits_by n m
  unfolding bits_by
  bits_by_append [] m = refl
  bits_by_append (h ∷ l) m =
      ap (λ (x : Bits). listed n 0 (bit h) ++ x) (bits_by_append l m) ∙ sym (append_assoc (listed n 0 (bit h)) (bits_by n l) (bits_by n m))

  pub bits_by_take : (k : ℕ) (l : List ℕ) → bits_by n (take k l) ≡ take (n * k) (bits_by n l)
  unfolding bits_by
  bits_by_take zero l = ap (λ (j : ℕ). take j (bits_by n l)) (sym (mul-zero n))
  bits_by_take (suc k) [] = sym (take_all (n * suc k) [] (omega arith))
  bits_by_take (suc k) (h ∷ l) =
      let e : length (listed n 0 (bit h)) + n * k ≡ n * suc k = omega (arith, listed_length n 0 (bit h), mul-suc n k) in
      ap (λ (x : Bits). listed n 0 (bit h) ++ x) (bits_by_take k l)
      ∙ sym (take-append-add (listed n 0 (bit h)) (bits_by n l) (n * k))
      ∙ ap (λ (j : ℕ). take j (bits_by n (h ∷ l))) e

  pub bits_by_drop : (k : ℕ) (l : List ℕ) → bits_by n (drop k l) ≡ drop (n * k) (bits_by n l)
  unfolding bits_by
  bits_by_drop zero l = ap (λ (j : ℕ). drop j (bits_by n l)) (sym (mul-zero n))
  bits_by_drop (suc k) [] = sym (drop_of_length-le [] {i = n * suc k} (omega arith))
  bits_by_drop (suc k) (h ∷ l) =
      let e : length (listed n 0 (bit h)) + n * k ≡ n * suc k = omega (arith, listed_length n 0 (bit h), mul-suc n k) in
      bits_by_drop k l
      ∙ sym (drop-append-add (listed n 0 (bit h)) (bits_by n l) (n * k))
      ∙ ap (λ (j : ℕ). drop j (bits_by n (h ∷ l))) e

-- the bit at i of a string of numbers of 8 or of 64 bits
pub byte_bit : (m : List ℕ) (i : ℕ) → get_or (bits_of m) i 0 ≡ bit (get_or m (i / 8) 0) (i % 8)
byte_bit m i =
    let e : i ≡ 8 * (i / 8) + i % 8 = omega arith in
    ap (λ (j : ℕ). get_or (bits_of m) j 0) e ∙ bits_by_at 8 m (i / 8) (i % 8) (mod-lt i (lit< tt))

pub lane_bit : (s : List ℕ) (i : ℕ) → get_or (bits_by 64 s) i 0 ≡ bit (get_or s (i / 64) 0) (i % 64)
lane_bit s i =
    let e : i ≡ 64 * (i / 64) + i % 64 = omega arith in
    ap (λ (j : ℕ). get_or (bits_by 64 s) j 0) e ∙ bits_by_at 64 s (i / 64) (i % 64) (mod-lt i (lit< tt))
