-- FIPS 202, "SHA-3 Standard" (NIST, August 2015): SHA3-256 on strings of bits, section by section. It leans on no other file of ours.
use Rattle.std.specs.Prelude.{ℕ, zero, suc, ◌+◌, ◌-◌, ◌*◌, ◌/◌, ◌%◌, ◌^◌, cond, ◌&&◌, List, [], ◌∷◌, ◌++◌, eqb, length, get_or, set, take, drop, replicate}

-- 2.3 A bit is 0 or 1, and a string of bits is a list. The standard's len(X) is `length X`, X[i] is `get_or X i 0`, X || Y is `X ++ Y`,
-- 0^s is `replicate s 0`, and Trunc_s(X) is `take s X`.
abbrev pub Bits : Type 0
Bits = List ℕ

-- X ⊕ Y: of two bits, and of two strings, bit by bit
infixl 65 ◌⊕◌
abbrev pub ◌⊕◌ : ℕ → ℕ → ℕ
a ⊕ b = (a + b) % 2

unfoldable pub xor : Bits → Bits → Bits
xor [] Y = []
xor (a ∷ X) [] = []
xor (a ∷ X) (b ∷ Y) = (a ⊕ b) ∷ xor X Y

-- f(a) || f(a + 1) || .., n in all
abbrev pub listed : ℕ → ℕ → (ℕ → ℕ) → Bits
listed zero a f = []
listed (suc n) a f = f a ∷ listed n (suc a) f

-- (n - k) mod m
abbrev pub back : ℕ → ℕ → ℕ → ℕ
back m n k = (n + (m - k % m)) % m

-- 3.1 The width b is 1600, so that w = b / 25 is 64 and l = log2(w) is 6. A state array has a bit A[x, y, z] for x and y below 5 and z below w.
abbrev pub b : ℕ
b = 1600

abbrev pub w : ℕ
w = 64

abbrev pub State : Type 0
State = ℕ → ℕ → ℕ → ℕ

-- 3.1.2 A string as a state array: A[x, y, z] = S[w(5y + x) + z]
unfoldable pub array : Bits → State
array S x y z = get_or S (w * (5 * y + x) + z) 0

-- 3.1.3 A state array as a string: Plane(0) || .. || Plane(4), a plane being Lane(0, j) || .. || Lane(4, j)
abbrev pub Lane : State → ℕ → ℕ → Bits
Lane A i j = listed w 0 (A i j)

abbrev pub Plane : State → ℕ → Bits
Plane A j = Lane A 0 j ++ Lane A 1 j ++ Lane A 2 j ++ Lane A 3 j ++ Lane A 4 j

unfoldable pub string : State → Bits
string A = Plane A 0 ++ Plane A 1 ++ Plane A 2 ++ Plane A 3 ++ Plane A 4

-- 3.2.1 θ, Algorithm 1
abbrev pub C : State → ℕ → ℕ → ℕ
C A x z = A x 0 z ⊕ A x 1 z ⊕ A x 2 z ⊕ A x 3 z ⊕ A x 4 z

abbrev pub D : State → ℕ → ℕ → ℕ
D A x z = C A (back 5 x 1) z ⊕ C A ((x + 1) % 5) (back w z 1)

unfoldable pub θ : State → State
θ A x y z = A x y z ⊕ D A x z

-- 3.2.2 ρ, Algorithm 2. Step t of its walk, from 0 to 23, moves the lane (u, v) by (t + 1)(t + 2) / 2 and goes on to the lane (v, (2u + 3v) mod 5).
-- How far the n steps from t on move the lane (x, y): 0 where they do not come to it.
abbrev pub moved : ℕ → ℕ → ℕ → ℕ → ℕ → ℕ → ℕ
moved zero t u v x y = 0
moved (suc n) t u v x y = cond (eqb u x && eqb v y) ((t + 1) * (t + 2) / 2) (moved n (t + 1) v ((2 * u + 3 * v) % 5) x y)

-- The walk begins at (1, 0), and never comes to (0, 0).
unfoldable pub offset : ℕ → ℕ → ℕ
offset x y = moved 24 0 1 0 x y

unfoldable pub ρ : State → State
ρ A x y z = A x y (back w z (offset x y))

-- 3.2.3 π, Algorithm 3
unfoldable pub π : State → State
π A x y z = A ((x + 3 * y) % 5) x z

-- 3.2.4 χ, Algorithm 4
unfoldable pub χ : State → State
χ A x y z = A x y z ⊕ (A ((x + 1) % 5) y z ⊕ 1) * A ((x + 2) % 5) y z

-- 3.2.5 rc(t), Algorithm 5: R[k] = R[k] ⊕ R[8]; a to f of its step 3; t mod 255 of these from R = 10000000
abbrev pub tap : ℕ → Bits → Bits
tap k R = set R k (get_or R k 0 ⊕ get_or R 8 0)

abbrev pub turn : Bits → Bits
turn R = take 8 (tap 6 (tap 5 (tap 4 (tap 0 (0 ∷ R)))))

abbrev pub turns : ℕ → Bits → Bits
turns zero R = R
turns (suc n) R = turns n (turn R)

unfoldable pub rc : ℕ → ℕ
rc t = get_or (turns (t % 255) (1 ∷ 0 ∷ 0 ∷ 0 ∷ 0 ∷ 0 ∷ 0 ∷ 0 ∷ [])) 0 0

-- 3.2.5 ι, Algorithm 6: RC is 0^w but for RC[2^j - 1] = rc(j + 7 i), j from 0 to l
abbrev pub constant : ℕ → ℕ → Bits
constant zero i = replicate w 0
constant (suc j) i = set (constant j i) (2 ^ j - 1) (rc (j + 7 * i))

unfoldable pub RC : ℕ → Bits
RC i = constant 7 i

unfoldable pub ι : State → ℕ → State
ι A i zero zero z = A 0 0 z ⊕ get_or (RC i) z 0
ι A i zero (suc y) z = A 0 (suc y) z
ι A i (suc x) y z = A (suc x) y z

-- 3.3 Rnd, and KECCAK-p[b, 24], Algorithm 7: the rounds 0 to 23
unfoldable pub Rnd : State → ℕ → State
Rnd A i = ι (χ (π (ρ (θ A)))) i

unfoldable pub rounds : ℕ → State → State
rounds zero A = A
rounds (suc n) A = Rnd (rounds n A) n

unfoldable pub keccak_p : Bits → Bits
keccak_p S = string (rounds 24 (array S))

-- 4 SPONGE[f, pad, r](N, d), Algorithm 8. Steps 4 to 6: S after the first n of the strings P_i, which are r bits each
unfoldable pub absorbed : (Bits → Bits) → ℕ → Bits → ℕ → Bits
absorbed f r P zero = replicate b 0
absorbed f r P (suc i) = f (xor (absorbed f r P i) (take r (drop (r * i) P) ++ replicate (b - r) 0))

-- Steps 7 to 10: Z = Trunc_r(S) || Trunc_r(f(S)) || .., n of them
unfoldable pub squeezed : (Bits → Bits) → ℕ → Bits → ℕ → Bits
squeezed f r S zero = []
squeezed f r S (suc n) = take r S ++ squeezed f r (f S) n

-- As many of these as give d bits
unfoldable pub SPONGE : (Bits → Bits) → (ℕ → ℕ → Bits) → ℕ → Bits → ℕ → Bits
SPONGE f pad r N d = let P = N ++ pad r (length N) in take d (squeezed f r (absorbed f r P (length P / r)) ((d + (r - 1)) / r))

-- 5.1 pad10*1(x, m), Algorithm 9, with j = (-m - 2) mod x
unfoldable pub pad10*1 : ℕ → ℕ → Bits
pad10*1 x m = 1 ∷ [] ++ replicate (back x 0 (m + 2)) 0 ++ 1 ∷ []

-- 5.2 KECCAK[c](N, d)
unfoldable pub KECCAK : ℕ → Bits → ℕ → Bits
KECCAK c N d = SPONGE keccak_p pad10*1 (b - c) N d

-- 6.1 SHA3-256(M) = KECCAK[512](M || 01, 256)
unfoldable pub sha3_256 : Bits → Bits
sha3_256 M = KECCAK 512 (M ++ 0 ∷ 1 ∷ []) 256

-- B.1 A byte h stands for its eight bits, the lowest first, and a string of bytes for theirs, byte after byte; so numbers of n bits each
abbrev pub bit : ℕ → ℕ → ℕ
bit h i = h / 2 ^ i % 2

unfoldable pub bits_by : ℕ → List ℕ → Bits
bits_by n [] = []
bits_by n (h ∷ H) = listed n 0 (bit h) ++ bits_by n H

abbrev pub bits_of : List ℕ → Bits
bits_of H = bits_by 8 H
