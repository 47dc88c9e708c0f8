-- Sets of numbers as words of bits.
use Rattle.std.specs.Prelude.{◌≡◌, ℕ, zero, suc, ◌+◌, ◌-◌, ◌*◌, ◌<◌, ◌/◌, ◌%◌, ◌^◌, min, Bool, cond, ◌&&◌, ◌||◌, List, [], ◌∷◌, ◌++◌, length, get_or, set, take, drop, replicate, eqb}
use Rattle.std.specs.Int.Bits.{bit_or, bit_and}

-- ── Members ──

-- Bit i of x is one.
unfoldable pub is_one : ℕ → ℕ → Bool
is_one x i = eqb (x / 2 ^ i % 2) 1

-- n is a member where bit n % 64 of word n / 64 is one. Past the end there is no member.
unfoldable pub member : List ℕ → ℕ → Bool
member s n = is_one (get_or s (n / 64) 0) (n % 64)

-- The bits of x tell which of the 64 numbers from i * 64 on have p.
abbrev pub IsWord : (ℕ → Bool) → ℕ → ℕ → Type 0
IsWord p i x = (j : ℕ) → j < 64 → p (i * 64 + j) ≡ is_one x j

-- n is a member of both, of either.
abbrev pub in_both : List ℕ → List ℕ → ℕ → Bool
in_both a b n = member a n && member b n

abbrev pub in_either : List ℕ → List ℕ → ℕ → Bool
in_either a b n = member a n || member b n

-- ── Updates ──

-- The set with n. Past the end nothing changes.
unfoldable pub with_member : List ℕ → ℕ → List ℕ
with_member s n = set s (n / 64) (bit_or (get_or s (n / 64) 0) (2 ^ (n % 64)))

-- The set without n.
unfoldable pub without : List ℕ → ℕ → List ℕ
without s n = set s (n / 64) (bit_and (get_or s (n / 64) 0) ((2 ^ 64 - 1) - 2 ^ (n % 64)))

-- Each word of s with the word of o at the same place, which is 0 past o's end.
unfoldable pub words_with : (ℕ → ℕ → ℕ) → List ℕ → List ℕ → List ℕ
words_with f [] o = []
words_with f (x ∷ s) [] = f x 0 ∷ words_with f s []
words_with f (x ∷ s) (y ∷ o) = f x y ∷ words_with f s o

-- The set with the members of o, as far as it reaches; the set with only those members that o has too.
abbrev pub joined : List ℕ → List ℕ → List ℕ
joined = words_with bit_or

abbrev pub met : List ℕ → List ℕ → List ℕ
met = words_with bit_and

-- The set of no number, in as many words.
abbrev pub cleared : List ℕ → List ℕ
cleared s = replicate (length s) 0

-- ── Counts and lists, of the numbers that have a property ──

-- How many numbers below m have p.
unfoldable pub count_below : (ℕ → Bool) → ℕ → ℕ
count_below p zero = 0
count_below p (suc m) = count_below p m + cond (p m) 1 0

-- The numbers below m that have p, in ascending order.
unfoldable pub members : (ℕ → Bool) → ℕ → List ℕ
members p zero = []
members p (suc m) = members p m ++ cond (p m) (m ∷ []) []

-- The first of the k numbers from n on that has p; n + k where none has.
unfoldable pub next_from : (ℕ → Bool) → ℕ → ℕ → ℕ
next_from p n zero = n
next_from p n (suc k) = cond (p n) n (next_from p (n + 1) k)

-- Sets are counted and listed as far as this: the numbers that a u16 holds, in so many words.
abbrev pub numbers : ℕ
numbers = 65536

abbrev pub words : ℕ
words = 1024

-- The members of s below m, and below `numbers`.
abbrev pub listed : List ℕ → ℕ → List ℕ
listed s m = members (member s) (min m numbers)

-- xs put into out from its start on, as many as it holds; the rest of out is as it was.
abbrev pub placed : List ℕ → List ℕ → List ℕ
placed xs out = take (length out) xs ++ drop (length xs) out
