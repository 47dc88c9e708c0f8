-- Laws of the byte-wise sponge: parts one after the other, blocks, and lanes.
use Rattle.std.specs.Prelude.{◌≡◌, refl, Bool, cond, List, [], ◌∷◌, ◌++◌, ℕ, zero, suc, ◌+◌, ◌*◌, ◌/◌, ◌%◌, ◌^◌, ◌≤◌, ◌<◌, length, get_or, set, take, drop, replicate}
use Rattle.std.proofs.Common.{sym, ap, ap₂, subst, ◌∙◌, ⊎_elim, mod-eq_of_lt, mod-lt, eq-or-lt_of_le, add-zero, zero-mul, mul_assoc, add-mul, add-one, arith, eq-eqb, ne_eqb, pow_pos, pow-add, shl_lt, lit<, length-drop, take-suc, take-add, drop-drop, set-set, get_or-set_same, length-take-le, get_or-take, get_or-drop, drop-cons, drop_of_length-le}
use Rattle.std.specs.Int.{from_le_bytes, w64}
use Rattle.std.specs.Int.Bits.{bit_xor, xor_shifted, xor_zero_r}
use Rattle.std.specs.Simd.{first_chunks}
use Rattle.std.proofs.lemmas.Nat.{xor_comm}
use Rattle.std.proofs.Math.Seq.{set_out}
use Rattle.std.proofs.lemmas.List.{set-get_or}
use Rattle.keccak.specs.Lanes.{lane, permuted}
use Rattle.keccak.specs.Bit.{xor_assoc, below_or_not}
use Rattle.sha3.specs.declared.Hasher.{Hasher}
use Rattle.sha3.specs.Hash.{plus_lane, plus_byte, plus_bytes, holding, take_byte, take_bytes, within, taken, after, digest, sha3}

-- a hasher of these lanes, at this place
abbrev pub of : List ℕ → ℕ → Hasher
of s p = record { lanes = s; at = p }

-- a block is full or not
pub holding_full : (s : List ℕ) (p : ℕ) → p ≡ 136 → holding s p ≡ of (permuted s) 0
unfolding holding
holding_full s p e = ap (λ (t : Bool). cond t (of (permuted s) 0) (of s p)) (eq-eqb p 136 e)

pub holding_part : (s : List ℕ) (p : ℕ) → p < 136 → holding s p ≡ of s p
unfolding holding
holding_part s p h = ap (λ (t : Bool). cond t (of (permuted s) 0) (of s p)) (ne_eqb p 136 (λ (e : p ≡ 136). omega arith))

holding_lt : (s : List ℕ) (p : ℕ) → p ≤ 136 → (holding s p).at < 136
holding_lt s p h =
    ⊎_elim (λ (e : p ≡ 136). subst (λ (x : Hasher). x.at < 136) (sym (holding_full s p e)) (lit< tt))
    (λ (l : p < 136). subst (λ (x : Hasher). x.at < 136) (sym (holding_part s p l)) l) (eq-or-lt_of_le h)

-- parts one after the other
pub take_bytes_append : (h : Hasher) (a b : List ℕ) → take_bytes h (a ++ b) ≡ take_bytes (take_bytes h a) b
unfolding take_bytes
take_bytes_append h [] b = refl
take_bytes_append h (x ∷ a) b = take_bytes_append (take_byte h x) a b

pub take_bytes_lt : (h : Hasher) (m : List ℕ) → h.at < 136 → (take_bytes h m).at < 136
unfolding take_bytes take_byte
take_bytes_lt h [] l = l
take_bytes_lt h (b ∷ m) l = take_bytes_lt (take_byte h b) m (holding_lt (plus_byte h.lanes h.at b) (suc h.at) l)

pub after_lt : (m : List ℕ) → (after m).at < 136
unfolding after
after_lt m = take_bytes_lt (of (replicate 25 0) 0) m (lit< tt)

within_same : (h : Hasher) → h.at < 136 → within h ≡ h
within_same h l = ap (of h.lanes) (mod-eq_of_lt l)

take_after : (m p : List ℕ) → take_bytes (after m) p ≡ after (m ++ p)
unfolding after
take_after m p = sym (take_bytes_append (of (replicate 25 0) 0) m p)

pub after_more : (h : Hasher) (m p : List ℕ) → h ≡ after m → taken h p ≡ after (m ++ p)
unfolding taken
after_more h m p e =
    ap (λ (x : Hasher). taken x p) e ∙ ap (λ (x : Hasher). take_bytes x p) (within_same (after m) (after_lt m)) ∙ take_after m p

pub digest_after : (h : Hasher) (m : List ℕ) → h ≡ after m → digest h ≡ sha3 m
unfolding sha3
digest_after h m e = ap digest e

-- bytes that do not go past the end of a block
pub take_bytes_block : (m s : List ℕ) (p : ℕ) → p < 136 → p + length m ≤ 136 → take_bytes (of s p) m ≡ holding (plus_bytes s p m) (p + length m)
unfolding take_bytes take_byte plus_bytes
take_bytes_block [] s p h l = sym (ap (holding s) (add-zero p) ∙ holding_part s p h)
take_bytes_block (b ∷ []) s p h l = let e : suc p ≡ p + 1 = omega arith in ap (holding (plus_byte s p b)) e
take_bytes_block (b ∷ (c ∷ m)) s p h l =
    let e : suc p + length (c ∷ m) ≡ p + length (b ∷ (c ∷ m)) = omega arith in
    ap (λ (x : Hasher). take_bytes x (c ∷ m)) (holding_part (plus_byte s p b) (suc p) (omega arith))
    ∙ take_bytes_block (c ∷ m) (plus_byte s p b) (suc p) (omega arith) (omega arith)
    ∙ ap (holding (plus_bytes (plus_byte s p b) (suc p) (c ∷ m))) e

pub plus_bytes_append : (a b s : List ℕ) (p : ℕ) → plus_bytes s p (a ++ b) ≡ plus_bytes (plus_bytes s p a) (p + length a) b
unfolding plus_bytes
plus_bytes_append [] b s p = ap (λ (q : ℕ). plus_bytes s q b) (sym (add-zero p))
plus_bytes_append (x ∷ a) b s p =
    let e : suc p + length a ≡ p + suc (length a) = omega arith in
    plus_bytes_append a b (plus_byte s p x) (suc p) ∙ ap (λ (q : ℕ). plus_bytes (plus_bytes (plus_byte s p x) (suc p) a) q b) e

-- a bytes of a part, and then b more
pub plus_bytes_then : (s m : List ℕ) (p from a b : ℕ) → from + a ≤ length m
    → plus_bytes (plus_bytes s p (take a (drop from m))) (p + a) (take b (drop (from + a) m)) ≡ plus_bytes s p (take (a + b) (drop from m))
plus_bytes_then s m p from a b h =
    let l : List ℕ = drop from m in
    let n : length (take a l) ≡ a = length-take-le a l (omega (arith, length-drop from m)) in
    ap (λ (x : List ℕ). plus_bytes (plus_bytes s p (take a l)) (p + a) (take b x)) (sym (drop-drop a from m))
    ∙ ap (λ (k : ℕ). plus_bytes (plus_bytes s p (take a l)) (p + k) (take b (drop a l))) (sym n)
    ∙ sym (plus_bytes_append (take a l) (take b (drop a l)) s p)
    ∙ ap (plus_bytes s p) (sym (take-add a b l))

pub plus_bytes_one : (s m : List ℕ) (p i : ℕ) → i < length m → plus_bytes s p (take (i + 1) m) ≡ plus_byte (plus_bytes s p (take i m)) (p + i) (get_or m i 0)
unfolding plus_bytes
plus_bytes_one s m p i h =
    let l : length (take i m) ≡ i = length-take-le i m (omega arith) in
    ap (plus_bytes s p) (ap (λ (n : ℕ). take n m) (add-one i) ∙ take-suc m i 0 h)
    ∙ plus_bytes_append (take i m) (get_or m i 0 ∷ []) s p
    ∙ ap (λ (n : ℕ). plus_byte (plus_bytes s p (take i m)) (p + n) (get_or m i 0)) l

-- n bytes more of a part, where the first i are taken in and p bytes stand in the block
pub take_more : (h : Hasher) (part s added : List ℕ) (p i n : ℕ) → p < 136 → p + n ≤ 136 → i + n ≤ length part → of s p ≡ take_bytes h (take i part)
    → added ≡ plus_bytes s p (take n (drop i part)) → holding added (p + n) ≡ take_bytes h (take (i + n) part)
take_more h part s added p i n hp hn hi e ea =
    let m : List ℕ = take n (drop i part) in
    let l : length m ≡ n = length-take-le n (drop i part) (omega (arith, length-drop i part)) in
    ap₂ (λ (x : List ℕ) (k : ℕ). holding x (p + k)) ea (sym l)
    ∙ sym (take_bytes_block m s p hp (omega arith))
    ∙ ap (λ (x : Hasher). take_bytes x m) e
    ∙ sym (take_bytes_append h (take i part) m)
    ∙ ap (take_bytes h) (sym (take-add i n part))

-- adding to a lane twice, and adding nothing
plus_lane_twice : (s : List ℕ) (k u v : ℕ) → plus_lane (plus_lane s k u) k v ≡ plus_lane s k (bit_xor u v)
unfolding plus_lane
plus_lane_twice s k u v =
    set-set s k (bit_xor (lane s k) u) (bit_xor (lane (set s k (bit_xor (lane s k) u)) k) v)
    ∙ ⊎_elim
    (λ (h : k < length s).
    ap (λ (x : ℕ). set s k (bit_xor x v)) (get_or-set_same s k (bit_xor (lane s k) u) 0 h) ∙ ap (set s k) (xor_assoc (lane s k) u v))
    (λ (h : length s ≤ k). set_out s k _ h ∙ sym (set_out s k _ h))
    (below_or_not k (length s))

plus_lane_none : (s : List ℕ) (k : ℕ) → plus_lane s k 0 ≡ s
unfolding plus_lane
plus_lane_none s k = ap (set s k) (xor_zero_r (lane s k)) ∙ set-get_or s k 0

-- Bytes of one lane make a number, the lowest first.
unfoldable pub number : List ℕ → ℕ
number [] = 0
number (b ∷ m) = number m * 2 ^ 8 + b % 2 ^ 8

shifted : (m : List ℕ) (b j : ℕ) → bit_xor (b % 2 ^ 8 * 2 ^ (8 * j)) (number m * 2 ^ (8 * suc j)) ≡ number (b ∷ m) * 2 ^ (8 * j)
unfolding number
shifted m b j =
    let e : 2 ^ (8 * suc j) ≡ 2 ^ 8 * 2 ^ (8 * j) = ap (λ (n : ℕ). 2 ^ n) (omega arith) ∙ pow-add 2 8 (8 * j) in
    let small : b % 2 ^ 8 * 2 ^ (8 * j) < 2 ^ (8 * suc j) =
    subst (λ (n : ℕ). b % 2 ^ 8 * 2 ^ (8 * j) < 2 ^ n) (omega arith) (shl_lt 8 (8 * j) (mod-lt b (pow_pos 8)))
    in
    xor_comm (b % 2 ^ 8 * 2 ^ (8 * j)) (number m * 2 ^ (8 * suc j))
    ∙ xor_shifted (number m) (8 * suc j) (b % 2 ^ 8 * 2 ^ (8 * j)) small
    ∙ ap (λ (n : ℕ). number m * n + b % 2 ^ 8 * 2 ^ (8 * j)) e
    ∙ ap (λ (n : ℕ). n + b % 2 ^ 8 * 2 ^ (8 * j)) (sym (mul_assoc (number m) (2 ^ 8) (2 ^ (8 * j))))
    ∙ sym (add-mul (number m * 2 ^ 8) (b % 2 ^ 8) (2 ^ (8 * j)))

in_lane : (m s : List ℕ) (k j : ℕ) → j + length m ≤ 8 → plus_bytes s (8 * k + j) m ≡ plus_lane s k (number m * 2 ^ (8 * j))
unfolding plus_bytes plus_byte number
in_lane [] s k j h = sym (ap (plus_lane s k) (zero-mul (2 ^ (8 * j))) ∙ plus_lane_none s k)
in_lane (b ∷ m) s k j h =
    let d : (8 * k + j) / 8 ≡ k = omega arith in
    let r : (8 * k + j) % 8 ≡ j = omega arith in
    let n : suc (8 * k + j) ≡ 8 * k + suc j = omega arith in
    (λ i. plus_bytes (plus_lane s (d i) (b % 2 ^ 8 * 2 ^ (8 * r i))) (n i) m)
    ∙ in_lane m (plus_lane s k (b % 2 ^ 8 * 2 ^ (8 * j))) k (suc j) (omega arith)
    ∙ plus_lane_twice s k (b % 2 ^ 8 * 2 ^ (8 * j)) (number m * 2 ^ (8 * suc j))
    ∙ ap (plus_lane s k) (shifted m b j)

-- the eight bytes of a whole lane
pub plus_bytes_lane : (s m : List ℕ) (p : ℕ) → p % 8 ≡ 0 → length m ≡ 8 → plus_bytes s p m ≡ plus_lane s (p / 8) (number m)
plus_bytes_lane s m p a l =
    let e : p ≡ 8 * (p / 8) + 0 = omega arith in
    let o : number m * 2 ^ (8 * 0) ≡ number m = omega arith in
    ap (λ (q : ℕ). plus_bytes s q m) e ∙ in_lane m s (p / 8) 0 (omega arith) ∙ ap (plus_lane s (p / 8)) o

-- the library's number of eight bytes
number_from : (m : List ℕ) (i : ℕ) → i < length m → get_or m i 0 < 2 ^ 8 → number (drop i m) ≡ number (drop (i + 1) m) * 2 ^ 8 + get_or m i 0
unfolding number
number_from m i h b =
    ap number (drop-cons m i 0 h)
    ∙ ap (λ (v : ℕ). number (drop (suc i) m) * 2 ^ 8 + v) (mod-eq_of_lt b)
    ∙ ap (λ (j : ℕ). number (drop j m) * 2 ^ 8 + get_or m i 0) (sym (add-one i))

number_end : (m : List ℕ) → length m ≡ 8 → number (drop 8 m) ≡ 0
unfolding number
number_end m h =
    let l : length m ≤ 8 = omega arith in
    ap number (drop_of_length-le m l)

number_le : (m : List ℕ) → length m ≡ 8 → ((k : ℕ) → k < 8 → get_or m k 0 < 2 ^ 8) → from_le_bytes w64 m ≡ number m
number_le m h b =
    let n = λ (i : ℕ) (l : i < 8). number_from m i (omega arith) (b i l) in
    omega (arith, n 0 (lit< tt), n 1 (lit< tt), n 2 (lit< tt), n 3 (lit< tt), n 4 (lit< tt), n 5 (lit< tt), n 6 (lit< tt), n 7 (lit< tt), number_end m h)

-- the library's words of eight bytes
word_at : (k i : ℕ) (m : List ℕ) → i < k → get_or (first_chunks 8 k m) i [] ≡ take 8 (drop (8 * i) m)
word_at zero i m h = absurd (omega arith)
word_at (suc k) zero m h = refl
word_at (suc k) (suc i) m h =
    let e : 8 + 8 * i ≡ 8 * suc i = omega arith in
    word_at k i (drop 8 m) (omega arith) ∙ ap (take 8) (drop-drop (8 * i) 8 m) ∙ ap (λ (n : ℕ). take 8 (drop n m)) e

pub word_le : (k i : ℕ) (m : List ℕ) → i < k → 8 * k ≤ length m → ((j : ℕ) → get_or m j 0 < 2 ^ 8)
    → from_le_bytes w64 (get_or (first_chunks 8 k m) i []) ≡ number (take 8 (drop (8 * i) m))
word_le k i m h l b =
    let w : List ℕ = take 8 (drop (8 * i) m) in
    let lw : length w ≡ 8 = length-take-le 8 (drop (8 * i) m) (omega (arith, length-drop (8 * i) m)) in
    ap (from_le_bytes w64) (word_at k i m h)
    ∙ number_le w lw
    (λ j g. subst (λ (v : ℕ). v < 2 ^ 8) (sym (get_or-take 8 (drop (8 * i) m) j 0 g ∙ get_or-drop (8 * i) m j 0)) (b (8 * i + j)))

-- a word more
pub plus_bytes_word : (s m : List ℕ) (p i : ℕ) → p % 8 ≡ 0 → 8 * i + 8 ≤ length m
    → plus_bytes s p (take (8 * (i + 1)) m) ≡ plus_lane (plus_bytes s p (take (8 * i) m)) (p / 8 + i) (number (take 8 (drop (8 * i) m)))
plus_bytes_word s m p i a h =
    let t : List ℕ = take (8 * i) m in
    let w : List ℕ = take 8 (drop (8 * i) m) in
    let e : 8 * (i + 1) ≡ 8 * i + 8 = omega arith in
    let l : length t ≡ 8 * i = length-take-le (8 * i) m (omega arith) in
    let lw : length w ≡ 8 = length-take-le 8 (drop (8 * i) m) (omega (arith, length-drop (8 * i) m)) in
    let k : (p + 8 * i) / 8 ≡ p / 8 + i = omega arith in
    ap (λ (n : ℕ). plus_bytes s p (take n m)) e
    ∙ ap (plus_bytes s p) (take-add (8 * i) 8 m)
    ∙ plus_bytes_append t w s p
    ∙ ap (λ (n : ℕ). plus_bytes (plus_bytes s p t) (p + n) w) l
    ∙ plus_bytes_lane (plus_bytes s p t) w (p + 8 * i) (omega arith) lw
    ∙ ap (λ (n : ℕ). plus_lane (plus_bytes s p t) n (number w)) k
