-- The members of a set after each update, and how words are counted. Assumes nothing.
use Rattle.std.specs.Prelude.{◌≡◌, Bool, not, ◌&&◌, ◌||◌, get_or, set}
use Rattle.std.proofs.Math.Path.{refl, ap}
use Rattle.std.proofs.Common.{sym, ap₂, ◌∙◌, not-suc-le-zero, le_of_suc-le-suc, arith, length-set, get_or-set_same, get_or-set_other}
use Rattle.std.proofs.Math.Bool.{true, false, or-false, or-true, and-true, and-false}
use Rattle.std.proofs.lemmas.Bool.{false≢true}
use mathlib.Core.List.{List, [], ◌∷◌}
use Rattle.std.proofs.Math.Logic.{⊎_elim}
use Prim.Native.Nat.{ℕ, zero, suc, ◌+◌, ◌-◌, ◌*◌, ◌/◌, ◌%◌, ◌^◌, ◌≤◌, ◌<◌}
use borrow.Author.Tests.{eqb-true, eqb-false, eq-eqb, ne_eqb}
use Rattle.std.proofs.Math.Arith.{digits_div, digits_mod}
use Rattle.std.specs.Int.Bits.{bit_and, bit_or}
use Rattle.std.proofs.Math.Dec.{eqb}
use Rattle.std.proofs.Math.ListN.{length, get_or-eq_default}
use Rattle.std.proofs.lemmas.List.{length-replicate, get_or-replicate}
use Rattle.std.proofs.Math.Pow.{pow-lt}
use Rattle.std.proofs.Math.Seq.{set_out}
use Rattle.bitset.specs.Cases.{lt_or_le, false_or_true}
use Rattle.bitset.specs.Sets.{is_one, member, IsWord, in_both, in_either, with_member, without, words_with, joined, met, cleared, count_below, numbers, words}
use Rattle.bitset.specs.Bit.{or_one, and_one, not_one, zero_one, pow_one}
use Rattle.bitset.specs.Counts.{None, count_same, count_add, count_more, count_new, count_mono}

-- ── Members by word ──

pub member_at : (s : List ℕ) (i j : ℕ) → j < 64 → member s (i * 64 + j) ≡ is_one (get_or s i 0) j
unfolding member
member_at s i j h = ap₂ (λ (a b : ℕ). is_one (get_or s a 0) b) (digits_div i h) (digits_mod i h)

pub member_past : (s : List ℕ) (n : ℕ) → length s * 64 ≤ n → member s n ≡ false
unfolding member
member_past s n h = ap (λ (x : ℕ). is_one x (n % 64)) (get_or-eq_default s 0 {n = n / 64} (omega arith)) ∙ zero_one (n % 64)

-- ── One number in or out ──

module _ (s : List ℕ) (n v : ℕ) where
  -- the word of n becomes v: n goes by v's bit
  put_same : n < length s * 64 → member (set s (n / 64) v) n ≡ is_one v (n % 64)
  unfolding member
  put_same h = ap (λ (x : ℕ). is_one x (n % 64)) (get_or-set_same s (n / 64) v 0 (omega arith))

  -- and where v's other bits are as they were, so is every other number
  put_other : ((i : ℕ) → i < 64 → (i ≡ n % 64 → ⊥) → is_one v i ≡ is_one (get_or s (n / 64) 0) i)
      → (m : ℕ) → (m ≡ n → ⊥) → member (set s (n / 64) v) m ≡ member s m
  unfolding member
  put_other same m d = by (eqb (m / 64) (n / 64)) refl
    where
      by : (b : Bool) → eqb (m / 64) (n / 64) ≡ b → is_one (get_or (set s (n / 64) v) (m / 64) 0) (m % 64) ≡ is_one (get_or s (m / 64) 0) (m % 64)
      by false e = ap (λ (x : ℕ). is_one x (m % 64)) (get_or-set_other s (n / 64) (m / 64) v 0 (eqb-false _ _ e))
      by true e =
          let w : m / 64 ≡ n / 64 = eqb-true (m / 64) (n / 64) e in
          let k : m % 64 ≡ n % 64 → ⊥ = λ g. d (omega arith) in
          ⊎_elim
          (λ (l : n / 64 < length s). rw w (ap (λ (x : ℕ). is_one x (m % 64)) (get_or-set_same s (n / 64) v 0 l) ∙ same (m % 64) (omega arith) k))
          (λ (l : length s ≤ n / 64). rw (set_out s (n / 64) v l))
          (lt_or_le (n / 64) (length s))

pub with_same : (s : List ℕ) (n : ℕ) → n < length s * 64 → member (with_member s n) n ≡ true
unfolding with_member
with_same s n h =
    let x = get_or s (n / 64) 0 in
    let k = n % 64 in
    put_same s n (bit_or x (2 ^ k)) h ∙ or_one x (2 ^ k) k
    ∙ ap (λ (b : Bool). is_one x k || b) (pow_one k k ∙ eq-eqb k k refl) ∙ or-true (is_one x k)

pub with_other : (s : List ℕ) (n m : ℕ) → (m ≡ n → ⊥) → member (with_member s n) m ≡ member s m
unfolding with_member
with_other s n m d =
    let x = get_or s (n / 64) 0 in
    let k = n % 64 in
    put_other s n (bit_or x (2 ^ k))
    (λ i h e. or_one x (2 ^ k) i ∙ ap (λ (b : Bool). is_one x i || b) (pow_one k i ∙ ne_eqb i k e) ∙ or-false (is_one x i)) m d

pub length_with : (s : List ℕ) (n : ℕ) → length (with_member s n) ≡ length s
unfolding with_member
length_with s n = length-set s _ _

pub without_same : (s : List ℕ) (n : ℕ) → member (without s n) n ≡ false
unfolding without
without_same s n =
    let x = get_or s (n / 64) 0 in
    let k = n % 64 in
    let v = bit_and x ((2 ^ 64 - 1) - 2 ^ k) in
    ⊎_elim
    (λ (h : n < length s * 64).
    put_same s n v h ∙ and_one x ((2 ^ 64 - 1) - 2 ^ k) k
    ∙ ap (λ (b : Bool). is_one x k && b) (not_one k 64 (2 ^ k) (omega arith) (pow-lt {j = 64} (omega arith)) ∙ ap not (pow_one k k ∙ eq-eqb k k refl))
    ∙ and-false (is_one x k))
    (λ (h : length s * 64 ≤ n). ap (λ (l : List ℕ). member l n) (set_out s (n / 64) v (omega arith)) ∙ member_past s n h)
    (lt_or_le n (length s * 64))

pub without_other : (s : List ℕ) (n m : ℕ) → (m ≡ n → ⊥) → member (without s n) m ≡ member s m
unfolding without
without_other s n m d =
    let x = get_or s (n / 64) 0 in
    let k = n % 64 in
    put_other s n (bit_and x ((2 ^ 64 - 1) - 2 ^ k))
    (λ i h e.
    and_one x ((2 ^ 64 - 1) - 2 ^ k) i
    ∙ ap (λ (b : Bool). is_one x i && b) (not_one i 64 (2 ^ k) h (pow-lt {j = 64} (omega arith)) ∙ ap not (pow_one k i ∙ ne_eqb i k e))
    ∙ and-true (is_one x i)) m d

pub length_without : (s : List ℕ) (n : ℕ) → length (without s n) ≡ length s
unfolding without
length_without s n = length-set s _ _

-- the set with n, the set without n, number by number
pub member_with : (s : List ℕ) (n m : ℕ) → n < length s * 64 → member (with_member s n) m ≡ (eqb m n || member s m)
member_with s n m h =
    ⊎_elim
    (λ (f : eqb m n ≡ false). with_other s n m (eqb-false m n f) ∙ ap (λ (b : Bool). b || member s m) (sym f))
    (λ (t : eqb m n ≡ true).
    ap (member (with_member s n)) (eqb-true m n t) ∙ with_same s n h ∙ ap (λ (b : Bool). b || member s m) (sym t))
    (false_or_true (eqb m n))

pub member_without : (s : List ℕ) (n m : ℕ) → member (without s n) m ≡ (not (eqb m n) && member s m)
member_without s n m =
    ⊎_elim
    (λ (f : eqb m n ≡ false). without_other s n m (eqb-false m n f) ∙ ap (λ (b : Bool). not b && member s m) (sym f))
    (λ (t : eqb m n ≡ true).
    ap (member (without s n)) (eqb-true m n t) ∙ without_same s n ∙ ap (λ (b : Bool). not b && member s m) (sym t))
    (false_or_true (eqb m n))

-- a new member counts one
pub count_with : (s : List ℕ) (n m : ℕ) → n < length s * 64 → n < m → member s n ≡ false
    → count_below (member (with_member s n)) m ≡ suc (count_below (member s) m)
count_with s n m h l f = count_new (member s) (member (with_member s n)) m n l f (with_same s n h) (λ k d. with_other s n k d)

-- ── All words ──

module _ (f : ℕ → ℕ → ℕ) where
  pub length_words : (s o : List ℕ) → length (words_with f s o) ≡ length s
  unfolding words_with
  length_words [] o = refl
  length_words (x ∷ s) [] = ap suc (length_words s [])
  length_words (x ∷ s) (y ∷ o) = ap suc (length_words s o)

  pub word_at : (s o : List ℕ) (i : ℕ) → i < length s → get_or (words_with f s o) i 0 ≡ f (get_or s i 0) (get_or o i 0)
  unfolding words_with
  word_at [] o i h = absurd (not-suc-le-zero h)
  word_at (x ∷ s) [] zero h = refl
  word_at (x ∷ s) [] (suc i) h = word_at s [] i (le_of_suc-le-suc h)
  word_at (x ∷ s) (y ∷ o) zero h = refl
  word_at (x ∷ s) (y ∷ o) (suc i) h = word_at s o i (le_of_suc-le-suc h)

pub member_joined : (s o : List ℕ) (n : ℕ) → n < length s * 64 → member (joined s o) n ≡ in_either s o n
unfolding member
member_joined s o n h =
    ap (λ (x : ℕ). is_one x (n % 64)) (word_at bit_or s o (n / 64) (omega arith)) ∙ or_one (get_or s (n / 64) 0) (get_or o (n / 64) 0) (n % 64)

pub member_met : (s o : List ℕ) (n : ℕ) → member (met s o) n ≡ in_both s o n
unfolding member
member_met s o n =
    ⊎_elim
    (λ (h : n < length s * 64).
    ap (λ (x : ℕ). is_one x (n % 64)) (word_at bit_and s o (n / 64) (omega arith)) ∙ and_one (get_or s (n / 64) 0) (get_or o (n / 64) 0) (n % 64))
    (λ (h : length s * 64 ≤ n).
    member_past (met s o) n (rw (length_words bit_and s o) h) ∙ ap (λ (b : Bool). b && member o n) (sym (member_past s n h)))
    (lt_or_le n (length s * 64))

pub member_cleared : (s : List ℕ) (n : ℕ) → member (cleared s) n ≡ false
unfolding member
member_cleared s n =
    ⊎_elim
    (λ (h : n / 64 < length s). ap (λ (x : ℕ). is_one x (n % 64)) (get_or-replicate (length s) (n / 64) 0 0 h) ∙ zero_one (n % 64))
    (λ (h : length s ≤ n / 64). member_past (cleared s) n (rw length-replicate (omega arith)))
    (lt_or_le (n / 64) (length s))

-- ── From the end of the words on ──

pub none_past : (s : List ℕ) (a b : ℕ) → length s * 64 ≤ a → None (member s) a b
none_past s a b h n g l = member_past s n (omega arith)

pub none_both : (s o : List ℕ) (a b : ℕ) → length s * 64 ≤ a → None (in_both s o) a b
none_both s o a b h n g l = ap (λ (x : Bool). x && member o n) (member_past s n (omega arith))

pub none_either : (s o : List ℕ) (a b : ℕ) → length s * 64 ≤ a → length o * 64 ≤ a → None (in_either s o) a b
none_either s o a b h k n g l = ap₂ (λ (x y : Bool). x || y) (member_past s n (omega arith)) (member_past o n (omega arith))

-- of a set that is not longer than is counted, all members are counted
pub count_whole : (s : List ℕ) → length s ≤ words → count_below (member s) numbers ≡ count_below (member s) (length s * 64)
count_whole s h = count_more (member s) (length s * 64) numbers (omega arith) (none_past s (length s * 64) numbers (omega arith))

-- what both have, either has
pub both_le_either : (s o : List ℕ) (m : ℕ) → count_below (in_both s o) m ≤ count_below (in_either s o) m
both_le_either s o m = count_mono (in_both s o) (in_either s o) m (λ n l. by (member s n) (member o n))
  where
    by : (x y : Bool) → (x && y) ≡ true → (x || y) ≡ true
    by true y e = refl
    by false y e = absurd (false≢true e)

-- ── Counted word by word ──

-- where the numbers from i * 64 on go by the bits of x, they add the ones of x
pub count_word : (p : ℕ → Bool) (i x : ℕ) → IsWord p i x → count_below p ((i + 1) * 64) ≡ count_below p (i * 64) + count_below (is_one x) 64
count_word p i x bits =
    let e : (i + 1) * 64 ≡ i * 64 + 64 = omega arith in
    ap (count_below p) e ∙ count_add p (i * 64) 64
    ∙ ap (λ (n : ℕ). count_below p (i * 64) + n) (count_same (λ n. p (i * 64 + n)) (is_one x) 64 bits)

pub word_members : (s : List ℕ) (i : ℕ) → count_below (member s) ((i + 1) * 64) ≡ count_below (member s) (i * 64) + count_below (is_one (get_or s i 0)) 64
word_members s i = count_word (member s) i (get_or s i 0) (member_at s i)

module _ (a b : List ℕ) (i : ℕ) where
  pub both_at : IsWord (in_both a b) i (bit_and (get_or a i 0) (get_or b i 0))
  both_at j h = ap₂ (λ (x y : Bool). x && y) (member_at a i j h) (member_at b i j h) ∙ sym (and_one (get_or a i 0) (get_or b i 0) j)

  pub either_at : IsWord (in_either a b) i (bit_or (get_or a i 0) (get_or b i 0))
  either_at j h = ap₂ (λ (x y : Bool). x || y) (member_at a i j h) (member_at b i j h) ∙ sym (or_one (get_or a i 0) (get_or b i 0) j)

  pub word_both : count_below (in_both a b) ((i + 1) * 64) ≡ count_below (in_both a b) (i * 64) + count_below (is_one (bit_and (get_or a i 0) (get_or b i 0))) 64
  word_both = count_word (in_both a b) i (bit_and (get_or a i 0) (get_or b i 0)) both_at

  pub word_either : count_below (in_either a b) ((i + 1) * 64) ≡ count_below (in_either a b) (i * 64) + count_below (is_one (bit_or (get_or a i 0) (get_or b i 0))) 64
  word_either = count_word (in_either a b) i (bit_or (get_or a i 0) (get_or b i 0)) either_at
