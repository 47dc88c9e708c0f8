-- How the counts of the code go with the definitions. Assumes nothing.
use Rattle.std.specs.Prelude.{◌≡◌, Bool, ◌&&◌, ◌||◌, List, ℕ, ◌+◌, ◌-◌, ◌*◌, ◌^◌, ◌≤◌, ◌<◌, min, max, length, get_or, ◌⊎◌}
use Rattle.std.proofs.Common.{sym, ap, ap₂, ◌∙◌, ⊎_elim, arith}
use Rattle.std.proofs.Math.Bool.{or-false, and-false}
use Rattle.std.specs.Int.Count.{ones}
use Rattle.bitset.specs.Cases.{lt_or_le}
use Rattle.bitset.specs.Sets.{IsWord, is_one, member, in_both, in_either, count_below, numbers, words}
use Rattle.bitset.specs.Bit.{ones_count}
use Rattle.bitset.specs.Counts.{None, count_add, count_more}
use Rattle.bitset.specs.Words.{member_at, member_past, none_either, count_word}

-- one word more is counted
pub counted_more : (p : ℕ → Bool) (i x t : ℕ) → x < 2 ^ 64 → IsWord p i x → t ≡ count_below p (i * 64) → t + ones x ≡ count_below p ((i + 1) * 64)
counted_more p i x t fits bits e = omega (arith, ones_count 64 x fits, count_word p i x bits)

all_counted : (p : ℕ → Bool) (w : ℕ) → None p (w * 64) numbers → w ≤ words → count_below p (w * 64) ≡ count_below p numbers
all_counted p w none h = sym (count_more p (w * 64) numbers (omega arith) none)

pub set_counted : (s : List ℕ) (w r : ℕ) → w ≡ min (length s) words → r ≡ count_below (member s) (w * 64) → r ≡ count_below (member s) numbers
set_counted s w r e h = h ∙ all_counted (member s) w (λ n g l. member_past s n (omega arith)) (omega arith)

pub shared_counted : (a b : List ℕ) (u w r : ℕ) → u ≡ min (length a) (length b) → w ≡ min u words → r ≡ count_below (in_both a b) (w * 64)
    → r ≡ count_below (in_both a b) numbers
shared_counted a b u w r eu ew h =
    h
    ∙ all_counted (in_both a b) w
    (λ n f l.
    ⊎_elim
    (λ (g : n < length a * 64). ap (λ (y : Bool). member a n && y) (member_past b n (omega arith)) ∙ and-false (member a n))
    (λ (g : length a * 64 ≤ n). ap (λ (x : Bool). x && member b n) (member_past a n g))
    (lt_or_le n (length a * 64)))
    (omega arith)

-- the words that both have, u of them, then those that the longer one has alone, up to w
module _ (a b longer : List ℕ) (is : ((length a < length b) × (longer ≡ b)) ⊎ ((length b ≤ length a) × (longer ≡ a))) where
  pub longer_at : (u i : ℕ) → min (length a) (length b) ≤ u → IsWord (λ k. in_either a b (u * 64 + k)) i (get_or longer (u + i) 0)
  longer_at u i h j k =
      let n = (u + i) * 64 + j in
      let e : u * 64 + (i * 64 + j) ≡ n = omega arith in
      ap (in_either a b) e
      ∙ ⊎_elim
      (λ (s : (length a < length b) × (longer ≡ b)).
      rw s.1 (ap₂ (λ (x y : Bool). x || y) (member_past a n (omega arith)) (member_at b (u + i) j k)))
      (λ (s : (length b ≤ length a) × (longer ≡ a)).
      rw s.1 (ap₂ (λ (x y : Bool). x || y) (member_at a (u + i) j k) (member_past b n (omega arith)) ∙ or-false (is_one (get_or a (u + i) 0) j)))
      is

  longer_length : length longer ≡ max (length a) (length b)
  longer_length =
      ⊎_elim
      (λ (s : (length a < length b) × (longer ≡ b)). rw s.1 (omega arith))
      (λ (s : (length b ≤ length a) × (longer ≡ a)). rw s.1 (omega arith))
      is

  pub joined_counted : (m u v w x y : ℕ) → m ≡ min (length a) (length b) → u ≡ min m words → v ≡ min (length longer) words → w ≡ v - u
      → x ≡ count_below (in_either a b) (u * 64) → y ≡ count_below (λ k. in_either a b (u * 64 + k)) (w * 64)
      → x + y ≡ count_below (in_either a b) numbers
  joined_counted m u v w x y em eu ev ew ex ey =
      let l = longer_length in
      let e : u * 64 + w * 64 ≡ v * 64 = omega arith in
      ap₂ (λ (m n : ℕ). m + n) ex ey ∙ sym (count_add (in_either a b) (u * 64) (w * 64)) ∙ ap (count_below (in_either a b)) e
      ∙ all_counted (in_either a b) v (λ n g h. none_either a b (length longer * 64) numbers (omega arith) (omega arith) n (omega arith) h) (omega arith)
