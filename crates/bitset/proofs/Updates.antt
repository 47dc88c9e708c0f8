-- How the code of `has`, `add`, `remove`, `clear`, `join` and `meet` goes with the definitions: a law for each way through it. Assumes nothing.
use Rattle.std.proofs.Common.{◌≡◌, refl, sym, ap, ap₂, ◌∙◌, List, [], ◌∷◌, ◌++◌, append-nil, ℕ, zero, suc, ◌+◌, ◌-◌, ◌*◌, ◌/◌, ◌%◌, ◌^◌, ◌≤◌, ◌<◌, min, not-suc-le-zero, le_of_suc-le-suc, add-one, arith, bit_and, bit_or, eqb, length, get_or, take, drop, set, replicate, drop_of_length-le, length-drop, length-take-le, take_at, drop_at, take_all, Option, Some, None, Bool, false, MatchOption, option_map, unwrap_or, Bor}
use Rattle.std.proofs.lemmas.Nat.{and_mask}
use Rattle.std.specs.Int.Bits.{or_zero_r, and_zero_r}
use Rattle.bitset.specs.Sets.{is_one, member, with_member, without, words_with, joined, met, cleared}
use Rattle.bitset.specs.Bit.{shifted_mark, zero_one}
use Rattle.bitset.specs.Words.{length_words}

-- ── One number ──

module _ (s : List ℕ) (n : ℕ) where
  pub has_is : eqb (bit_and (get_or s (n / 64) 0 / 2 ^ (n % 64)) 1) 1 ≡ member s n
  unfolding member is_one
  has_is = ap (λ (x : ℕ). eqb x 1) (and_mask (get_or s (n / 64) 0 / 2 ^ (n % 64)) 1)

  -- r is what `get` gives, and past the end the word counts as 0
  pub has_get : (r : Option (Bor ℕ)) (b : Bool) → ((d : ℕ) → unwrap_or (option_map (λ x. x.now) r) d ≡ get_or s (n / 64) d)
      → MatchOption r (b ≡ false) (λ x. b ≡ eqb (bit_and (x.now / 2 ^ (n % 64)) 1) 1) → b ≡ member s n
  unfolding member
  has_get None b w e = e ∙ sym (ap (λ (x : ℕ). is_one x (n % 64)) (sym (w 0)) ∙ zero_one (n % 64))
  has_get (Some x) b w e = e ∙ ap (λ (y : ℕ). eqb (bit_and (y / 2 ^ (n % 64)) 1) 1) (w 0) ∙ has_is

  mark : 1 * 2 ^ (n % 64) % 2 ^ 64 ≡ 2 ^ (n % 64)
  mark = shifted_mark (n % 64) (omega arith)

  pub add_is : set s (n / 64) (bit_or (get_or s (n / 64) 0) (1 * 2 ^ (n % 64) % 2 ^ 64)) ≡ with_member s n
  unfolding with_member
  add_is = ap (λ (x : ℕ). set s (n / 64) (bit_or (get_or s (n / 64) 0) x)) mark

  pub remove_is : set s (n / 64) (bit_and (get_or s (n / 64) 0) ((2 ^ 64 - 1) - 1 * 2 ^ (n % 64) % 2 ^ 64)) ≡ without s n
  unfolding without
  remove_is = ap (λ (x : ℕ). set s (n / 64) (bit_and (get_or s (n / 64) 0) ((2 ^ 64 - 1) - x))) mark

-- ── All words: the first i of d are done ──

module _ (f : ℕ → ℕ → ℕ) where
  abbrev pub done : List ℕ → List ℕ → ℕ → List ℕ
  done d o i = take i (words_with f d o) ++ drop i d

  step : (d o : List ℕ) (i : ℕ) → i < length d → set (done d o i) i (f (get_or (done d o i) i 0) (get_or o i 0)) ≡ done d o (suc i)
  unfolding words_with
  step [] o i h = absurd (not-suc-le-zero h)
  step (x ∷ d) [] zero h = refl
  step (x ∷ d) [] (suc i) h = ap (λ (l : List ℕ). f x 0 ∷ l) (step d [] i (le_of_suc-le-suc h))
  step (x ∷ d) (y ∷ o) zero h = refl
  step (x ∷ d) (y ∷ o) (suc i) h = ap (λ (l : List ℕ). f x y ∷ l) (step d o i (le_of_suc-le-suc h))

  pub done_next : (d o l : List ℕ) (i : ℕ) → l ≡ done d o i → i < length d → set l i (f (get_or l i 0) (get_or o i 0)) ≡ done d o (i + 1)
  done_next d o l i e h = ap (λ (k : List ℕ). set k i (f (get_or k i 0) (get_or o i 0))) e ∙ step d o i h ∙ ap (done d o) (sym (add-one i))

  -- past o's end each word goes with 0
  rest : (d o : List ℕ) (n : ℕ) → n ≡ min (length d) (length o) → take n (words_with f d o) ++ words_with f (drop n d) [] ≡ words_with f d o
  unfolding words_with
  rest [] o n e = let z : n ≡ 0 = omega arith in rw z
  rest (x ∷ d) [] n e = let z : n ≡ 0 = omega arith in rw z
  rest (x ∷ d) (y ∷ o) zero e = absurd (omega arith)
  rest (x ∷ d) (y ∷ o) (suc n) e = ap (λ (l : List ℕ). f x y ∷ l) (rest d o n (omega arith))

or_none : (d : List ℕ) → words_with bit_or d [] ≡ d
unfolding words_with
or_none [] = refl
or_none (x ∷ d) = ap₂ (λ (y : ℕ) (l : List ℕ). y ∷ l) (or_zero_r x) (or_none d)

and_none : (d : List ℕ) → words_with bit_and d [] ≡ replicate (length d) 0
unfolding words_with
and_none [] = refl
and_none (x ∷ d) = ap₂ (λ (y : ℕ) (l : List ℕ). y ∷ l) (and_zero_r x) (and_none d)

pub join_end : (d o l : List ℕ) (i n : ℕ) → n ≡ min (length d) (length o) → l ≡ done bit_or d o i → i ≡ n → l ≡ joined d o
join_end d o l i n e h g =
    h ∙ ap (done bit_or d o) g ∙ ap (λ (k : List ℕ). take n (joined d o) ++ k) (sym (or_none (drop n d))) ∙ rest bit_or d o n e

-- y is what zeros leave of the words from n on
pub meet_end : (d o l y : List ℕ) (i n : ℕ) → n ≡ min (length d) (length o) → l ≡ done bit_and d o i
    → y ≡ cleared (take (length l - n) (drop n l)) → i ≡ n → take n l ++ (y ++ drop (length l - n) (drop n l)) ≡ met d o
meet_end d o l y i n e h z g =
    let h' : l ≡ done bit_and d o n = h ∙ ap (done bit_and d o) g in
    let t = take n (met d o) in
    let len : length t ≡ n = length-take-le n (met d o) (rw length_words (omega arith)) in
    let first : take n l ≡ t = ap (take n) h' ∙ take_at t (drop n d) n len in
    let others : drop n l ≡ drop n d = ap (drop n) h' ∙ drop_at t (drop n d) n len in
    let k : length (drop n d) ≤ length l - n = rw (sym (ap length others)) (omega (arith, length-drop n l)) in
    let y' : y ≡ words_with bit_and (drop n d) [] = z ∙ ap (λ (r : List ℕ). cleared (take (length l - n) r)) others ∙ ap cleared (take_all (length l - n) (drop n d) k) ∙ sym (and_none (drop n d)) in
    ap₂ (λ (a b : List ℕ). a ++ (y ++ b)) first (ap (drop (length l - n)) others ∙ drop_of_length-le (drop n d) k)
    ∙ ap (λ (r : List ℕ). t ++ r) (append-nil y ∙ y') ∙ rest bit_and d o n e
