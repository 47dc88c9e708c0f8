-- How a text's pieces go with the place of the byte that parts them. Assumes nothing.
use Prim.Native.Nat.{ℕ, suc, zero-le, suc-le-suc, ◌-◌, ◌≤◌, ◌<◌}
use Rattle.std.specs.Prelude.{◌≡◌, Bool, true, false, None, length, take, drop, eqb, leb}
use Rattle.std.proofs.Math.Path.{refl}
use Rattle.std.proofs.Common.{ap, ◌∙◌, not-suc-le-zero, le_of_suc-le-suc, le_refl, length-drop, take_all, eqb-true}
use Rattle.std.proofs.Math.Bool.{and-false}
use mathlib.Core.List.{List, [], ◌∷◌}
use Rattle.std.proofs.Common.{one-add}
use Rattle.text.specs.Cases.{either}
use Rattle.text.specs.Numeral.{is_digit, all_digits, is_numeral, number_of, most_digits}
use Rattle.text.specs.Pieces.{newline, place_of, onto_first, pieces, all_but_last, finished}

-- the place of a byte in a list, by whether the first is it
pub index_hit : (b x : ℕ) (s : List ℕ) → eqb x b ≡ true → place_of b (x ∷ s) ≡ 0
index_hit b x s e = rw e

pub index_miss : (b x : ℕ) (s : List ℕ) → eqb x b ≡ false → place_of b (x ∷ s) ≡ suc (place_of b s)
index_miss b x s e = rw e (one-add (place_of b s))

-- a fact about a byte, from what holds where it is sep and where it is not
pub by_test : {A : Type 0} (x sep : ℕ) → (eqb x sep ≡ true → A) → (eqb x sep ≡ false → A) → A
by_test x sep hit miss = cases (eqb x sep) hit miss refl
  where
    cases : {A : Type 0} (t : Bool) → (eqb x sep ≡ true → A) → (eqb x sep ≡ false → A) → eqb x sep ≡ t → A
    cases true hit miss e = hit e
    cases false hit miss e = miss e

module _ (sep : ℕ) where
  pub index_most : (s : List ℕ) → place_of sep s ≤ length s
  index_most [] = zero-le
  index_most (x ∷ s) =
      by_test x sep (λ e. rw (index_hit sep x s e) zero-le) (λ e. rw (index_miss sep x s e) (suc-le-suc (index_most s)))

  pieces_hit : (x : ℕ) (s : List ℕ) → eqb x sep ≡ true → pieces sep (x ∷ s) ≡ [] ∷ pieces sep s
  unfolding pieces
  pieces_hit x s e = rw e

  pieces_miss : (x : ℕ) (s : List ℕ) → eqb x sep ≡ false → pieces sep (x ∷ s) ≡ onto_first x (pieces sep s)
  unfolding pieces
  pieces_miss x s e = rw e

  -- a text without the byte is one piece
  pub pieces_one : (s : List ℕ) → length s ≤ place_of sep s → pieces sep s ≡ s ∷ []
  unfolding pieces onto_first
  pieces_one [] h = refl
  pieces_one (x ∷ s) h =
      by_test x sep (λ e. absurd (not-suc-le-zero (rw (index_hit sep x s e) at h)))
      (λ e. rw (pieces_miss x s e, pieces_one s (le_of_suc-le-suc (rw (index_miss sep x s e) at h))))

  -- where a text has the byte, what stands before it is the first piece, and what stands after it has the others
  pub pieces_more : (s : List ℕ) → place_of sep s < length s → pieces sep s ≡ take (place_of sep s) s ∷ pieces sep (drop (suc (place_of sep s)) s)
  unfolding onto_first
  pieces_more [] h = absurd (not-suc-le-zero h)
  pieces_more (x ∷ s) h =
      by_test x sep (λ e. rw (pieces_hit x s e, index_hit sep x s e))
      (λ e. rw (pieces_miss x s e, index_miss sep x s e, pieces_more s (le_of_suc-le-suc (rw (index_miss sep x s e) at h))))

  -- a fact about a text, from what holds where it has the byte and where it has not
  pub by_place : {A : Type 0} (s : List ℕ) → (length s ≤ place_of sep s → A) → (place_of sep s < length s → A) → A
  by_place s without with = either (length s) (place_of sep s) without with

  -- a string with a byte that is no digit is no number
  not_all_digits : is_digit sep ≡ false → (s : List ℕ) → place_of sep s < length s → all_digits s ≡ false
  unfolding all_digits
  not_all_digits d [] h = absurd (not-suc-le-zero h)
  not_all_digits d (x ∷ s) h =
      by_test x sep (λ e. rw (eqb-true x sep e, d))
      (λ e. rw (not_all_digits d s (le_of_suc-le-suc (rw (index_miss sep x s e) at h)), and-false (is_digit x)))

  pub no_number : is_digit sep ≡ false → (s : List ℕ) → place_of sep s < length s → number_of s ≡ None
  unfolding number_of is_numeral
  no_number d s h = rw (not_all_digits d s h, and-false (leb (length s) most_digits), and-false (leb 1 (length s)))

  -- the first of pieces that more pieces follow is not the last
  not_last : (p s : List ℕ) → all_but_last (p ∷ pieces sep s) ≡ p ∷ all_but_last (pieces sep s)
  unfolding all_but_last
  not_last p s = by_place s (λ h. rw (pieces_one s h)) (λ h. rw (pieces_more s h))

-- the finished lines of a part of an input
pub finished_none : (s : List ℕ) → length s ≤ place_of newline s → finished s ≡ []
unfolding all_but_last
finished_none s h = ap all_but_last (pieces_one newline s h)

pub finished_more : (s : List ℕ) → place_of newline s < length s
    → finished s ≡ take (place_of newline s) s ∷ finished (drop (suc (place_of newline s)) s)
finished_more s h =
    ap all_but_last (pieces_more newline s h) ∙ not_last newline (take (place_of newline s) s) (drop (suc (place_of newline s)) s)

-- what a slice holds from a place on
pub from_on : (n : ℕ) (s : List ℕ) → take (length s - n) (drop n s) ≡ drop n s
from_on n s = take_all (length s - n) (drop n s) (rw (length-drop n s) (le_refl (length s - n)))
