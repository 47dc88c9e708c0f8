-- The lines of an input that comes in parts. Assumes nothing.
use Rattle.std.specs.Prelude.{ℕ, zero, suc, ◌+◌, ◌≤◌, ◌<◌, ◌≡◌, List, [], ◌∷◌, ◌++◌, length, take, drop}
use Rattle.std.proofs.Common.{zero-le, suc-le-suc, sym, ap, ◌∙◌, not-suc-le-zero, le_of_suc-le-suc, suc-add, zero-add}
use Rattle.text.specs.Pieces.{newline, place_of, pieces, but_empty_last, lines_of, last_line}
use Rattle.text.specs.PieceLaws.{index_hit, index_miss, by_test, by_place, pieces_one, pieces_more}

-- a text has no such byte
abbrev pub Without : ℕ → List ℕ → Type 0
Without b s = length s ≤ place_of b s

module _ (b : ℕ) where
  -- the place of a byte in a text that is put together
  pub place_in_first : (s t : List ℕ) → place_of b s < length s → place_of b (s ++ t) ≡ place_of b s
  place_in_first [] t h = absurd (not-suc-le-zero h)
  place_in_first (x ∷ s) t h =
      by_test x b (λ e. index_hit b x (s ++ t) e ∙ sym (index_hit b x s e))
      (λ e.
      index_miss b x (s ++ t) e
      ∙ ap suc (place_in_first s t (le_of_suc-le-suc (rw (index_miss b x s e) at h)))
      ∙ sym (index_miss b x s e))

  pub place_in_second : (s t : List ℕ) → Without b s → place_of b (s ++ t) ≡ length s + place_of b t
  place_in_second [] t h = sym (zero-add (place_of b t))
  place_in_second (x ∷ s) t h =
      by_test x b (λ e. absurd (not-suc-le-zero (rw (index_hit b x s e) at h)))
      (λ e.
      index_miss b x (s ++ t) e
      ∙ ap suc (place_in_second s t (le_of_suc-le-suc (rw (index_miss b x s e) at h)))
      ∙ sym (suc-add (length s) (place_of b t)))

  -- what a text begins with has the byte no more than the text
  pub without_front : (n : ℕ) (s : List ℕ) → Without b s → Without b (take n s)
  without_front zero s h = zero-le
  without_front (suc n) [] h = zero-le
  without_front (suc n) (x ∷ s) h =
      by_test x b (λ e. absurd (not-suc-le-zero (rw (index_hit b x s e) at h)))
      (λ e. rw (index_miss b x (take n s) e) (suc-le-suc (without_front n s (le_of_suc-le-suc (rw (index_miss b x s e) at h)))))

-- the lines of a whole input, by its first newline
not_last : (p s : List ℕ) → but_empty_last (p ∷ pieces newline s) ≡ p ∷ lines_of s
unfolding but_empty_last
not_last p s = by_place newline s (λ h. rw (pieces_one newline s h)) (λ h. rw (pieces_more newline s h))

pub lines_more : (s : List ℕ) → place_of newline s < length s → lines_of s ≡ take (place_of newline s) s ∷ lines_of (drop (suc (place_of newline s)) s)
lines_more s h =
    ap but_empty_last (pieces_more newline s h) ∙ not_last (take (place_of newline s) s) (drop (suc (place_of newline s)) s)

pub lines_last : (s : List ℕ) → Without newline s → lines_of s ≡ last_line s
unfolding but_empty_last last_line
lines_last [] h = ap but_empty_last (pieces_one newline [] h)
lines_last (x ∷ s) h = ap but_empty_last (pieces_one newline (x ∷ s) h)
