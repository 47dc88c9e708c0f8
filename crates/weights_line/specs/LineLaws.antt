-- A line by the places of its first two spaces.
use Rattle.std.specs.Prelude.{ℕ, suc, ◌+◌, ◌≤◌, ◌<◌, ◌≡◌, refl, Option, Some, None, List, ◌∷◌, length, take, drop, leb}
use Rattle.std.proofs.Math.Path.{sym, ap}
use Rattle.std.proofs.Common.{◌∙◌, add-one}
use Rattle.std.proofs.Math.Bool.{and-false}
use borrow.Author.Tests.{le-leb, lt-leb}
use Rattle.text.specs.Numeral.{number_of, is_digit}
use Rattle.text.specs.Pieces.{space, place_of, words}
use Rattle.text.specs.PieceLaws.{pieces_one, pieces_more, by_place, no_number}
use Rattle.weights_line.specs.Rules.{most_bytes, most_joined, counts_of, from_words, line_of}

-- three numbers as counts
module _ (s j d : ℕ) where
  pub above : j < s → None ≡ counts_of (Some s) (Some j) (Some d)
  unfolding counts_of
  above h = rw (lt-leb s j h)

  pub over : most_joined < j → None ≡ counts_of (Some s) (Some j) (Some d)
  unfolding counts_of
  over h = rw (lt-leb j most_joined h, and-false (leb s j))

  pub taken : s ≤ j → j ≤ most_joined → Some (record { shared = s; joined = j; depth = d }) ≡ counts_of (Some s) (Some j) (Some d)
  unfolding counts_of
  taken h k = rw (le-leb s j h, le-leb j most_joined k)

pub no_shared : (j d : Option ℕ) → None ≡ counts_of None j d
unfolding counts_of
no_shared j d = refl

pub no_joined : (s d : Option ℕ) → None ≡ counts_of s None d
unfolding counts_of
no_joined None d = refl
no_joined (Some s) d = refl

pub no_depth : (s j : Option ℕ) → None ≡ counts_of s j None
unfolding counts_of
no_depth None j = refl
no_depth (Some s) None = refl
no_depth (Some s) (Some j) = refl

-- what stands after a third space makes four words or more
four : (a b c d : List ℕ) → from_words (a ∷ b ∷ c ∷ words d) ≡ None
unfolding from_words
four a b c d = by_place space d (λ h. rw (pieces_one space d h)) (λ h. rw (pieces_more space d h))

-- so the third of three words is all that stands after the second space: where it has a space it is no number
third : (a b c : List ℕ) → from_words (a ∷ b ∷ words c) ≡ counts_of (number_of a) (number_of b) (number_of c)
unfolding from_words is_digit
third a b c =
    by_place space c (λ h. rw (pieces_one space c h))
    (λ h.
    rw (pieces_more space c h, no_number space refl c h)
    (four a b (take (place_of space c) c) (drop (suc (place_of space c)) c) ∙ no_depth (number_of a) (number_of b)))

module _ (s : List ℕ) where
  pub too_long : most_bytes < length s → None ≡ line_of s
  unfolding line_of
  too_long h = rw (lt-leb (length s) most_bytes h)

  by_words : length s ≤ most_bytes → line_of s ≡ from_words (words s)
  unfolding line_of
  by_words h = rw (le-leb (length s) most_bytes h)

  pub one_word : length s ≤ most_bytes → length s ≤ place_of space s → None ≡ line_of s
  unfolding from_words
  one_word h i = sym (by_words h ∙ ap from_words (pieces_one space s i))

  -- a first space at i, and what stands after it
  module _ (fits : length s ≤ most_bytes) {i : ℕ} {rest : List ℕ} (at_i : i ≡ place_of space s) (inside : i < length s) (after-i : rest ≡ drop (i + 1) s) where
    from_rest : line_of s ≡ from_words (take i s ∷ words rest)
    from_rest =
        by_words fits
        ∙ ap from_words (pieces_more space s (rw at_i at inside))
        ∙ rw (after-i, add-one i, at_i)

    pub two_words : length rest ≤ place_of space rest → None ≡ line_of s
    unfolding from_words
    two_words h = sym (from_rest ∙ rw (pieces_one space rest h))

    pub three_words : {j : ℕ} {last : List ℕ} {a b c : Option ℕ} → j ≡ place_of space rest → j < length rest → last ≡ drop (j + 1) rest
        → a ≡ number_of (take i s) → b ≡ number_of (take j rest) → c ≡ number_of last → counts_of a b c ≡ line_of s
    three_words {j} at_j within after-j first second final =
        rw (first, second, final, after-j, add-one j)
        (sym (from_rest ∙ rw (pieces_more space rest (rw at_j at within), ← at_j) (third (take i s) (take j rest) (drop (suc j) rest))))
