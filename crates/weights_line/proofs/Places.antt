-- A line by what `position` finds: its first space, and the first space of what stands after that.
use Rattle.std.specs.Prelude.{ℕ, ◌+◌, ◌≤◌, ◌<◌, ◌≡◌, Option, Some, None, List, length, take, drop, eqb}
use Rattle.std.proofs.Common.{le-ltb, lt-ltb}
use Rattle.std.specs.List.{position}
use Rattle.text.specs.Cases.{either}
use Rattle.text.specs.Numeral.{number_of}
use Rattle.text.specs.Pieces.{space, place_of}
use Rattle.weights_line.specs.Rules.{most_bytes, counts_of, line_of}
use Rattle.weights_line.specs.LineLaws.{one_word, two_words, three_words}

-- what `position` finds in s
module _ (s : List ℕ) {found : Option ℕ} (is_found : found ≡ position (λ (b : ℕ). eqb b space) s) where
  is_none : length s ≤ place_of space s → found ≡ None
  is_none h = rw (is_found, le-ltb (place_of space s) (length s) h)

  is_some : place_of space s < length s → found ≡ Some (place_of space s)
  is_some h = rw (is_found, lt-ltb (place_of space s) (length s) h)

  no_space : found ≡ None → length s ≤ place_of space s
  no_space e = either (length s) (place_of space s) (λ h. h) (λ h. let k = is_some h in cc)

  module _ {i : ℕ} (e : found ≡ Some i) where
    at_space : i ≡ place_of space s
    at_space = either (length s) (place_of space s) (λ h. let k = is_none h in cc) (λ h. let k = is_some h in cc)

    inside : i < length s
    inside = either (length s) (place_of space s) (λ h. let k = is_none h in cc) (λ h. rw at_space h)

module _ (line : List ℕ) (fits : length line ≤ most_bytes) {first : Option ℕ} (is_first : first ≡ position (λ (b : ℕ). eqb b space) line) where
  pub without_space : first ≡ None → None ≡ line_of line
  without_space e = one_word line fits (no_space line is_first e)

  module _ {i : ℕ} (at_i : first ≡ Some i) {rest : List ℕ} (after_i : rest ≡ drop (i + 1) line) {second : Option ℕ} (is_second : second ≡ position (λ (b : ℕ). eqb b space) rest) where
    pub with_one_space : second ≡ None → None ≡ line_of line
    with_one_space e = two_words line fits (at_space line is_first at_i) (inside line is_first at_i) after_i (no_space rest is_second e)

    pub with_two_spaces : {j : ℕ} → second ≡ Some j → {last : List ℕ} {a b d : Option ℕ} → last ≡ drop (j + 1) rest
        → a ≡ number_of (take i line) → b ≡ number_of (take j rest) → d ≡ number_of last → counts_of a b d ≡ line_of line
    with_two_spaces e after_j =
        three_words line fits (at_space line is_first at_i) (inside line is_first at_i) after_i (at_space rest is_second e) (inside rest is_second e) after_j
