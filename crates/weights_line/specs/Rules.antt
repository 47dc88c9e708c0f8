-- WHAT `weights` TAKES AND WHAT IT ANSWERS.
-- A line is a list of bytes, its newline not among them. `words` are what stands between its spaces; `number_of` reads a word as a decimal
-- number of 1 to 20 digits that 64 bits hold.
use Rattle.std.specs.Prelude.{if◌then◌else◌, ℕ, ◌&&◌, Option, Some, None, List, [], ◌∷◌, length, leb}
use Rattle.fixed.specs.Rules.{curvature_number, alpha_of, weight_number}
use Rattle.text.specs.Numeral.{number_of}
use Rattle.text.specs.Pieces.{words}
use Rattle.weights_line.specs.declared.line.Counts.{Counts}
use Rattle.weights_line.specs.declared.figures.Figures.{Figures}

-- ── The numbers that the rules name ──

-- the most bytes of a line
abbrev pub most_bytes : ℕ
most_bytes = 80

-- the most members of a joined set: two ancestor sets of 16 parents and their 16 x 16 parents
abbrev pub most_joined : ℕ
most_joined = 544

-- ── Which lines are taken ──

-- three numbers are a line's counts, unless shared is above joined or joined is over 544
unfoldable pub counts_of : Option ℕ → Option ℕ → Option ℕ → Option Counts
counts_of None joined depth = None
counts_of (Some s) None depth = None
counts_of (Some s) (Some j) None = None
counts_of (Some s) (Some j) (Some d) =
    if leb s j && leb j most_joined then Some (record { shared = s; joined = j; depth = d }) else None

-- shared count, joined count and depth, one space between: three words and no more
unfoldable pub from_words : List (List ℕ) → Option Counts
from_words [] = None
from_words (a ∷ []) = None
from_words (a ∷ b ∷ []) = None
from_words (a ∷ b ∷ c ∷ []) = counts_of (number_of a) (number_of b) (number_of c)
from_words (a ∷ b ∷ c ∷ d ∷ more) = None

-- a line over 80 bytes is not taken
unfoldable pub line_of : List ℕ → Option Counts
line_of s = if leb (length s) most_bytes then from_words (words s) else None

-- ── What is answered ──

-- curvature, alpha and weight
unfoldable pub figures_of : ℕ → ℕ → ℕ → Option Figures
figures_of shared joined depth =
    if leb shared joined
    then
    Some
    (record {
      curvature = curvature_number shared joined;
      alpha = alpha_of depth;
      weight = weight_number (alpha_of depth) (curvature_number shared joined);
    })
    else None

unfoldable pub answer_of : Option Counts → Option Figures
answer_of (Some counts) = figures_of counts.shared counts.joined counts.depth
answer_of None = None
