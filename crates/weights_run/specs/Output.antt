-- WHAT `weights` WRITES, for a whole input.
use Rattle.std.specs.Prelude.{ℕ, Option, Some, None, List, [], ◌∷◌, ◌++◌, ℤ}
use Rattle.text.specs.Ascii.{ascii}
use Rattle.text.specs.Decimal.{decimal_of, signed_of}
use Rattle.text.specs.Pieces.{lines_of}
use Rattle.weights_line.specs.Rules.{line_of, answer_of}
use Rattle.weights_line.specs.declared.figures.Figures.{Figures}

-- curvature, alpha, weight, one space between
unfoldable pub row_of : ℤ → ℕ → ℤ → List ℕ
row_of curvature alpha weight = signed_of curvature ++ ascii " " ++ decimal_of alpha ++ ascii " " ++ signed_of weight ++ ascii "\n"

-- the figures of a line that is taken, or `bad`
unfoldable pub text_of : Option Figures → List ℕ
text_of (Some figures) = row_of figures.curvature figures.alpha figures.weight
text_of None = ascii "bad\n"

-- what is written for one line
unfoldable pub answer_line : List ℕ → List ℕ
answer_line line = text_of (answer_of (line_of line))

-- what is written for several lines
unfoldable pub answers_to : List (List ℕ) → List ℕ
answers_to [] = []
answers_to (line ∷ more) = answer_line line ++ answers_to more

-- the header, then an answer for each line
unfoldable pub output_of : List ℕ → List ℕ
output_of input = ascii "curvature alpha weight\n" ++ answers_to (lines_of input)
