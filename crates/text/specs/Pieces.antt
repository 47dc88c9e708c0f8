-- A text cut into pieces: a line into words, an input into lines. Assumes nothing.
use Rattle.std.specs.Prelude.{ℕ, cond, List, [], ◌∷◌, eqb}
use Prim.Native.Char.{code}
use Rattle.std.specs.List.{position_or_len}

-- the place of a text's first byte that is b, or the text's length where none is
abbrev pub place_of : ℕ → List ℕ → ℕ
place_of b s = position_or_len (λ (x : ℕ). eqb x b) s

-- the pieces of a text whose first byte is b, given those of the rest
unfoldable pub onto_first : ℕ → List (List ℕ) → List (List ℕ)
onto_first b [] = (b ∷ []) ∷ []
onto_first b (p ∷ ps) = (b ∷ p) ∷ ps

-- what stands before, between and after the bytes `sep` of a text. Two of them in a row have an empty piece between them
unfoldable pub pieces : ℕ → List ℕ → List (List ℕ)
pieces sep [] = [] ∷ []
pieces sep (b ∷ s) = cond (eqb b sep) ([] ∷ pieces sep s) (onto_first b (pieces sep s))

abbrev pub space : ℕ
space = code " "

abbrev pub newline : ℕ
newline = code "\n"

-- the words of a line
abbrev pub words : List ℕ → List (List ℕ)
words line = pieces space line

-- all of a list but its last
unfoldable pub all_but_last : List (List ℕ) → List (List ℕ)
all_but_last [] = []
all_but_last (p ∷ []) = []
all_but_last (p ∷ q ∷ ps) = p ∷ all_but_last (q ∷ ps)

-- a list without its last where that is empty
unfoldable pub but_empty_last : List (List ℕ) → List (List ℕ)
but_empty_last [] = []
but_empty_last ([] ∷ []) = []
but_empty_last ((b ∷ p) ∷ []) = (b ∷ p) ∷ []
but_empty_last (p ∷ q ∷ ps) = p ∷ but_empty_last (q ∷ ps)

-- the lines of a whole input. A final newline is optional: after it no line begins
abbrev pub lines_of : List ℕ → List (List ℕ)
lines_of input = but_empty_last (pieces newline input)

-- the lines of a part of an input that have their newline
abbrev pub finished : List ℕ → List (List ℕ)
finished part = all_but_last (pieces newline part)

-- the lines of what is left of an input after its last newline: that, or none where nothing is left
unfoldable pub last_line : List ℕ → List (List ℕ)
last_line [] = []
last_line (b ∷ rest) = (b ∷ rest) ∷ []
