-- A row put part by part, and how long an answer is. Assumes nothing.
use Rattle.std.specs.Prelude.{ℕ, ◌+◌, ◌*◌, ◌≤◌, ◌<◌, ◌≡◌, Option, Some, None, List, ◌++◌, length, ℤ, nat_abs}
use Rattle.std.proofs.Common.{arith, length-append, lit≤, le-leb, leb-true}
use Rattle.std.proofs.lemmas.Bool.{lt-leb}
use Rattle.text.specs.Cases.{either}
use Rattle.fixed.specs.Rules.{scale, in_range, curvature_number, alpha_of, weight_number}
use Rattle.fixed.specs.Unsigned.{raised}
use Rattle.fixed.proofs.Curvatures.{curvature_range}
use Rattle.fixed.specs.Weights.{alpha_most, weight_edge, edge_most}
use Rattle.text.specs.Ascii.{ascii}
use Rattle.text.specs.Numeral.{most_digits}
use Rattle.text.specs.Decimal.{decimal_of, signed_of}
use Rattle.text.specs.DecimalLaws.{decimal_length, signed_length}
use Rattle.text.specs.Put.{page, put_at}
use Rattle.text.specs.PutLaws.{front_fits, put_put}
use Rattle.weights_line.specs.Rules.{figures_of, answer_of}
use Rattle.weights_line.specs.declared.line.Counts.{Counts}
use Rattle.weights_line.specs.declared.figures.Figures.{Figures}
use Rattle.weights_run.specs.Output.{row_of, text_of}
use Rattle.weights_run.specs.Stream.{room_each}

-- six texts put one after the other, where all of them fit
pub row_put : (out : List ℕ) (at : ℕ) (k : ℤ) (a : ℕ) (w : ℤ) {m₁ m₂ m₃ m₄ m₅ m₆ : List ℕ} {n₁ n₂ n₃ n₄ n₅ n₆ : ℕ}
    → at + length (row_of k a w) ≤ length out
    → page m₁ n₁ ≡ put_at out at (signed_of k) → page m₂ n₂ ≡ put_at m₁ n₁ (ascii " ")
    → page m₃ n₃ ≡ put_at m₂ n₂ (decimal_of a) → page m₄ n₄ ≡ put_at m₃ n₃ (ascii " ")
    → page m₅ n₅ ≡ put_at m₄ n₄ (signed_of w) → page m₆ n₆ ≡ put_at m₅ n₅ (ascii "\n")
    → page m₆ n₆ ≡ put_at out at (row_of k a w)
unfolding row_of
row_put out at k a w h e₁ e₂ e₃ e₄ e₅ e₆ =
    let t₁ = signed_of k in
    let t₂ = t₁ ++ ascii " " in
    let t₃ = t₂ ++ decimal_of a in
    let t₄ = t₃ ++ ascii " " in
    let t₅ = t₄ ++ signed_of w in
    let room = length out in
    let h₅ = front_fits at room t₅ (ascii "\n") h in
    let h₄ = front_fits at room t₄ (signed_of w) h₅ in
    let h₃ = front_fits at room t₃ (ascii " ") h₄ in
    let h₂ = front_fits at room t₂ (decimal_of a) h₃ in
    put_put out at t₅ (ascii "\n") h
    (put_put out at t₄ (signed_of w) h₅
    (put_put out at t₃ (ascii " ") h₄ (put_put out at t₂ (decimal_of a) h₃ (put_put out at t₁ (ascii " ") h₂ e₁ e₂) e₃) e₄)
    e₅)
    e₆

-- a row has at most 6 bytes for each signed figure, 1 for alpha, and 3 between and after them
row_length : (k : ℤ) (a : ℕ) (w : ℤ) → nat_abs k ≤ scale → a < 10 → nat_abs w ≤ scale → length (row_of k a w) ≤ room_each
unfolding row_of
row_length k a w hk ha hw =
    let k-size = signed_length 4 k (omega arith) in
    let a-size = decimal_length 0 most_digits a ha in
    let w-size = signed_length 4 w (omega arith) in
    simp length-append (omega arith)

served_length : (s j d : ℕ) → s ≤ j
    → length (row_of (curvature_number s j) (alpha_of d) (weight_number (alpha_of d) (curvature_number s j))) ≤ room_each
unfolding in_range
served_length s j d h =
    let k = curvature_number s j in
    let k-range = curvature_range s j h in
    let w-small : nat_abs (weight_number (alpha_of d) k) ≤ scale =
    rw (weight_edge (alpha_of d) k k-range) (edge_most (scale * alpha_of d) (raised k)) in
    row_length k (alpha_of d) (weight_number (alpha_of d) k) (leb-true (nat_abs k) scale k-range) (omega (arith, alpha_most d)) w-small

figures_length : (s j d : ℕ) → length (text_of (figures_of s j d)) ≤ room_each
unfolding figures_of text_of
figures_length s j d =
    either s j (λ (h : s ≤ j). rw (le-leb s j h) (served_length s j d h)) (λ (h : j < s). rw (lt-leb s j h) (lit≤ tt))

-- an answer has room in its 16 bytes
pub answer_fits : (l : Option Counts) → length (text_of (answer_of l)) ≤ room_each
unfolding answer_of text_of
answer_fits None = lit≤ tt
answer_fits (Some counts) = figures_length counts.shared counts.joined counts.depth

-- the text of an answer, by its case
pub figures_row : {r : Option Figures} {k w : ℤ} {a : ℕ} → r ≡ Some (record { curvature = k; alpha = a; weight = w }) → {k' w' : ℤ} → k' ≡ k → w' ≡ w → row_of k' a w' ≡ text_of r
unfolding text_of
figures_row e e₁ e₂ = rw (e, e₁, e₂)

pub bad_text : {r : Option Figures} → r ≡ None → ascii "bad\n" ≡ text_of r
unfolding text_of
bad_text e = rw e
