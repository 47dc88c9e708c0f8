-- THE TABLE of worked numbers. That the rules give them is the one theorem over it (proofs/Table).
use Rattle.std.specs.Prelude.{List, [], ◌∷◌, ℕ, ℤ, pos, neg_ℤ}
use Rattle.fixed.specs.Answers.{Answer, served}
use Rattle.fixed.specs.Rules.{product_of, alpha_of, curvature_of}

pub data Question : Type 0 where
  -- by depth
  alpha : ℕ → Question
  -- by the shared and the joined count
  curvature : ℕ → ℕ → Question
  product : ℤ → ℤ → Question

-- what the rules answer
unfoldable pub worked : Question → Answer
worked (alpha depth) = served (pos (alpha_of depth))
worked (curvature shared joined) = curvature_of shared joined
worked (product a b) = served (product_of a b)

pub record Row : Type 0 where
  pub question : Question
  pub figure : ℤ

infix 4 ◌gives◌
abbrev ◌gives◌ : Question → ℤ → Row
q gives z = record { question = q; figure = z }

unfoldable pub table : List Row
table =
    (alpha 999 gives pos 0)
    ∷ (alpha 1000 gives pos 0)
    ∷ (alpha 2666 gives pos 0)
    ∷ (alpha 2667 gives pos 1)
    ∷ (alpha 4333 gives pos 1)
    ∷ (alpha 4334 gives pos 2)
    ∷ (alpha 5999 gives pos 2)
    ∷ (alpha 6000 gives pos 3)
    ∷ (curvature 1 2 gives pos 0)
    ∷ (curvature 1 3 gives neg_ℤ (pos 21846))
    ∷ (curvature 2 5 gives neg_ℤ (pos 13108))
    ∷ (curvature 2 3 gives pos 21844)
    ∷ (product (pos 655) (pos 655) gives pos 6)
    ∷ (product (pos 6) (pos 655) gives pos 0)
    ∷ []
