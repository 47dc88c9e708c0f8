-- The one theorem that the rules give the table of worked numbers.
use Rattle.std.specs.Prelude.{◌≡◌, refl, map}
use Rattle.fixed.specs.Answers.{served}
use Rattle.fixed.specs.Rules.{low_bits, kept, ratio_of, product_of, alpha_of, curvature_number, curvature_of}
use Rattle.fixed.specs.Table.{Row, worked, table}

pub table_holds : map (λ (r : Row). worked r.question) table ≡ map (λ (r : Row). served r.figure) table
unfolding table worked alpha_of curvature_of curvature_number ratio_of product_of kept low_bits
table_holds = refl
