-- After j turns the first j cells of the row are put.
use Rattle.std.specs.Prelude.{◌≤◌, ◌≡◌, length, get_or}
use Rattle.cells.specs.Cells.{row_put}
use Rattle.cells.proofs.put_row.Given as goal

abbrev pub invariant-loop-j : goal.invariant-loop-j
invariant-loop-j g l = (l.j ≤ length l.row) × (l.s ≡ row_put l.initial.s l.at (λ i. get_or l.row i g.T.Cell.zero) l.j)
