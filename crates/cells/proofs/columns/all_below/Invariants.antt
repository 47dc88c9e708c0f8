-- `cells::columns::all_below` meets its contract: after i turns `ok` is the test of the first i cells.
use Rattle.std.proofs.Common.{◌≡◌, ◌+◌, get_or, ltb}
use Rattle.cells.specs.Cells.{every}
use Rattle.cells.proofs.columns.all_below.Given as goal

abbrev pub invariant-loop-cell : goal.invariant-loop-cell
invariant-loop-cell g l =
    let cell = g.T.Cell in
    l.ok ≡ every (λ i. ltb (cell.number (get_or l.s (l.from + i) cell.zero)) (cell.number l.bound)) l.cell-index
