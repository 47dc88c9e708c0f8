-- `cells::columns::all_falling` meets its contract: after i turns `ok` is the test of the first i cells.
use Rattle.std.proofs.Common.{◌≡◌}
use Rattle.cells.specs.Cells.{all_falling}
use Rattle.cells.proofs.columns.all_falling.Given as goal

abbrev pub invariant-loop-i : goal.invariant-loop-i
invariant-loop-i l = l.ok ≡ all_falling l.s l.from l.i
