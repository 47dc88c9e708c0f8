use Rattle.cells.specs.Cells.{same_id}
use Rattle.std.proofs.Common.{rules}
use Rattle.cells.proofs.Slices.{equal_cells}
use Rattle.cells.proofs.ids.same_id.Goals as goal

pub returns : goal.returns
unfolding same_id
returns c = equal_cells c.args.x.now c.args.y.now 32 (search rules) (search rules) _ c.eq.ensures
