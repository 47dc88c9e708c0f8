use Rattle.std.proofs.Common.{arith}
use Rattle.cells.specs.Cells.{same_rest}
use Rattle.cells.specs.Every.{every_start, every_step, every_end}
use Rattle.cells.proofs.ids.same_rest.Goals as goal

pub loop-i-init : goal.loop-i-init
loop-i-init c = every_start _

pub loop-i-preserved : goal.loop-i-preserved
loop-i-preserved c = every_step _ _ _ c.loop-i.invariant

pub returns : goal.returns
unfolding same_rest
returns c = every_end _ _ _ _ (omega arith) (omega arith) c.loop-i.invariant
