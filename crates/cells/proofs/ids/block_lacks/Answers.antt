use Rattle.cells.specs.Every.{every_start, every_step}
use Rattle.cells.proofs.ids.block_lacks.Goals as goal

pub loop-k-init : goal.loop-k-init
loop-k-init c = every_start _

pub loop-k-preserved : goal.loop-k-preserved
loop-k-preserved c = every_step _ _ _ c.loop-k.invariant
