use native.Mathlib.Omega.{arith}
use Rattle.store.specs.Parts.{same_start, same_then}
use Rattle.naming.specs.Loops.{cleared_start, cleared_step}
use Rattle.naming.proofs.name.clear_rows.Goals as goal

pub loop-i-init : goal.loop-i-init
loop-i-init c = (omega arith, cleared_start _ _, same_start _)

pub loop-i-preserved : goal.loop-i-preserved
loop-i-preserved c =
    let before = c.loop-i.invariant in
    (omega arith, cleared_step _ _ _ _ _ before.1 c.clear_row.ensures.left, same_then before.2 c.clear_row.ensures.same)
