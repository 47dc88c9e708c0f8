use Rattle.std.proofs.Common.{arith}
use Rattle.std.specs.Prelude.{bit_and}
use Rattle.bitset.proofs.Updates.{done_next, meet_end}
use Rattle.bitset.proofs.meet.Goals as goal

pub loop-i-preserved : goal.loop-i-preserved
loop-i-preserved c = done_next bit_and _ _ _ _ c.loop-i.invariant (omega arith)

pub returns : goal.returns
returns c = meet_end _ _ _ _ c.loop-i.i _ c.min-n.ensures c.loop-i.invariant c.clear.ensures (omega arith)
