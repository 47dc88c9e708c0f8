use Rattle.std.proofs.Common.{arith}
use Rattle.std.specs.Prelude.{bit_or}
use Rattle.bitset.proofs.Updates.{done_next, join_end}
use Rattle.bitset.proofs.join.Goals as goal

pub loop-i-preserved : goal.loop-i-preserved
loop-i-preserved c = done_next bit_or _ _ _ _ c.loop-i.invariant (omega arith)

pub returns : goal.returns
returns c = join_end _ _ _ c.loop-i.i _ c.min-i-end.ensures c.loop-i.invariant (omega arith)
