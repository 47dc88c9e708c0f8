-- The parities are all known before the first effect.
use Rattle.std.proofs.Common.{arith, rules}
use Rattle.keccak.specs.Lanes.{lane, parity, effect, effects}
use Rattle.keccak.proofs.Row.{one_more, effect_at}
use Rattle.keccak.proofs.from_columns.Goals as goal

pub loop-x-preserved : goal.loop-x-preserved
loop-x-preserved c = one_more _ _ 0 c.loop-x.x c.loop-x.x _ (parity (lane c.args.a.now)) c.loop-x.invariant (omega arith) c.column.ensures

pub loop-x-2-preserved : goal.loop-x-2-preserved
loop-x-2-preserved c =
    let inv = c.loop-x-2.invariant in
    let a = lane c.args.a.now in
    (inv.0, one_more _ _ 0 c.loop-x-2.x c.loop-x-2.x _ (effect a) inv.1 (omega arith) (effect_at a _ c.loop-x-2.x _ inv.0 c.rotate_left.ensures))

pub returns : goal.returns
unfolding effects
returns c = search rules
