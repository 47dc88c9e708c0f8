use Rattle.std.proofs.Common.{sym, arith}
use Rattle.std.proofs.lemmas.Nat.{ones-le}
use Rattle.bitset.specs.Counts.{count_zero}
use Rattle.bitset.proofs.Tallies.{counted_more}
use Rattle.bitset.proofs.count_ones.Goals as goal

pub loop-i-init : goal.loop-i-init
loop-i-init g c = (omega arith, λ p h. sym (count_zero p))

pub loop-i-preserved : goal.loop-i-preserved
loop-i-preserved g c = (
  omega (arith, ones-le 64 c.word.result c.word.type_inv),
  λ p h. counted_more p c.loop-i.i _ _ c.word.type_inv (h _ _ c.loop-i-test.true c.word.ensures) (c.loop-i.invariant.1 p h),
)
