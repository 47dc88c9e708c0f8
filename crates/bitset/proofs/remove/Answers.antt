-- The bit of n is masked out of its word; past the end nothing is stored.
use Rattle.std.proofs.Common.{sym, arith}
use Rattle.std.proofs.Math.Seq.{set_out}
use Rattle.bitset.specs.Sets.{without}
use Rattle.bitset.proofs.Updates.{remove_is}
use Rattle.bitset.proofs.remove.Goals as goal

pub returns-then-at-set : goal.returns-then-at-set
returns-then-at-set c = remove_is _ _

pub returns-else-at-set : goal.returns-else-at-set
unfolding without
returns-else-at-set c = sym (set_out _ _ _ (omega arith))
