-- The bit of n is shifted into place and joins its word; past the end nothing is stored.
use Rattle.std.proofs.Common.{sym, arith}
use Rattle.std.proofs.Math.Seq.{set_out}
use Rattle.bitset.specs.Sets.{with_member}
use Rattle.bitset.proofs.Updates.{add_is}
use Rattle.bitset.proofs.add.Goals as goal

pub returns-then-at-set : goal.returns-then-at-set
returns-then-at-set c = add_is _ _

pub returns-else-at-set : goal.returns-else-at-set
unfolding with_member
returns-else-at-set c = sym (set_out _ _ _ (omega arith))
