-- A shift and a mask leave bit n % 64 of the word; past the end there is no member.
use Rattle.std.proofs.Common.{rules, arith}
use Rattle.bitset.proofs.Updates.{has_get}
use Rattle.bitset.proofs.has.Goals as goal

pub returns : goal.returns
returns c = has_get c.args.set.now c.args.n c.get.result c.is_some_and.result (c.get.ensures.lookup.4 (omega arith)) (search rules)
