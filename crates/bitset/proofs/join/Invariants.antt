-- The first i words are joined and the others as they were; past the end of other they stay.
use Rattle.std.proofs.Common.{◌≡◌, bit_or}
use Rattle.bitset.proofs.Updates.{done}
use Rattle.bitset.proofs.join.Given as goal

abbrev pub invariant-loop-i : goal.invariant-loop-i
invariant-loop-i l = l.set ≡ done bit_or l.initial.set l.other l.i
