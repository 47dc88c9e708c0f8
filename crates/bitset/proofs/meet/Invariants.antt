-- The first i words are masked and the others as they were; past the end of other they become 0.
use Rattle.std.proofs.Common.{◌≡◌, bit_and}
use Rattle.bitset.proofs.Updates.{done}
use Rattle.bitset.proofs.meet.Given as goal

abbrev pub invariant-loop-i : goal.invariant-loop-i
invariant-loop-i l = l.set ≡ done bit_and l.initial.set l.other l.i
