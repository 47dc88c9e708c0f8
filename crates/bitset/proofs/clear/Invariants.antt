-- The first words are 0 and the others as they were.
use Rattle.std.proofs.Common.{◌≡◌, ◌++◌, drop, replicate}
use Rattle.bitset.proofs.clear.Given as goal

abbrev pub invariant-loop-word : goal.invariant-loop-word
invariant-loop-word l = l.set ≡ replicate l.word-index 0 ++ drop l.word-index l.initial.set
