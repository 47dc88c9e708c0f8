-- After each turn of the loop the state is that of two rounds more.
use Rattle.std.proofs.Common.{◌≡◌, ◌*◌}
use Rattle.keccak.specs.Lanes.{rounds_of}
use Rattle.keccak.proofs.permute.Given as goal

abbrev pub invariant-loop-pair : goal.invariant-loop-pair
invariant-loop-pair l = l.s ≡ rounds_of (2 * l.pair-index) l.initial.s
