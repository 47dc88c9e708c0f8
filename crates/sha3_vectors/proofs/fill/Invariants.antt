-- x stays a byte.
use Prim.Native.Nat.{◌<◌}
use Rattle.sha3_vectors.proofs.fill.Given as goal

abbrev pub invariant-loop-i : goal.invariant-loop-i
invariant-loop-i l = l.x < 251
