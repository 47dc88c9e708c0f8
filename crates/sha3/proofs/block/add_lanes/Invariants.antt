-- After i turns of the loop i words are added.
use mathlib.Core.Path.{◌≡◌}
use Prim.Native.Nat.{◌*◌}
use lib.ListN.{take}
use Rattle.sha3.specs.Hash.{plus_bytes}
use Rattle.sha3.proofs.block.add_lanes.Given as goal

abbrev pub invariant-loop-i : goal.invariant-loop-i
invariant-loop-i l = l.lanes ≡ plus_bytes l.initial.lanes l.at (take (8 * l.i) l.part)
