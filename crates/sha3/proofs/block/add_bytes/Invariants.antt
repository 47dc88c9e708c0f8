-- After i turns of the loop i bytes are added.
use mathlib.Core.Path.{◌≡◌}
use lib.ListN.{take}
use Rattle.sha3.specs.Hash.{plus_bytes}
use Rattle.sha3.proofs.block.add_bytes.Given as goal

abbrev pub invariant-loop-i : goal.invariant-loop-i
invariant-loop-i l = l.lanes ≡ plus_bytes l.initial.lanes l.at (take l.i l.part)
