-- The hasher and what is left of the part make what the part makes of the hasher at the start.
use mathlib.Core.Path.{◌≡◌}
use Prim.Native.Nat.{◌<◌}
use lib.ListN.{length}
use Rattle.sha3.specs.Hash.{take_bytes}
use Rattle.sha3.proofs.Hasher.update.Given as goal

abbrev pub invariant-loop-rest : goal.invariant-loop-rest
invariant-loop-rest l = (l.hasher.at < 136) × (take_bytes l.hasher l.rest ≡ take_bytes l.initial.hasher l.part)

abbrev pub decreases-loop-rest : goal.decreases-loop-rest
decreases-loop-rest l = length l.rest
