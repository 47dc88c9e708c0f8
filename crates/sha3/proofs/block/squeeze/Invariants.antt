-- After i turns of the loop the first 8 i bytes are those of the state.
use mathlib.Core.Path.{◌≡◌}
use Prim.Native.Nat.{◌*◌}
use lib.ListN.{length, take}
use Rattle.keccak.specs.Fips202.{listed}
use Rattle.sha3.specs.Hash.{byte_of}
use Rattle.sha3.proofs.block.squeeze.Given as goal

abbrev pub invariant-loop-i : goal.invariant-loop-i
invariant-loop-i l = (length l.bytes ≡ 32) × (take (8 * l.i) l.bytes ≡ listed (8 * l.i) 0 (byte_of l.fn.lanes))
