-- One computed test: the table is what Algorithm 2's walk gives.
use mathlib.Core.Path.{refl}
use Rattle.keccak.specs.Fips202.{offset}
use Rattle.keccak.specs.Lanes.{rotation}
use Rattle.keccak.proofs.rotations.Goals as goal

pub returns : goal.returns
unfolding rotation offset
returns c = refl
