-- One computed test: the table is what Algorithms 5 and 6 give.
use mathlib.Core.Path.{refl}
use Rattle.keccak.specs.Fips202.{rc}
use Rattle.keccak.specs.Lanes.{constant_of}
use Rattle.keccak.proofs.round_constants.Goals as goal

pub returns : goal.returns
unfolding constant_of rc
returns c = refl
