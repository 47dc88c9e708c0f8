-- The lanes are written out.
use mathlib.Core.Path.{refl}
use Rattle.keccak.specs.Lanes.{veiled}
use Rattle.keccak.proofs.veil.Goals as goal

pub returns : goal.returns
unfolding veiled
returns c = refl
