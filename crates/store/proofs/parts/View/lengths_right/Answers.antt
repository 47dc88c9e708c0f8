-- The test is the definition.
use mathlib.Core.Path.{refl}
use Rattle.store.specs.Sound.{lengths_right}
use Rattle.store.proofs.parts.View.lengths_right.Goals as goal

pub returns : goal.returns
unfolding lengths_right
returns c = refl
