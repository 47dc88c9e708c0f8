-- `Counts::right` meets its contract: its test is the definition.
use mathlib.Core.Path.{refl}
use Rattle.store.specs.Sound.{head_right}
use Rattle.store.proofs.sound.Counts.right.Goals as goal

pub returns : goal.returns
unfolding head_right
returns c = refl
