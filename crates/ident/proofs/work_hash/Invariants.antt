-- `work_hash`: before each parent the hasher has taken in the key and the parents so far.
use mathlib.Core.Path.{◌≡◌}
use mathlib.Core.List.{◌++◌}
use lib.ListN.{take}
use Rattle.sha3.specs.Hash.{after}
use Rattle.ident.specs.Ident.{joined}
use Rattle.ident.proofs.work_hash.Given as goal

abbrev pub invariant-loop-parent : goal.invariant-loop-parent
invariant-loop-parent l = l.hasher ≡ after (l.key ++ joined (take l.parent-index l.parents))
