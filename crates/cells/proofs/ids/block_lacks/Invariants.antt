-- `cells::ids::block_lacks` meets its contract: after i turns `lacks` is the test of the first i keys.
use Rattle.std.proofs.Common.{◌≡◌, not, get_or, eqb}
use Rattle.cells.specs.Cells.{every}
use Rattle.cells.proofs.ids.block_lacks.Given as goal

abbrev pub invariant-loop-k : goal.invariant-loop-k
invariant-loop-k l = l.lacks ≡ every (λ i. not (eqb (get_or l.block i 0) l.key)) l.k-index
