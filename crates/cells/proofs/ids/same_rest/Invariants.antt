-- `cells::ids::same_rest` meets its contract: after i turns `same` compares the first i of the 28 bytes.
use Rattle.std.proofs.Common.{◌≡◌, ◌+◌, get_or, eqb}
use Rattle.cells.specs.Cells.{every}
use Rattle.cells.proofs.ids.same_rest.Given as goal

abbrev pub invariant-loop-i : goal.invariant-loop-i
invariant-loop-i l = l.same ≡ every (λ k. eqb (get_or l.rests (l.from + k) 0) (get_or l.x (4 + k) 0)) l.i
