-- `cells::ids::find_id` meets its contract: the answer is that of the places after b blocks, since x is in none of these.
use Rattle.std.proofs.Common.{◌≡◌, ◌-◌, ◌*◌}
use Rattle.cells.specs.Cells.{first_where, has_id, first_id}
use Rattle.cells.proofs.ids.find_id.Given as goal

abbrev pub invariant-loop-b : goal.invariant-loop-b
invariant-loop-b l = first_id l.keys l.rests l.from l.n l.x ≡ first_where (has_id l.keys l.rests l.from l.x) (l.b * 64) (l.n - l.b * 64)
