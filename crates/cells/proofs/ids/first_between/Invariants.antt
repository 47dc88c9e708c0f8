-- `cells::ids::first_between` meets its contract: the answer is that of the places from i on, since x is at none before.
use Rattle.std.proofs.Common.{◌≡◌, ◌-◌}
use Rattle.cells.specs.Cells.{first_where, has_id}
use Rattle.cells.proofs.ids.first_between.Given as goal

abbrev pub invariant-loop-i : goal.invariant-loop-i
invariant-loop-i l = first_where (has_id l.keys l.rests l.from l.x) l.start (l.stop - l.start) ≡ first_where (has_id l.keys l.rests l.from l.x) l.i (l.stop - l.i)
