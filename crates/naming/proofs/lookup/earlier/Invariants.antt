-- From place j on the search goes on as from place 0.
use Rattle.std.specs.Prelude.{ℕ, Bool, ◌-◌, ◌≤◌, ◌≡◌}
use Rattle.cells.specs.Cells.{same_id, first_where}
use Rattle.naming.specs.Calls.{ids}
use Rattle.naming.specs.declared.called.Called.{Called}
use Rattle.naming.proofs.lookup.earlier.Given as goal

-- whether place j of the call has the id at place i
abbrev pub alike : Called → ℕ → ℕ → Bool
alike call i j = same_id (ids call j) (ids call i)

abbrev pub invariant-loop-j : goal.invariant-loop-j
invariant-loop-j l = (l.j ≤ l.i) × (first_where (alike l.call l.i) 0 l.i ≡ first_where (alike l.call l.i) l.j (l.i - l.j))
