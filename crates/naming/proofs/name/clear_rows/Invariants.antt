-- The first i rows are cleared.
use Rattle.std.specs.Prelude.{◌≤◌, ◌≡◌}
use Rattle.store.specs.Parts.{store_in, SameSlices}
use Rattle.naming.specs.Parts.{cleared}
use Rattle.naming.proofs.name.clear_rows.Given as goal

abbrev pub invariant-loop-i : goal.invariant-loop-i
invariant-loop-i l = (l.i ≤ l.count) × (store_in l.parts ≡ cleared (store_in l.initial.parts) l.from l.i) × SameSlices l.initial.parts l.parts
