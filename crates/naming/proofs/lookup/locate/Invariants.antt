-- The first i ids of the call are located.
use Rattle.std.specs.Prelude.{◌≤◌}
use Rattle.store.specs.Parts.{store_seen}
use Rattle.naming.specs.Calls.{ids, id_count}
use Rattle.naming.specs.Located.{Locates, Whole}
use Rattle.naming.proofs.lookup.locate.Given as goal

abbrev pub invariant-loop-i : goal.invariant-loop-i
invariant-loop-i l = (l.i ≤ id_count l.call) × Whole l.at × Locates (store_seen l.view) (ids l.call) l.i l.at
