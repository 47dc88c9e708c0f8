-- The first i ids are listed, and there is room for all of them.
use Rattle.std.specs.Prelude.{◌≤◌, ◌+◌}
use Rattle.bitset.specs.Sets.{count_below}
use Rattle.store.specs.Limits.{name_limit}
use Rattle.store.specs.Tables.{names}
use Rattle.store.specs.Parts.{store_in, SameSlices}
use Rattle.naming.specs.Calls.{ids, id_count}
use Rattle.naming.specs.Loops.{flag, Listing}
use Rattle.naming.proofs.name.list_all.Given as goal

abbrev pub invariant-loop-i : goal.invariant-loop-i
invariant-loop-i l =
    (l.i ≤ id_count l.call) × Listing (store_in l.parts) (store_in l.initial.parts) (ids l.call) (flag l.new) l.i
    × (names (store_in l.initial.parts) + count_below (flag l.new) (id_count l.call) ≤ name_limit) × SameSlices l.initial.parts l.parts
