-- The names so far that are held are counted.
use Rattle.std.proofs.Common.{◌≡◌}
use Rattle.bitset.specs.Sets.{count_below}
use Rattle.store.specs.Tables.{held}
use Rattle.store.specs.Parts.{store_seen}
use Rattle.dag.proofs.reads.records.Given as goal

abbrev pub invariant-loop-name : goal.invariant-loop-name
invariant-loop-name l = l.count ≡ count_below (held (store_seen l.view)) l.name
