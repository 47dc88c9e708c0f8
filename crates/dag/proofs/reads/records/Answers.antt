-- One name more is counted if it is held; no more are counted than there were.
use Rattle.std.proofs.Common.{sym, arith}
use Rattle.bitset.specs.Counts.{count_zero, counted_le}
use Rattle.store.specs.Tables.{held}
use Rattle.store.specs.Parts.{store_seen}
use Rattle.dag.proofs.Served.{flag_few, counted_next}
use Rattle.dag.proofs.reads.records.Goals as goal

pub loop-name-init : goal.loop-name-init
loop-name-init c = sym (count_zero (held (store_seen c.args.view.now)))

pub overflow_add-count : goal.overflow_add-count
overflow_add-count c =
    let few = counted_le (held (store_seen c.args.view.now)) c.loop-name.name _ c.loop-name.invariant in
    omega (arith, few, c.loop-name-test.true, c.names-name-end.ensures, c.requires, flag_few _ _ c.from-count.ensures)

pub loop-name-preserved : goal.loop-name-preserved
loop-name-preserved c = counted_next (held (store_seen c.args.view.now)) c.loop-name.name _ _ c.loop-name.invariant _ c.is_held.ensures c.from-count.ensures
