use Rattle.std.proofs.Common.{ltb, ◌+◌, get_or}
use Rattle.cells.specs.Every.{every_start, every_step}
use Rattle.cells.proofs.Slices.{part_read}
use Rattle.cells.proofs.columns.all_below.Goals as goal

pub loop-cell-init : goal.loop-cell-init
loop-cell-init g c = every_start _

pub loop-cell-preserved : goal.loop-cell-preserved
loop-cell-preserved g c =
    let cell = g.T.Cell in
    let a = c.args in
    let i = c.loop-cell.cell-index in
    let read = part_read a.s.now a.from a.n i c.cell-item.result cell.zero c.requires c.loop-cell-test.true c.cell-item.is in
    rw (c.lt-ok.ensures, g.met.T.Cell.ordered c.cell-item.result a.bound, read)
    (every_step (λ k. ltb (cell.number (get_or a.s.now (a.from + k) cell.zero)) (cell.number a.bound)) i c.loop-cell.ok c.loop-cell.invariant)
