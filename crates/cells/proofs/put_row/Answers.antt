use Rattle.std.proofs.Common.{◌∙◌, arith}
use Rattle.std.specs.Prelude.{get_or}
use Rattle.std.proofs.lemmas.List.{get_or_default}
use Rattle.cells.specs.Rows.{put_start, put_step}
use Rattle.cells.proofs.put_row.Goals as goal

pub loop-j-init : goal.loop-j-init
loop-j-init g c = (omega arith, put_start c.args.s.now c.args.at (λ i. get_or c.args.row.now i g.T.Cell.zero))

pub loop-j-preserved : goal.loop-j-preserved
loop-j-preserved g c =
    let row = c.args.row.now in
    let j = c.loop-j.j in
    let value = c.index-row-j.is ∙ get_or_default row j c.index-row-j.result g.T.Cell.zero c.loop-j-test.true in
    (omega arith, c.put.ensures ∙ rw value (put_step c.args.s.now c.loop-j.s c.args.at (λ i. get_or row i g.T.Cell.zero) j c.loop-j.invariant.1))
