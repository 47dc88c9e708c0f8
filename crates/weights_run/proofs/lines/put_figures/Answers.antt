-- The six texts of a row, each put where the one before it ended.
use Rattle.std.proofs.Common.{rules, w32}
use Rattle.std.proofs.lemmas.Int.{to_z-of_z}
use Rattle.weights_run.specs.OutputLaws.{row_put}
use Rattle.weights_run.proofs.lines.put_figures.Goals as goal

pub returns-clause-put : goal.returns-clause-put
returns-clause-put c =
    let row = c.args.figures in
    let out = c.args.out.now in
    let curvature = to_z-of_z w32 row.curvature (search rules) in
    let weight = to_z-of_z w32 row.weight (search rules) in
    row_put out.bytes.now out.next row.curvature row.alpha row.weight c.requires
    (rw curvature at c.put_signed.ensures.put)
    c.put_byte.ensures.put
    (rw c.from.ensures at c.put_decimal.ensures.put)
    c.put_byte-2.ensures.put
    (rw weight at c.put_signed-2.ensures.put)
    c.put_byte-3.ensures.put
