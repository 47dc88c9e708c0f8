use Rattle.std.proofs.Common.{ap, ◌&&◌, ◌∙◌, leb, arith, ◌<◌}
use Rattle.cells.specs.Every.{every_start, every_step}
use Rattle.cells.proofs.Slices.{part_cell, part_length}
use Rattle.cells.proofs.columns.all_falling.Goals as goal

pub loop-i-init : goal.loop-i-init
loop-i-init c = every_start _

pub loop-i-preserved : goal.loop-i-preserved
loop-i-preserved c =
    let a = c.args in
    let i = c.loop-i.i in
    let inside : i < a.n = omega (arith, part_length a.s.now a.from a.n c.requires.0) in
    ap (λ v. c.loop-i.ok && leb v i) (part_cell a.s.now a.from a.n i 0 inside) ∙ every_step _ _ _ c.loop-i.invariant
