-- `weights_line::line::Counts::figures` meets its contract: where the curvature is served it is in range, so the weight is served too.
use Rattle.std.proofs.Common.{rules, w32, FitsSigned}
use Rattle.std.proofs.Math.Facts.{to_z-of_z}
use Rattle.weights_line.specs.FigureLaws.{all_figures}
use Rattle.weights_line.proofs.line.Counts.figures.Goals as goal

pub returns : goal.returns
returns c =
    let k = c.in_ok-curvature.curvature.0 in
    let w = c.in_ok-weight.weight.0 in
    let k_fits : FitsSigned w32 k = search rules in
    let w_fits : FitsSigned w32 w = search rules in
    all_figures _ _ _ k c.in_ok-curvature.ensures w c.in_ok-weight.ensures (to_z-of_z k_fits) c.alpha.ensures (to_z-of_z w_fits)
