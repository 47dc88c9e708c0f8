-- `fixed::quotient` meets its contract: 64 bits hold the product of two numbers of 32, and a quotient of it.
use Rattle.std.proofs.Common.{◌≡◌, ◌<◌, false, ℤ, pos, negsuc, FitsSigned, w32, w64, of_z, to_z, arith, ◌∙◌}
use Rattle.std.proofs.lemmas.Bool.{eqb-false}
use Rattle.std.proofs.Math.Facts.{to_z-of_z, sfits_widen}
use Rattle.fixed.specs.Rules.{is_zero}
use Rattle.fixed.proofs.Fits.{product64, quotient64}
use Rattle.fixed.proofs.quotient.Goals as goal

not_zero : (d : ℤ) → FitsSigned w32 d → is_zero d ≡ false → 0 < of_z w64 d
not_zero (pos n) f h = omega (arith, eqb-false n 0 h)
not_zero (negsuc n) f h = omega arith

-- what a cast to `i64` holds
widened : {z : ℤ} → FitsSigned w32 z → to_z w64 (of_z w64 (to_z w32 (of_z w32 z))) ≡ z
widened f = rw (to_z-of_z f, to_z-of_z (sfits_widen tt f))

pub nonzero_div-a : goal.nonzero_div-a
nonzero_div-a c =
    let f = c.ranges in (
      rw (to_z-of_z f.d) (not_zero c.args.d f.d c.requires),
      rw (widened f.a, widened f.b, widened f.d, to_z-of_z (product64 f.a f.b)) (quotient64 f.a f.b c.args.d),
    )

pub returns : goal.returns
returns c =
    let f = c.ranges in
    let fits : FitsSigned w32 c.low_bits.result = record { sfits = c.low_bits.type_inv } in
    to_z-of_z fits ∙ (rw (widened f.a, widened f.b, widened f.d, to_z-of_z (product64 f.a f.b), to_z-of_z (quotient64 f.a f.b c.args.d)) at c.low_bits.ensures)
