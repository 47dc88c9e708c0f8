use mathlib.Core.Path.{◌≡◌, ◌∙◌, sym, refl}
use mathlib.Core.Bool.{true, false}
use native.Mathlib.Omega.{arith}
use Rattle.cells.specs.First.{first_hit, first_miss, first_end}
use Rattle.naming.proofs.lookup.earlier.Invariants.{alike}
use Rattle.naming.proofs.lookup.earlier.Goals as goal

pub returns-then-same_id : goal.returns-then-same_id
returns-then-same_id c =
    let test : true ≡ alike c.args.call.now c.args.i c.loop-j.j = rw (← c.get.ensures, ← c.get-in-loop-j.ensures) (sym c.if-same_id.true ∙ c.same_id.ensures) in
    sym (c.loop-j.invariant.1 ∙ sym (first_hit (alike c.args.call.now c.args.i) c.args.i c.loop-j.j _ refl true (omega arith) test refl))

pub loop-j-preserved : goal.loop-j-preserved
loop-j-preserved c =
    let test : false ≡ alike c.args.call.now c.args.i c.loop-j.j = rw (← c.get.ensures, ← c.get-in-loop-j.ensures) (sym c.if-same_id.false ∙ c.same_id.ensures) in
    (omega arith, c.loop-j.invariant.1 ∙ first_miss (alike c.args.call.now c.args.i) c.args.i c.loop-j.j _ refl false (omega arith) test refl)

pub returns : goal.returns
returns c = sym (c.loop-j.invariant.1 ∙ sym (first_end (alike c.args.call.now c.args.i) c.args.i c.loop-j.j _ refl (omega arith)))
