use Prim.Native.Nat.{◌<◌}
use mathlib.Core.Path.{sym, refl, ◌∙◌}
use native.Mathlib.Omega.{arith}
use native.Mathlib.Numerals.{add-one}
use Rattle.cells.specs.First.{first_found}
use Rattle.naming.specs.Naming.{call_limit}
use Rattle.naming.specs.Located.{locates_none, locates_step, fresh_few, whole_none, whole_more}
use Rattle.naming.proofs.lookup.locate.Goals as goal

pub loop-i-init : goal.loop-i-init
loop-i-init c = (omega arith, whole_none _ c.nowhere-at.ensures, rw c.nowhere-at.ensures (locates_none _ _))

pub locate_one-requires : goal.locate_one-requires
locate_one-requires c =
    let few = fresh_few _ _ _ _ c.loop-i.invariant.2 in
    let names = c.requires.0.few in (
      (c.requires.0, omega (arith, few, names, c.requires.1, c.loop-i.invariant.0)),
      λ j e. omega (arith, c.requires.1, c.loop-i-test.true, c.count-i-end.ensures, (first_found _ _ _ _ (sym c.earlier.ensures ∙ e)).below),
    )

pub with-at-requires : goal.with-at-requires
with-at-requires c =
    let few = fresh_few _ _ _ _ c.loop-i.invariant.2 in
    omega (arith, few, c.requires.1, c.loop-i-test.true, c.count-i-end.ensures)

pub loop-i-preserved : goal.loop-i-preserved
loop-i-preserved c =
    let inside : c.loop-i.i < call_limit = omega (arith, c.requires.1, c.loop-i-test.true, c.count-i-end.ensures) in (
      omega (arith, c.loop-i-test.true, c.count-i-end.ensures),
      whole_more _ _ _ _ c.loop-i.invariant.1 c.with-at.ensures,
      rw (add-one c.loop-i.i)
          (locates_step _ _ c.loop-i.i _ c.loop-i.invariant.2 _ _ _ _ _ c.loop-i.invariant.1 inside refl refl c.earlier.ensures
          (rw (← c.get.ensures) c.locate_one.ensures) c.with-at.ensures),
    )
