use Prim.Native.Nat.{◌<◌}
use native.Mathlib.Omega.{arith}
use native.Mathlib.Numerals.{add-one}
use Rattle.store.specs.Parts.{same_start, same_then}
use Rattle.naming.specs.Calls.{id_count}
use Rattle.naming.specs.Loops.{listing_none, listing_room, listing_more}
use Rattle.naming.proofs.name.list_all.Goals as goal

pub loop-i-init : goal.loop-i-init
loop-i-init c = (omega arith, listing_none _ _ _ c.requires.0, omega (arith, c.requires.1.1), same_start _)

pub list_if-requires : goal.list_if-requires
list_if-requires c =
    let before = c.loop-i.invariant in
    (before.1.right, listing_room _ _ _ _ _ _ before.1 before.2 (omega (arith, c.loop-i-test.true, c.count-i-end.ensures)))

pub loop-i-preserved : goal.loop-i-preserved
loop-i-preserved c =
    let before = c.loop-i.invariant in
    let inside : c.loop-i.i < id_count c.args.call.now = omega (arith, c.loop-i-test.true, c.count-i-end.ensures) in
    let more = listing_more _ _ _ _ _ _ before.1 before.2 inside _ (rw (← c.get.ensures) c.list_if.ensures.left) in
    (omega (arith, inside), rw (add-one c.loop-i.i) more, before.2, same_then before.3 c.list_if.ensures.same)
