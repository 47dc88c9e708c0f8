use Rattle.std.proofs.Common.{◌≡◌, ◌∙◌, length, get_or, ap, arith}
use Rattle.store.specs.Tables.{Store, entries, held}
use Rattle.store.specs.Parts.{store_in, SameSlices, same_start, same_then}
use Rattle.dag.specs.Rules.{entered_if}
use Rattle.dag.proofs.Entering.{held_start, held_step, if_count, if_long, if_held, if_unheld}
use Rattle.dag.proofs.enter.enter_held.Goals as goal
use Rattle.dag.proofs.enter.enter_held.Goals.{then-is_held, else-is_held}

pub loop-parent-init : goal.loop-parent-init
loop-parent-init c = (c.requires.head_long, omega (arith, c.requires.room), same_start _, held_start _ _ _)

pub loop-parent-preserved : goal.loop-parent-preserved
loop-parent-preserved c =
    let t = store_in c.loop-parent.parts in
    let p = get_or c.args.names.now.parents.now c.loop-parent.parent-index 0 in
    let seen : c.is_held.result ≡ held t p = c.is_held.ensures ∙ ap (λ (u : Store). held u p) c.view.ensures in
    let entry : store_in c.if-is_held.parts ≡ entered_if t p c.args.names.now.child =
    elim c.if-is_held.branch [
      | then-is_held w ↦ ap store_in w.parts-is ∙ if_held t p c.args.names.now.child _ seen _ w.if-is_held.true w.add_child.ensures.left
      | else-is_held w ↦ ap store_in w.parts-is ∙ if_unheld t p c.args.names.now.child _ seen w.if-is_held.false
    ] in
    let same : SameSlices c.loop-parent.parts c.if-is_held.parts =
    elim c.if-is_held.branch [ then-is_held w ↦ rw w.parts-is w.add_child.ensures.same | else-is_held w ↦ rw w.parts-is (same_start _) ] in
    let before = c.loop-parent.invariant in (
      ap (λ (u : Store). length u.head) entry ∙ if_long t p c.args.names.now.child ∙ before.0,
      omega (arith, ap (λ (u : Store). entries u) entry, if_count t p c.args.names.now.child before.0, before.1, c.loop-parent-test.true),
      same_then before.2 same,
      held_step (store_in c.args.parts.now) t (store_in c.if-is_held.parts) c.args.names.now.child (λ j. get_or c.args.names.now.parents.now j 0) c.loop-parent.parent-index before.3 entry,
    )
