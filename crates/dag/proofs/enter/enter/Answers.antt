use Rattle.std.proofs.Common.{◌∙◌, length, get_or, sym, ap, arith}
use Rattle.store.specs.Tables.{Store, entries, held}
use Rattle.store.specs.Parts.{store_in, same_then}
use Rattle.dag.proofs.Entering.{entered_stop, entered_more, entered_end, child_count, child_long}
use Rattle.dag.proofs.enter.enter.Goals as goal

pub returns-then-not-is_held-clause-left : goal.returns-then-not-is_held-clause-left
returns-then-not-is_held-clause-left c =
    entered_stop (store_in c.loop-i.parts) c.args.names.now.child (λ j. get_or c.args.names.now.parents.now j 0) c.loop-i.i (length c.args.names.now.parents.now) c.loop-i-test.true _ (c.is_held.ensures ∙ ap (λ (t : Store). held t (get_or c.args.names.now.parents.now c.loop-i.i 0)) c.view.ensures) c.if-not-is_held.true
    ∙ sym c.loop-i.invariant.3

pub loop-i-preserved : goal.loop-i-preserved
loop-i-preserved c =
    let child = c.add_child.ensures.left in
    let before = c.loop-i.invariant in (
      ap (λ (t : Store). length t.head) child ∙ child_long _ _ _ ∙ before.0,
      omega (arith, ap (λ (t : Store). entries t) child ∙ child_count (store_in c.loop-i.parts) _ _ before.0, before.1, c.loop-i-test.true),
      same_then before.2 c.add_child.ensures.same,
      before.3 ∙ entered_more (store_in c.loop-i.parts) c.args.names.now.child (λ j. get_or c.args.names.now.parents.now j 0) c.loop-i.i (length c.args.names.now.parents.now) c.loop-i-test.true _ (c.is_held.ensures ∙ ap (λ (t : Store). held t (get_or c.args.names.now.parents.now c.loop-i.i 0)) c.view.ensures) _ c.if-not-is_held.false child,
    )

pub returns-clause-left : goal.returns-clause-left
returns-clause-left c =
    entered_end (store_in c.loop-i.parts) c.args.names.now.child (λ j. get_or c.args.names.now.parents.now j 0) c.loop-i.i (length c.args.names.now.parents.now) c.loop-i-test.false
    ∙ sym c.loop-i.invariant.3
