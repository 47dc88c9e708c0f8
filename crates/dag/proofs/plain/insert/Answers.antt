-- The verdict, and what is left where it is fine.
use Rattle.store.specs.Parts.{store_in}
use Rattle.dag.specs.Judging.{judged_err, judged_ok, insert_fine}
use Rattle.dag.proofs.Entering.{passed_on, insert_refused, insert_tried_lem}
use Rattle.dag.proofs.plain.insert.Goals as goal

pub returns-in_err-at-clause-left : goal.returns-in_err-at-clause-left
returns-in_err-at-clause-left c =
    let refused = judged_err _ _ _ _ _ (rw c.view.ensures at c.judge_insert.ensures) _ c.in_err-at.was in
    rw (passed_on _ _ c.from_residual.ensures.1) (insert_refused (store_in c.args.parts.now) _ _ _ _ refused)

pub apply_insert-requires : goal.apply_insert-requires
apply_insert-requires c =
    let judged = rw c.view.ensures at c.judge_insert.ensures in
    (insert_fine _ _ _ _ (judged_ok _ _ _ _ _ judged _ c.in_ok-at.was), judged.located _ c.in_ok-at.was)

pub returns-clause-left : goal.returns-clause-left
returns-clause-left c =
    insert_tried_lem (store_in c.args.parts.now) _ _ _ _ (judged_ok _ _ _ _ _ (rw c.view.ensures at c.judge_insert.ensures) _ c.in_ok-at.was) c.apply_insert.ensures.left
