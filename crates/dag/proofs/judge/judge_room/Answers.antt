-- Each way out is one case of the verdict; a fine one has the call's ids as they were located.
use Rattle.std.proofs.Common.{refl}
use Rattle.store.specs.Parts.{store_seen}
use Rattle.dag.specs.Judging.{judges_refused, judges_fine, room_names, room_children, room_nulls, room_fine}
use Rattle.dag.proofs.judge.judge_room.Goals as goal

pub returns-then-used-at : goal.returns-then-used-at
returns-then-used-at c =
    let l = rw c.ids.ensures at c.locate-at.ensures in
    judges_refused _ _ _ _ _ _ refl (room_names (store_seen c.args.view.now) _ _ _ _ c.counts-used.ensures _ l.fresh c.if-used-at.true)

pub returns-then-used-tx : goal.returns-then-used-tx
returns-then-used-tx c =
    let l = rw c.ids.ensures at c.locate-at.ensures in
    judges_refused _ _ _ _ _ _ refl (room_children (store_seen c.args.view.now) _ _ _ _ c.counts-used.ensures _ l.fresh c.if-used-at.false c.if-used-tx.true)

pub returns-then-used-places : goal.returns-then-used-places
returns-then-used-places c =
    let l = rw c.ids.ensures at c.locate-at.ensures in
    judges_refused _ _ _ _ _ _ refl (room_nulls (store_seen c.args.view.now) _ _ _ _ c.counts-used.ensures _ l.fresh c.if-used-at.false c.if-used-tx.false c.if-used-places.true)

pub returns : goal.returns
returns c =
    let l = rw c.ids.ensures at c.locate-at.ensures in
    judges_fine _ _ _ _ _ (room_fine (store_seen c.args.view.now) _ _ _ _ c.counts-used.ensures _ l.fresh c.if-used-at.false c.if-used-tx.false c.if-used-places.false) l
