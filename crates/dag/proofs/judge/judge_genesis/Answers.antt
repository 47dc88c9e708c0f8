-- Each way out is one case of the verdict.
use Rattle.std.proofs.Common.{refl, sym, ◌∙◌}
use Rattle.store.specs.Parts.{store_seen}
use Rattle.store.specs.Facts.{sound_known}
use Rattle.dag.specs.Judging.{judges_refused, judges_same, genesis_bad, genesis_long, genesis_room}
use Rattle.dag.specs.Begun.{null_parts}
use Rattle.dag.proofs.judge.judge_genesis.Goals as goal

pub returns-then-not-is_sound : goal.returns-then-not-is_sound
returns-then-not-is_sound c = judges_refused _ _ _ _ _ _ refl (genesis_bad (store_seen c.args.view.now) _ _ _ _ c.is_sound.ensures c.if-not-is_sound.true)

pub returns-then-tx-gt-PARENT_LIMIT : goal.returns-then-tx-gt-PARENT_LIMIT
returns-then-tx-gt-PARENT_LIMIT c =
    judges_refused _ _ _ _ _ _ refl (genesis_long (store_seen c.args.view.now) _ _ _ _ c.is_sound.ensures c.if-not-is_sound.false c.if-tx-gt-PARENT_LIMIT.true)

pub places_wanted-places-requires : goal.places_wanted-places-requires
places_wanted-places-requires c = null_parts (store_seen c.args.view.now) (sound_known _ (sym c.is_sound.ensures ∙ c.if-not-is_sound.false))

pub judge_room-requires : goal.judge_room-requires
judge_room-requires c = (sound_known _ (sym c.is_sound.ensures ∙ c.if-not-is_sound.false), c.if-tx-gt-PARENT_LIMIT.false)

pub returns : goal.returns
returns c =
    judges_same _ _ _ _ _ _
    (genesis_room (store_seen c.args.view.now) c.args.tx.now.id.now _ c.args.tx.now.parents.now _ c.is_sound.ensures c.if-not-is_sound.false c.if-tx-gt-PARENT_LIMIT.false _ c.places_wanted-places.ensures)
    c.judge_room.ensures
