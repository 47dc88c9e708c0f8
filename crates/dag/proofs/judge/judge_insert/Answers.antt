-- Each way out is one case of the verdict.
use Rattle.std.proofs.Common.{refl, sym, ◌∙◌}
use Rattle.store.specs.Parts.{store_seen}
use Rattle.store.specs.Facts.{sound_known}
use Rattle.dag.specs.Judging.{judges_refused, judges_same, insert_bad, insert_long, insert_spent, insert_many, insert_few, insert_room}
use Rattle.dag.specs.Begun.{null_parts}
use Rattle.dag.proofs.judge.judge_insert.Goals as goal

pub returns-then-not-is_sound : goal.returns-then-not-is_sound
returns-then-not-is_sound c = judges_refused _ _ _ _ _ _ refl (insert_bad (store_seen c.args.view.now) _ _ _ _ c.is_sound.ensures c.if-not-is_sound.true)

pub returns-then-count-gt-PARENT_LIMIT : goal.returns-then-count-gt-PARENT_LIMIT
returns-then-count-gt-PARENT_LIMIT c =
    judges_refused _ _ _ _ _ _ refl (insert_long (store_seen c.args.view.now) _ _ _ _ c.is_sound.ensures c.if-not-is_sound.false c.if-count-gt-PARENT_LIMIT.true)

pub is_spent-requires : goal.is_spent-requires
is_spent-requires c = null_parts (store_seen c.args.view.now) (sound_known _ (sym c.is_sound.ensures ∙ c.if-not-is_sound.false))

pub returns-then-is_spent : goal.returns-then-is_spent
returns-then-is_spent c =
    judges_refused _ _ _ _ _ _ refl
    (insert_spent (store_seen c.args.view.now) _ _ _ _ c.is_sound.ensures c.if-not-is_sound.false c.if-count-gt-PARENT_LIMIT.false _ c.is_spent.ensures c.if-is_spent.true)

pub returns-then-count-gt-MOST_PARENTS : goal.returns-then-count-gt-MOST_PARENTS
returns-then-count-gt-MOST_PARENTS c =
    judges_refused _ _ _ _ _ _ refl
    (insert_many (store_seen c.args.view.now) _ _ _ _ c.is_sound.ensures c.if-not-is_sound.false c.if-count-gt-PARENT_LIMIT.false _ c.is_spent.ensures c.if-is_spent.false c.if-count-gt-MOST_PARENTS.true)

pub returns-then-count-lt-FEWEST_PARENTS : goal.returns-then-count-lt-FEWEST_PARENTS
returns-then-count-lt-FEWEST_PARENTS c =
    judges_refused _ _ _ _ _ _ refl
    (insert_few (store_seen c.args.view.now) _ _ _ _ c.is_sound.ensures c.if-not-is_sound.false c.if-count-gt-PARENT_LIMIT.false _ c.is_spent.ensures c.if-is_spent.false c.if-count-gt-MOST_PARENTS.false c.if-count-lt-FEWEST_PARENTS.true)

pub judge_room-requires : goal.judge_room-requires
judge_room-requires c = (sound_known _ (sym c.is_sound.ensures ∙ c.if-not-is_sound.false), c.if-count-gt-PARENT_LIMIT.false)

pub returns : goal.returns
returns c =
    judges_same _ _ _ _ _ _
    (insert_room (store_seen c.args.view.now) c.args.tx.now.id.now _ c.args.tx.now.parents.now _ c.is_sound.ensures c.if-not-is_sound.false c.if-count-gt-PARENT_LIMIT.false _ c.is_spent.ensures c.if-is_spent.false c.if-count-gt-MOST_PARENTS.false c.if-count-lt-FEWEST_PARENTS.false)
    c.judge_room.ensures
