-- A bad store is refused; else the id has a number, which tells whether it is held, or none.
use Rattle.std.proofs.Common.{sym, ap, ◌∙◌}
use Rattle.store.specs.Parts.{store_seen}
use Rattle.store.specs.Tables.{held_if}
use Rattle.store.specs.Facts.{sound_known}
use Rattle.dag.specs.Begun.{name_parts}
use Rattle.dag.proofs.Served.{read_bad, read_served, found_name}
use Rattle.dag.proofs.reads.contains.Goals as goal

pub returns-then-not-is_sound : goal.returns-then-not-is_sound
returns-then-not-is_sound c = read_bad (store_seen c.args.view.now) _ _ c.is_sound.ensures c.if-not-is_sound.true

pub number_of-requires : goal.number_of-requires
number_of-requires c = name_parts (store_seen c.args.view.now) (sound_known _ (sym c.is_sound.ensures ∙ c.if-not-is_sound.false))

pub is_held-requires : goal.is_held-requires
is_held-requires c =
    found_name (store_seen c.args.view.now) _ _ (sound_known _ (sym c.is_sound.ensures ∙ c.if-not-is_sound.false)) (sym c.number_of.ensures ∙ c.in-Some.is)

pub returns-in-Some : goal.returns-in-Some
returns-in-Some c =
    read_served (store_seen c.args.view.now) _ _ c.is_sound.ensures c.if-not-is_sound.false _
    (c.is_held.ensures ∙ ap (held_if (store_seen c.args.view.now)) (sym c.in-Some.is ∙ c.number_of.ensures))

pub returns-in-None : goal.returns-in-None
returns-in-None c =
    read_served (store_seen c.args.view.now) _ _ c.is_sound.ensures c.if-not-is_sound.false _
    (ap (held_if (store_seen c.args.view.now)) (sym c.in-None.is ∙ c.number_of.ensures))
