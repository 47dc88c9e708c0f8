-- A bad store is refused; else the nullifier is looked up.
use Rattle.std.proofs.Common.{sym, ◌∙◌}
use Rattle.store.specs.Parts.{store_seen}
use Rattle.store.specs.Facts.{sound_known}
use Rattle.dag.specs.Begun.{null_parts}
use Rattle.dag.proofs.Served.{read_bad, read_served}
use Rattle.dag.proofs.reads.has_nullifier.Goals as goal

pub returns-then-not-is_sound : goal.returns-then-not-is_sound
returns-then-not-is_sound c = read_bad (store_seen c.args.view.now) _ _ c.is_sound.ensures c.if-not-is_sound.true

pub is_spent-requires : goal.is_spent-requires
is_spent-requires c = null_parts (store_seen c.args.view.now) (sound_known _ (sym c.is_sound.ensures ∙ c.if-not-is_sound.false))

pub returns : goal.returns
returns c = read_served (store_seen c.args.view.now) _ _ c.is_sound.ensures c.if-not-is_sound.false _ c.is_spent.ensures
