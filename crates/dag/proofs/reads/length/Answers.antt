-- A bad store is refused; else the records are counted.
use Rattle.std.proofs.Common.{sym, ◌∙◌}
use Rattle.store.specs.Parts.{store_seen}
use Rattle.store.specs.Facts.{sound_known}
use Rattle.dag.proofs.Served.{read_bad, read_served}
use Rattle.dag.proofs.reads.length.Goals as goal

pub returns-then-not-is_sound : goal.returns-then-not-is_sound
returns-then-not-is_sound c = read_bad (store_seen c.args.view.now) _ _ c.is_sound.ensures c.if-not-is_sound.true

pub records-requires : goal.records-requires
records-requires c = (sound_known _ (sym c.is_sound.ensures ∙ c.if-not-is_sound.false)).within.few_names

pub returns : goal.returns
returns c = read_served (store_seen c.args.view.now) _ _ c.is_sound.ensures c.if-not-is_sound.false _ c.records.ensures
