-- The one cell that `unmarked` puts.
use Rattle.store.specs.Steps.{mark_made}
use Rattle.store.proofs.parts.Parts.unmark.Goals as goal

pub returns-clause-left : goal.returns-clause-left
returns-clause-left c = mark_made _ _ _ _ _ _ _ _ c.put.ensures
