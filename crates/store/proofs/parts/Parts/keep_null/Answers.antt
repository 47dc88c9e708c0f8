-- What is put in each part is what `with_null` puts there.
use Rattle.std.proofs.Common.{ap, ◌∙◌}
use Rattle.store.specs.Tables.{spent}
use Rattle.store.specs.Steps.{null_made}
use Rattle.store.proofs.parts.Parts.keep_null.Goals as goal

pub returns-clause-left : goal.returns-clause-left
returns-clause-left c =
    let e = c.spent-e.ensures ∙ ap spent c.view.ensures in
    null_made _ _ _ _ _ _ _ _ _ _ _ _ e c.put_id.ensures.0 c.put_id.ensures.1 c.put.ensures
