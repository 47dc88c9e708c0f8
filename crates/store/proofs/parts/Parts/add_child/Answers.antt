-- What is put in each part is what `with_child` puts there.
use Rattle.std.proofs.Common.{ap, ◌∙◌}
use Rattle.store.specs.Tables.{entries, last_entry}
use Rattle.store.specs.Steps.{child_made}
use Rattle.store.proofs.parts.Parts.add_child.Goals as goal

pub returns-clause-left : goal.returns-clause-left
returns-clause-left c =
    let e = c.entries-e.ensures ∙ ap entries c.view.ensures in
    let last = c.last_entry-last.ensures ∙ ap (λ t. last_entry t c.args.p) c.view-2.ensures in
    child_made _ _ _ _ _ _ _ _ _ _ _ _ _ _ _ e last c.put.ensures c.put-2.ensures c.put-3.ensures c.put-4.ensures
