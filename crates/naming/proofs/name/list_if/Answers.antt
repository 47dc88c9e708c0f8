-- The id goes after the last.
use Rattle.std.specs.Prelude.{◌≡◌}
use Rattle.std.proofs.Common.{ap, ◌∙◌}
use Rattle.store.specs.Tables.{names}
use Rattle.store.specs.Parts.{store_in}
use Rattle.naming.specs.Parts.{with_id}
use Rattle.naming.proofs.name.list_if.Goals as goal

pub returns-then-new-clause-left : goal.returns-then-new-clause-left
unfolding with_id
returns-then-new-clause-left c =
    let n : c.names-n.result ≡ names (store_in c.args.parts.now) = c.names-n.ensures ∙ ap names c.view.ensures in
    rw (c.if-new.true, c.put.ensures, c.put_id.ensures.0, c.put_id.ensures.1, n)
