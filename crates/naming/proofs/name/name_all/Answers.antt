-- Listing the new ids and clearing as many rows is naming.
use Rattle.std.proofs.Common.{ap, ◌∙◌}
use native.Mathlib.Omega.{arith}
use Rattle.store.specs.Tables.{names}
use Rattle.naming.specs.Loops.{located_count}
use Rattle.naming.proofs.NamedParts.{located_named}
use Rattle.naming.proofs.name.name_all.Goals as goal

pub list_all-requires : goal.list_all-requires
list_all-requires c =
    let pre = c.requires in
    let count = located_count _ _ _ _ pre.1.1.0 in
    (pre.0, (pre.1.0, omega (arith, count, pre.1.1.1)))

pub returns-clause-left : goal.returns-clause-left
returns-clause-left c =
    let pre = c.requires in
    let first = c.names-first.ensures ∙ ap names c.view.ensures in
    located_named _ _ _ _ pre.1.1.0 _ _ _ (omega (arith, pre.0.head_long)) first c.list_all.ensures.left c.clear_rows.ensures.left
