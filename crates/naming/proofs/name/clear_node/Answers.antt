-- A row of zeros is put, and three cells.
use Rattle.std.proofs.Common.{◌∙◌}
use Rattle.std.proofs.lemmas.List.{get_or-replicate}
use Rattle.cells.specs.Rows.{put_cong}
use Rattle.store.specs.Limits.{parent_limit}
use Rattle.store.specs.Tables.{fresh_node}
use Rattle.naming.proofs.name.clear_node.Goals as goal

pub returns : goal.returns
unfolding fresh_node
returns c =
    let row = c.put_row.ensures ∙ put_cong _ _ _ (λ j. 0) parent_limit (λ i h. get_or-replicate parent_limit i 0 0 h) in
    rw (c.put-3.ensures, c.put-2.ensures, c.put.ensures, row)
