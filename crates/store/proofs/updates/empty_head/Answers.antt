-- Six zeros in a row, and the mark.
use Rattle.std.proofs.Common.{◌∙◌}
use Rattle.std.proofs.lemmas.List.{get_or-replicate}
use Rattle.cells.specs.Rows.{put_cong}
use Rattle.store.specs.Steps.{empty_made}
use Rattle.store.proofs.updates.empty_head.Goals as goal

pub returns : goal.returns
returns c =
    let zeros = put_cong c.args.head.now 0 _ (λ j. 0) 6 (λ i h. get_or-replicate 6 i 0 0 h) in
    λ k r n l o s. empty_made _ _ _ k r n l o s (c.put_row.ensures ∙ zeros) c.put.ensures
