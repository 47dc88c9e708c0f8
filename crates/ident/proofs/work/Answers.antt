-- The test itself: the hash is thirty-two bytes, as the target is, so that the order of arrays is that of the numbers.
use Rattle.std.proofs.Common.{rules}
use Rattle.ident.specs.Parts.{work_by_cmp}
use Rattle.ident.proofs.work.Goals as goal

pub returns : goal.returns
returns c = work_by_cmp _ _ _ _ _ (search rules) (search rules) _ c.work_hash-hash.ensures (search rules) (search rules) _ (search rules)
