use Rattle.cells.specs.First.{first_hit, first_miss, first_end}
use Rattle.std.proofs.Common.{rules}
use Rattle.cells.proofs.ids.first_between.Goals as goal

pub returns-then-is_at : goal.returns-then-is_at
returns-then-is_at c = first_hit _ _ _ _ c.loop-i.invariant _ (search rules) c.is_at.ensures c.if-is_at.true

pub loop-i-preserved : goal.loop-i-preserved
loop-i-preserved c = first_miss _ _ _ _ c.loop-i.invariant _ (search rules) c.is_at.ensures c.if-is_at.false

pub returns : goal.returns
returns c = first_end _ _ _ _ c.loop-i.invariant (search rules)
