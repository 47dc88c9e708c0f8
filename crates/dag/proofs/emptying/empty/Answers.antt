-- Refused or emptied, by the test of the lengths.
use Rattle.dag.proofs.Entering.{empty_refused, empty_done}
use Rattle.dag.proofs.emptying.empty.Goals as goal

pub returns-then-not-lengths_right : goal.returns-then-not-lengths_right
returns-then-not-lengths_right c = empty_refused _ _ c.lengths_right.ensures c.if-not-lengths_right.true

pub returns : goal.returns
returns c = empty_done _ _ c.lengths_right.ensures _ c.if-not-lengths_right.false (c.empty_head.ensures _ _ _ _ _ _)
