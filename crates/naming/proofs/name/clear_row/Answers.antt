-- Each part is cleared by its own call.
use Rattle.naming.specs.Parts.{with_row}
use Rattle.naming.proofs.name.clear_row.Goals as goal

pub returns-clause-left : goal.returns-clause-left
unfolding with_row
returns-clause-left c = rw (c.clear_node.ensures, c.clear_link.ensures, c.put.ensures, c.remove.ensures)
