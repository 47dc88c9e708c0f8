-- Three cells are put.
use Rattle.store.specs.Tables.{fresh_link}
use Rattle.naming.proofs.name.clear_link.Goals as goal

pub returns : goal.returns
unfolding fresh_link
returns c = rw (c.put-3.ensures, c.put-2.ensures, c.put.ensures)
