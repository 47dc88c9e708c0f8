-- `cells::ids::key_of` meets its contract.
use Rattle.cells.specs.Cells.{key_of}
use Rattle.cells.proofs.ids.key_of.Goals as goal

pub returns : goal.returns
unfolding key_of
returns c = (c.from_le_bytes.ensures, record { long = c.told-x; bytes = c.fits-x })
