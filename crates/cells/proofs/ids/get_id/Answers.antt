-- `cells::ids::get_id` meets its contract: four bytes of the key, and the other 28 after them.
use Rattle.std.proofs.Common.{◌*◌, append-nil, arith}
use Rattle.cells.specs.Cells.{id_at}
use Rattle.cells.proofs.Slices.{part_row}
use Rattle.cells.proofs.ids.get_id.Goals as goal

pub returns : goal.returns
unfolding id_at
returns c =
    rw (c.copy_from_slice.ensures.after, c.copy_from_slice-2.ensures.after, c.to_le_bytes.ensures, append-nil, part_row c.args.rests.now (c.args.p * 28) 28 (omega (arith, c.requires.rests_long)))
