-- The five planes are the whole of the new state.
use Rattle.keccak.proofs.Row.{whole}
use Rattle.keccak.proofs.round.Goals as goal

pub returns : goal.returns
returns c =
    whole _ _ c.args.e.now _ _ _ _ _ c.args.constant c.told-e c.from_columns-d.ensures c.plane.ensures c.plane-2.ensures
    c.plane-3.ensures c.plane-4.ensures c.plane-5.ensures
