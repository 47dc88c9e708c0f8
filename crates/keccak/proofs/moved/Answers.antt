-- The lane is turned by what the table has for it, which is below 64.
use mathlib.Core.Path.{ap, ◌∙◌}
use Prim.Native.Nat.{ℕ, ◌/◌, ◌%◌, ◌<◌}
use native.Mathlib.Nat.{mod-lt}
use lib.Dec.{lit<}
use Rattle.keccak.specs.Fips202.{offset}
use Rattle.std.specs.Int.{w64, rotate_left}
use Rattle.keccak.specs.Lanes.{rotation, moved}
use Rattle.keccak.proofs.Row.{entry, turned_by}
use Rattle.keccak.proofs.moved.Goals as goal

small : (i : ℕ) → rotation i < 64
unfolding rotation
small i = mod-lt (offset (i % 5) (i / 5)) (lit< tt)

pub returns : goal.returns
unfolding moved
returns c =
    let e = entry 25 c.args.i c.rotations.result rotation c.rotations.ensures c.requires in
    c.rotate_left.ensures ∙ ap (rotate_left w64 _) e ∙ turned_by _ _ (small c.args.i)
