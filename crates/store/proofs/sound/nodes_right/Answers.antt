-- `nodes_right` meets its contract: it tests column after column of the definition, and each loop says what it tests.
use Rattle.store.specs.Check.{nodes_checked}
use Rattle.store.proofs.sound.nodes_right.Goals as goal

pub returns : goal.returns
returns c =
    rw (
      c.all_below.ensures,
      c.all_below-2.ensures,
      c.all_below-3.ensures,
      c.all_below-4.ensures,
      c.all_below-5.ensures,
      c.all_below-6.ensures,
      c.all_below-7.ensures,
      c.all_below-8.ensures,
      c.all_below-9.ensures,
      c.all_below-10.ensures,
    )
    (nodes_checked c.args.nodes.now c.args.u)
