-- `links_right` meets its contract: it tests column after column of the definition, and each loop says what it tests.
use Rattle.store.specs.Check.{links_checked}
use Rattle.store.proofs.sound.links_right.Goals as goal

pub returns : goal.returns
returns c =
    rw (
      c.all_below.ensures,
      c.all_below-2.ensures,
      c.all_below-3.ensures,
      c.all_falling.ensures,
      c.all_falling-2.ensures,
      c.all_below-4.ensures,
    )
    (links_checked c.args.links.now c.args.u)
