-- Each way out is a case of `spot_of`.
use mathlib.Core.Path.{sym, ◌∙◌}
use native.Mathlib.Omega.{arith}
use Rattle.cells.specs.First.{first_found}
use Rattle.naming.specs.Located.{spot_of}
use Rattle.naming.proofs.lookup.locate_one.Goals as goal

pub overflow_cast-result : goal.overflow_cast-result
overflow_cast-result c =
    let pre = c.requires in
    let h = (first_found _ _ _ _ (sym c.number_of.ensures ∙ c.in-Some-number_of.is)).below in omega (arith, pre.0.1)

pub returns-in-Some : goal.returns-in-Some
unfolding spot_of
returns-in-Some c = rw c.in-Some.is

pub returns-in-Some-number_of : goal.returns-in-Some-number_of
unfolding spot_of
returns-in-Some-number_of c = rw (c.in-None.is, ← c.number_of.ensures, c.in-Some-number_of.is)

pub returns-in-None-number_of : goal.returns-in-None-number_of
unfolding spot_of
returns-in-None-number_of c = rw (c.in-None.is, ← c.number_of.ensures, c.in-None-number_of.is, c.names.ensures)
