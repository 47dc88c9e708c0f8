-- The ids of a call.
use Rattle.std.specs.Prelude.{ℕ, suc, length}
use Rattle.cells.specs.Cells.{Id}
use Rattle.naming.specs.Naming.{called}
use Rattle.naming.specs.declared.called.Called.{Called}

-- in argument order: the first, and then those of the list
abbrev pub ids : Called → ℕ → Id
ids c = called c.id.now c.others.now

-- how many there are
abbrev pub id_count : Called → ℕ
id_count c = suc (length c.others.now)
