-- The reads. Each refuses a bad store and nothing else, and changes nothing.
use Rattle.std.specs.Prelude.{ℕ, Bool, true, false, eqb, Result, Ok, Err}
use Rattle.bitset.specs.Sets.{count_below}
use Rattle.cells.specs.Cells.{Id}
use Rattle.store.specs.Tables.{Store, names, held, is_spent, contains}
use Rattle.store.specs.Sound.{store_bad}
use Rattle.dag.specs.declared.answers.DagRefusal.{DagRefusal}
use Rattle.dag.specs.declared.answers.DagRefusal.TheVariants.{StoreBad}

abbrev pub served_unless : {A : Type 0} → Bool → A → Result A DagRefusal
served_unless true a = Err StoreBad
served_unless false a = Ok a

-- refused where the store is bad, else served with a
abbrev pub read_of : {A : Type 0} → Store → A → Result A DagRefusal
read_of t a = served_unless (store_bad t) a

-- whether the store holds a record of x: to be named is not enough, and of equal names the lowest counts
abbrev pub contains_of : Store → Id → Result Bool DagRefusal
contains_of t x = read_of t (contains t x)

-- whether z is among the nullifiers that are kept
abbrev pub has_nullifier_of : Store → Id → Result Bool DagRefusal
has_nullifier_of t z = read_of t (is_spent t z)

-- how many records are held: so many of the names in use have one
abbrev pub records : Store → ℕ
records t = count_below (held t) (names t)

abbrev pub length_of : Store → Result ℕ DagRefusal
length_of t = read_of t (records t)

-- whether no record is held, be there names or not
abbrev pub is_empty_of : Store → Result Bool DagRefusal
is_empty_of t = read_of t (eqb (records t) 0)
