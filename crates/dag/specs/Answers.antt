-- The number and the values of each reply.
use Rattle.std.specs.Prelude.{ℕ, List, [], ◌∷◌, get_or, Result, Ok, Err, ⊤}
use Rattle.cells.specs.Cells.{Id}
use Rattle.dag.specs.declared.answers.DagRefusal.{DagRefusal}
use Rattle.dag.specs.declared.answers.DagRefusal.TheVariants.{StoreBad, ListTooLong, DuplicateNullifier, TooManyParents, TooFewParents, MissingParent, NameRoom, ChildRoom, NullifierRoom}

-- the number, and the values that the table of replies names
pub record Numbered : Type 0 where
  pub number : ℕ
  pub values : List ℕ
  pub id : List Id

abbrev pub alone : ℕ → Numbered
alone n = record { number = n; values = []; id = [] }

-- a refusal; ps is the call's list of parents
unfoldable pub numbered : DagRefusal → List Id → Numbered
numbered StoreBad ps = alone 1
numbered ListTooLong ps = alone 2
numbered DuplicateNullifier ps = alone 3
numbered (TooManyParents c l) ps = record { number = 4; values = c ∷ l ∷ []; id = [] }
numbered (TooFewParents c l) ps = record { number = 5; values = c ∷ l ∷ []; id = [] }
numbered (MissingParent i) ps = record { number = 6; values = []; id = get_or ps i [] ∷ [] }
numbered NameRoom ps = alone 7
numbered ChildRoom ps = alone 8
numbered NullifierRoom ps = alone 9

-- a served call replies 0
unfoldable pub replied : Result ⊤ DagRefusal → List Id → Numbered
replied (Ok done) ps = alone 0
replied (Err r) ps = numbered r ps
