-- StoreBad: the store is bad exactly when a lent part has another length than its own (docs/STORE.md), a count exceeds its
-- limit, an index is not below its count, a cached depth exceeds the limit of named ids, or a cached curvature its range.
use Rattle.std.specs.Prelude.{ℕ, ◌+◌, ◌*◌, ◌≤◌, Bool, true, ◌&&◌, not, List, [], ◌∷◌, length, get_or, eqb, leb, ltb}
use Rattle.cells.specs.Cells.{every}
use Rattle.store.specs.Limits.{name_limit, parent_limit, child_limit, null_limit, pending_limit, pair_limit, request_limit, curvature_top, head_length, keys_length, rests_length, nodes_length, links_length, nonces_length, tips_length, parents_at, counts_at, depths_at, requests_at, accepted_at, children_at, partners_at, wait_names_at, wait_counts_at, wait_parents_at, wait_missing_at, wait_asked_at, places_at, lasts_at, last_pairs_at, previous_at, previous_pairs_at, curvatures_at}
use Rattle.store.specs.Tables.{Store, used}
use Rattle.store.specs.declared.sound.Counts.{Counts}

------ lengths

-- each part has the length stated in docs/STORE.md
unfoldable pub lengths_right : Store → Bool
lengths_right t =
    eqb (length t.head) head_length
    && eqb (length t.keys) keys_length
    && eqb (length t.rests) rests_length
    && eqb (length t.nodes) nodes_length
    && eqb (length t.links) links_length
    && eqb (length t.nonces) nonces_length
    && eqb (length t.tips) tips_length

------ counts of the head

-- none exceeds its limit
unfoldable pub head_right : Counts → Bool
head_right u =
    leb u.names name_limit
    && leb u.entries child_limit
    && leb u.spent null_limit
    && leb u.pairs pair_limit
    && leb u.waiting pending_limit
    && leb u.accepted name_limit

------ columns

-- a column of a part: its first cell, how many cells it has, how many of them are in use, and what the cell at place i, if
-- it is in use, is to be below
pub record Column : Type 0 where
  pub start : ℕ
  pub size : ℕ
  pub in_use : ℕ
  pub bound : ℕ → ℕ

-- numbers that do not exceed a limit: counts, cached depths and curvatures
abbrev pub up_to : ℕ → ℕ → ℕ → ℕ → Column
up_to limit at z n = record { start = at; size = z; in_use = n; bound = λ i. limit + 1 }

-- indices, each below its count
abbrev pub under : ℕ → ℕ → ℕ → ℕ → Column
under count at z n = record { start = at; size = z; in_use = n; bound = λ i. count }

-- indices below their count that are kept with 1 added: 0 stands for none
abbrev pub one_over : ℕ → ℕ → ℕ → ℕ → Column
one_over count at z n = record { start = at; size = z; in_use = n; bound = λ i. count + 1 }

-- the same, where the count of each is its own place: in a chain an entry has an earlier one before it
abbrev pub earlier : ℕ → ℕ → ℕ → Column
earlier at z n = record { start = at; size = z; in_use = n; bound = λ i. i + 1 }

-- cells that are not looked at
abbrev pub free : ℕ → ℕ → Column
free at z = record { start = at; size = z; in_use = 0; bound = λ i. 0 }

-- the columns of nodes
unfoldable pub nodes_columns : Counts → List Column
nodes_columns u =
    -- counts: a record's parents, requests for a name, a pending record's parents
    up_to parent_limit counts_at name_limit u.names
    ∷ up_to request_limit requests_at name_limit u.names
    ∷ up_to parent_limit wait_counts_at pending_limit u.waiting
    -- cached depths, kept with 1 added
    ∷ up_to (name_limit + 1) depths_at name_limit u.names
    -- indices of names: parents, in all 16 places of every name; the accepted order; children; the other name of a pair;
    -- pending records, and their parents, in all 16 places
    ∷ under u.names parents_at (name_limit * parent_limit) (u.names * parent_limit)
    ∷ under u.names accepted_at name_limit u.accepted
    ∷ under u.names children_at child_limit u.entries
    ∷ under u.names partners_at pair_limit u.pairs
    ∷ under u.names wait_names_at pending_limit u.waiting
    ∷ under u.names wait_parents_at (pending_limit * parent_limit) (u.waiting * parent_limit)
    -- which of a pending record's parents are missing, and for which it is a waiter: a bit for each of the 16 places
    ∷ free wait_missing_at pending_limit
    ∷ free wait_asked_at pending_limit
    ∷ []

-- the columns of links
unfoldable pub links_columns : Counts → List Column
links_columns u =
    -- indices, kept with 1 added: a name's nullifier, its last child entry, its last pair
    one_over u.spent places_at name_limit u.names
    ∷ one_over u.entries lasts_at name_limit u.names
    ∷ one_over u.pairs last_pairs_at name_limit u.names
    -- the entry, and the pair, before one of the same name
    ∷ earlier previous_at child_limit u.entries
    ∷ earlier previous_pairs_at pair_limit u.pairs
    -- cached curvatures, kept with 65,536 added
    ∷ up_to curvature_top curvatures_at pair_limit u.pairs
    ∷ []

-- each cell in use is below its bound
unfoldable pub column_right : List ℕ → Column → Bool
column_right s c = every (λ i. ltb (get_or s (c.start + i) 0) (c.bound i)) c.in_use

unfoldable pub all_right : List ℕ → List Column → Bool
all_right s [] = true
all_right s (c ∷ cs) = column_right s c && all_right s cs

------ the store

-- the store is not bad
unfoldable pub sound : Store → Bool
sound t =
    lengths_right t
    && head_right (used t)
    && all_right t.nodes (nodes_columns (used t))
    && all_right t.links (links_columns (used t))

abbrev pub store_bad : Store → Bool
store_bad t = not (sound t)

-- the counts are within their limits
pub record Within (u : Counts) : Type 0 where
  pub few_names : u.names ≤ name_limit
  pub few_entries : u.entries ≤ child_limit
  pub few_spent : u.spent ≤ null_limit
  pub few_pairs : u.pairs ≤ pair_limit
  pub few_waiting : u.waiting ≤ pending_limit
  pub few_accepted : u.accepted ≤ name_limit
