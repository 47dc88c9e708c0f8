-- The store's parts as tables: what each cell means (views), and what each step of a call changes (updates).
use Rattle.std.specs.Prelude.{ℕ, zero, suc, ◌+◌, ◌*◌, Bool, false, List, [], ◌∷◌, ◌++◌, get_or, set, eqb, ltb, Option, Some, None}
use Rattle.cells.specs.Cells.{Id, id_at, first_id, is_at, row_put, keys_put, rests_put}
use Rattle.bitset.specs.Sets.{member, without}
use Rattle.store.specs.declared.sound.Counts.{Counts}
use Rattle.store.specs.Limits.{parent_limit, names_at, nulls_at, wait_nulls_at, parents_at, counts_at, depths_at, requests_at, accepted_at, children_at, partners_at, wait_names_at, wait_counts_at, wait_parents_at, wait_missing_at, wait_asked_at, places_at, lasts_at, last_pairs_at, previous_at, previous_pairs_at, curvatures_at}

-- the seven lent parts
pub record Store : Type 0 where
  pub head : List ℕ
  pub keys : List ℕ
  pub rests : List ℕ
  pub nodes : List ℕ
  pub links : List ℕ
  pub nonces : List ℕ
  pub tips : List ℕ

abbrev pub store : List ℕ → List ℕ → List ℕ → List ℕ → List ℕ → List ℕ → List ℕ → Store
store h k r n l o p = record { head = h; keys = k; rests = r; nodes = n; links = l; nonces = o; tips = p }

------ counts

-- named ids
abbrev pub names : Store → ℕ
names t = get_or t.head 0 0

-- child entries
abbrev pub entries : Store → ℕ
entries t = get_or t.head 1 0

-- nullifiers
abbrev pub spent : Store → ℕ
spent t = get_or t.head 2 0

-- cached curvature pairs
abbrev pub pairs : Store → ℕ
pairs t = get_or t.head 3 0

-- pending records
abbrev pub waiting : Store → ℕ
waiting t = get_or t.head 4 0

-- records in the accepted order
abbrev pub accepted : Store → ℕ
accepted t = get_or t.head 5 0

-- how far each table is in use
abbrev pub counts_in : List ℕ → Counts
counts_in h =
    record {
      names = get_or h 0 0;
      entries = get_or h 1 0;
      spent = get_or h 2 0;
      pairs = get_or h 3 0;
      waiting = get_or h 4 0;
      accepted = get_or h 5 0;
    }

abbrev pub used : Store → Counts
used t = counts_in t.head

-- the mark of a strict store
abbrev pub marked : Store → Bool
marked t = eqb (get_or t.head 6 0) 1

------ names

-- the id of name n
abbrev pub id_of : Store → ℕ → Id
id_of t n = id_at t.keys t.rests (names_at + n)

-- of equal names the lowest counts
abbrev pub number_of : Store → Id → Option ℕ
number_of t x = first_id t.keys t.rests names_at (names t) x

abbrev pub is_named : Store → Id → Bool
is_named t x = is_at (number_of t x)

------ nullifiers

-- the nullifier at place p
abbrev pub null_of : Store → ℕ → Id
null_of t p = id_at t.keys t.rests (nulls_at + p)

abbrev pub place_of : Store → Id → Option ℕ
place_of t z = first_id t.keys t.rests nulls_at (spent t) z

abbrev pub is_spent : Store → Id → Bool
is_spent t z = is_at (place_of t z)

------ records

-- the place of name n's nullifier, and 1 more: 0 where n has no record
abbrev pub place_cell : Store → ℕ → ℕ
place_cell t n = get_or t.links (places_at + n) 0

-- name n has a record
abbrev pub held : Store → ℕ → Bool
held t n = ltb 0 (place_cell t n)

abbrev pub held_if : Store → Option ℕ → Bool
held_if t (Some n) = held t n
held_if t None = false

-- the store holds a record of x
abbrev pub contains : Store → Id → Bool
contains t x = held_if t (number_of t x)

abbrev pub parent_count : Store → ℕ → ℕ
parent_count t n = get_or t.nodes (counts_at + n) 0

-- the name of n's parent at place j of its list
abbrev pub parent_at : Store → ℕ → ℕ → ℕ
parent_at t n j = get_or t.nodes (parents_at + (n * parent_limit + j)) 0

-- the nonce last kept for name n
abbrev pub nonce_of : Store → ℕ → ℕ
nonce_of t n = get_or t.nonces n 0

------ children

-- the last child entry of name n, and 1 more: 0 where it has none
abbrev pub last_entry : Store → ℕ → ℕ
last_entry t n = get_or t.links (lasts_at + n) 0

-- entry e: the child, and the same parent's previous entry, and 1 more
abbrev pub child_at : Store → ℕ → ℕ
child_at t e = get_or t.nodes (children_at + e) 0

abbrev pub previous : Store → ℕ → ℕ
previous t e = get_or t.links (previous_at + e) 0

-- the children of the chain that ends in entry e - 1, the oldest first, by at most f steps
unfoldable pub chain : Store → ℕ → ℕ → List ℕ
chain t zero e = []
chain t (suc f) zero = []
chain t (suc f) (suc e) = chain t f (previous t e) ++ (child_at t e ∷ [])

-- the children of name n in the order in which they came, repeated ones too
unfoldable pub children_of : Store → ℕ → List ℕ
children_of t n = chain t (last_entry t n) (last_entry t n)

------ caches

-- the cached depth of name n, and 1 more: 0 where none is cached
abbrev pub depth_cell : Store → ℕ → ℕ
depth_cell t n = get_or t.nodes (depths_at + n) 0

-- the last cached pair whose first name is n, and 1 more: 0 where there is none
abbrev pub last_pair : Store → ℕ → ℕ
last_pair t n = get_or t.links (last_pairs_at + n) 0

-- pair i: its second name, its curvature and 65,536 more, and the previous pair with the same first name, and 1 more
abbrev pub partner : Store → ℕ → ℕ
partner t i = get_or t.nodes (partners_at + i) 0

abbrev pub curvature_cell : Store → ℕ → ℕ
curvature_cell t i = get_or t.links (curvatures_at + i) 0

abbrev pub previous_pair : Store → ℕ → ℕ
previous_pair t i = get_or t.links (previous_pairs_at + i) 0

------ the accepted order

-- the name of the i-th accepted record
abbrev pub accepted_as : Store → ℕ → ℕ
accepted_as t i = get_or t.nodes (accepted_at + i) 0

------ receive

-- how often name n was asked for
abbrev pub requests : Store → ℕ → ℕ
requests t n = get_or t.nodes (requests_at + n) 0

-- name n is a tip
abbrev pub is_tip : Store → ℕ → Bool
is_tip t n = member t.tips n

-- pending record w: its name, its nullifier, its parents, and for each place of a parent a bit that says whether that
-- parent is missing, and a bit that says whether the record waits for it
abbrev pub wait_name : Store → ℕ → ℕ
wait_name t w = get_or t.nodes (wait_names_at + w) 0

abbrev pub wait_null : Store → ℕ → Id
wait_null t w = id_at t.keys t.rests (wait_nulls_at + w)

abbrev pub wait_count : Store → ℕ → ℕ
wait_count t w = get_or t.nodes (wait_counts_at + w) 0

abbrev pub wait_parent : Store → ℕ → ℕ → ℕ
wait_parent t w j = get_or t.nodes (wait_parents_at + (w * parent_limit + j)) 0

abbrev pub wait_missing : Store → ℕ → ℕ
wait_missing t w = get_or t.nodes (wait_missing_at + w) 0

abbrev pub wait_asked : Store → ℕ → ℕ
wait_asked t w = get_or t.nodes (wait_asked_at + w) 0

------ updates

-- name n as never seen, in nodes: no parents, no depth, no requests
unfoldable pub fresh_node : List ℕ → ℕ → List ℕ
fresh_node s n = set (set (set (row_put s (parents_at + n * parent_limit) (λ j. 0) parent_limit) (counts_at + n) 0) (depths_at + n) 0) (requests_at + n) 0

-- in links: no record, no children, no pairs
unfoldable pub fresh_link : List ℕ → ℕ → List ℕ
fresh_link s n = set (set (set s (places_at + n) 0) (lasts_at + n) 0) (last_pairs_at + n) 0

-- x named: its id after the last, and a row as never seen
unfoldable pub with_name : Store → Id → Store
with_name t x =
    store (set t.head 0 (names t + 1)) (keys_put t.keys (names_at + names t) x) (rests_put t.rests (names_at + names t) x)
    (fresh_node t.nodes (names t)) (fresh_link t.links (names t)) (set t.nonces (names t) 0) (without t.tips (names t))

-- one more child of name p: c
unfoldable pub with_child : Store → ℕ → ℕ → Store
with_child t p c =
    store (set t.head 1 (entries t + 1)) t.keys t.rests (set t.nodes (children_at + entries t) c)
    (set (set t.links (previous_at + entries t) (last_entry t p)) (lasts_at + p) (entries t + 1)) t.nonces t.tips

-- one more nullifier
unfoldable pub with_null : Store → Id → Store
with_null t z =
    store (set t.head 2 (spent t + 1)) (keys_put t.keys (nulls_at + spent t) z) (rests_put t.rests (nulls_at + spent t) z)
    t.nodes t.links t.nonces t.tips

-- the record of name n: the nullifier at place p, and k parents, the j-th with name ps j
unfoldable pub with_record : Store → ℕ → ℕ → (ℕ → ℕ) → ℕ → Store
with_record t n p ps k =
    store t.head t.keys t.rests (set (row_put t.nodes (parents_at + n * parent_limit) ps k) (counts_at + n) k)
    (set t.links (places_at + n) (p + 1)) t.nonces t.tips

-- the mark cleared
unfoldable pub unmarked : Store → Store
unmarked t = store (set t.head 6 0) t.keys t.rests t.nodes t.links t.nonces t.tips

-- no names, entries, nullifiers, pairs, pending or accepted records; and the mark is set
unfoldable pub emptied : Store → Store
emptied t = store (set (row_put t.head 0 (λ j. 0) 6) 6 1) t.keys t.rests t.nodes t.links t.nonces t.tips
