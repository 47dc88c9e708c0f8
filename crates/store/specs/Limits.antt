-- The limits of a store by name, and the length and the columns of each lent part. The code has the same names in
-- src/limits.rt; a larger circle changes these two files alone.
use Rattle.std.specs.Prelude.{ℕ, ◌+◌, ◌*◌, ◌/◌}

-- named ids
abbrev pub name_limit : ℕ
name_limit = 8192

-- parents in any record
abbrev pub parent_limit : ℕ
parent_limit = 16

-- child entries
abbrev pub child_limit : ℕ
child_limit = 65536

-- nullifiers
abbrev pub null_limit : ℕ
null_limit = 16384

-- pending records
abbrev pub pending_limit : ℕ
pending_limit = 64

-- cached curvature pairs
abbrev pub pair_limit : ℕ
pair_limit = 16384

-- requests for one parent
abbrev pub request_limit : ℕ
request_limit = 3

-- the greatest curvature, with 65,536 added
abbrev pub curvature_top : ℕ
curvature_top = 131072

-- the fewest and the most parents of a plain insert
abbrev pub fewest_parents : ℕ
fewest_parents = 2

abbrev pub most_parents : ℕ
most_parents = 8

------ the columns of keys and rests: where each begins

abbrev pub names_at : ℕ
names_at = 0

abbrev pub nulls_at : ℕ
nulls_at = names_at + name_limit

abbrev pub wait_nulls_at : ℕ
wait_nulls_at = nulls_at + null_limit

------ the columns of nodes

abbrev pub parents_at : ℕ
parents_at = 0

abbrev pub counts_at : ℕ
counts_at = parents_at + name_limit * parent_limit

abbrev pub depths_at : ℕ
depths_at = counts_at + name_limit

abbrev pub requests_at : ℕ
requests_at = depths_at + name_limit

abbrev pub accepted_at : ℕ
accepted_at = requests_at + name_limit

abbrev pub children_at : ℕ
children_at = accepted_at + name_limit

abbrev pub partners_at : ℕ
partners_at = children_at + child_limit

abbrev pub wait_names_at : ℕ
wait_names_at = partners_at + pair_limit

abbrev pub wait_counts_at : ℕ
wait_counts_at = wait_names_at + pending_limit

abbrev pub wait_parents_at : ℕ
wait_parents_at = wait_counts_at + pending_limit

abbrev pub wait_missing_at : ℕ
wait_missing_at = wait_parents_at + pending_limit * parent_limit

abbrev pub wait_asked_at : ℕ
wait_asked_at = wait_missing_at + pending_limit

------ the columns of links

abbrev pub places_at : ℕ
places_at = 0

abbrev pub lasts_at : ℕ
lasts_at = places_at + name_limit

abbrev pub last_pairs_at : ℕ
last_pairs_at = lasts_at + name_limit

abbrev pub previous_at : ℕ
previous_at = last_pairs_at + name_limit

abbrev pub previous_pairs_at : ℕ
previous_pairs_at = previous_at + child_limit

abbrev pub curvatures_at : ℕ
curvatures_at = previous_pairs_at + pair_limit

------ the parts: how many cells each has

abbrev pub head_length : ℕ
head_length = 8

abbrev pub keys_length : ℕ
keys_length = wait_nulls_at + pending_limit

abbrev pub rests_length : ℕ
rests_length = keys_length * 28

abbrev pub nodes_length : ℕ
nodes_length = wait_asked_at + pending_limit

abbrev pub links_length : ℕ
links_length = curvatures_at + pair_limit

abbrev pub nonces_length : ℕ
nonces_length = name_limit

abbrev pub tips_length : ℕ
tips_length = name_limit / 64
