-- Naming part by part: the ids go after the last, in the head, the keys and the rests; the rows of the new names are
-- cleared in the other parts.
use Rattle.std.specs.Prelude.{ℕ, zero, suc, ◌+◌, ◌<◌, ◌≡◌, Bool, true, false, cond, length, set}
use Rattle.std.proofs.Common.{arith, get_or-set_same}
use Rattle.bitset.specs.Sets.{without}
use Rattle.cells.specs.Cells.{Id, keys_put, rests_put}
use Rattle.store.specs.Limits.{names_at}
use Rattle.store.specs.Tables.{Store, store, names, fresh_node, fresh_link}

------ the ids

-- x after the last id, with its row as it was
unfoldable pub with_id : Store → Id → Store
with_id t x =
    store (set t.head 0 (names t + 1)) (keys_put t.keys (names_at + names t) x) (rests_put t.rests (names_at + names t) x)
    t.nodes t.links t.nonces t.tips

abbrev pub list_if : Bool → Store → Id → Store
list_if true t x = with_id t x
list_if false t x = t

-- those of the first n ids that are new, after the last in this order
unfoldable pub listed : Store → (ℕ → Id) → (ℕ → Bool) → ℕ → Store
listed t xs new zero = t
listed t xs new (suc n) = list_if (new n) (listed t xs new n) (xs n)

------ the rows

-- name n as never seen
unfoldable pub with_row : Store → ℕ → Store
with_row t n =
    store t.head t.keys t.rests (fresh_node t.nodes n) (fresh_link t.links n) (set t.nonces n 0) (without t.tips n)

-- k names from a number on as never seen
unfoldable pub cleared : Store → ℕ → ℕ → Store
cleared t from zero = t
cleared t from (suc k) = with_row (cleared t from k) (from + k)

pub list_if_names : (b : Bool) (t : Store) (x : Id) → 0 < length t.head → names (list_if b t x) ≡ names t + cond b 1 0
unfolding with_id
list_if_names true t x h = get_or-set_same t.head 0 (names t + 1) 0 h
list_if_names false t x h = omega arith
