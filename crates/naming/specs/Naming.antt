-- Naming and room: a call's ids that are not named yet, counted once each, must fit the free names. They are named in
-- argument order once the checks of room are passed: of names, of child entries and of nullifiers.
use Rattle.std.specs.Prelude.{ℕ, zero, suc, ◌+◌, ◌-◌, ◌≤◌, ◌≡◌, Bool, true, false, ◌&&◌, not, List, [], length, get_or, ltb, Option, Some, None}
use Rattle.bitset.specs.Sets.{count_below}
use Rattle.cells.specs.Cells.{Id, same_id, first_where, is_at, or_zero}
use Rattle.store.specs.Limits.{name_limit, parent_limit, child_limit, null_limit, head_length, keys_length, rests_length}
use Rattle.store.specs.Tables.{Store, names, entries, spent, number_of, is_named, with_name}

-- a call's ids in argument order: x, and then ps
abbrev pub called : Id → List Id → ℕ → Id
called x ps zero = x
called x ps (suc i) = get_or ps i []

-- the id at place i stands at an earlier place of the call
abbrev pub is_earlier : (ℕ → Id) → ℕ → Bool
is_earlier xs i = is_at (first_where (λ j. same_id (xs j) (xs i)) 0 i)

-- the first place in the call of the id at place i
abbrev pub first_place : (ℕ → Id) → ℕ → ℕ
first_place xs i = or_zero (first_where (λ j. same_id (xs j) (xs i)) 0 (suc i))

-- the id at place i is not yet named, and stands at no earlier place
unfoldable pub is_new : Store → (ℕ → Id) → ℕ → Bool
is_new t xs i = not (is_named t (xs i)) && not (is_earlier xs i)

-- how many of the first n ids are not yet named, counted once each
unfoldable pub fresh_count : Store → (ℕ → Id) → ℕ → ℕ
fresh_count t xs n = count_below (is_new t xs) n

abbrev pub name_if : Bool → Store → Id → Store
name_if true t x = with_name t x
name_if false t x = t

-- the first n ids named, in this order
unfoldable pub named : Store → (ℕ → Id) → ℕ → Store
named t xs zero = t
named t xs (suc n) = name_if (is_new t xs n) (named t xs n) (xs n)

abbrev pub number_if : Option ℕ → ℕ → ℕ
number_if (Some n) m = n
number_if None m = m

-- the number of the id at place i once the call's ids are named: the one it has, or the next free one at its first place
unfoldable pub number_at : Store → (ℕ → Id) → ℕ → ℕ
number_at t xs i = number_if (number_of t (xs i)) (names t + fresh_count t xs (first_place xs i))

-- check 7: the call's n ids do not fit the free names
abbrev pub no_name_room : Store → (ℕ → Id) → ℕ → Bool
no_name_room t xs n = ltb (name_limit - names t) (fresh_count t xs n)

-- check 8: there are not k free child entries
abbrev pub no_child_room : Store → ℕ → Bool
no_child_room t k = ltb (child_limit - entries t) k

-- check 9: there are not k free places for nullifiers
abbrev pub no_null_room : Store → ℕ → Bool
no_null_room t k = ltb (null_limit - spent t) k

------ what the calls of this crate ask

-- the ids of a call at most: the first, and a full list
abbrev pub call_limit : ℕ
call_limit = parent_limit + 1

-- the parts that hold the names have their lengths, and the count of names is within its limit
pub record NameParts (head keys rests : List ℕ) : Type 0 where
  pub few : get_or head 0 0 ≤ name_limit
  pub head_long : length head ≡ head_length
  pub keys_long : length keys ≡ keys_length
  pub rests_long : length rests ≡ rests_length

-- the names of a store are right: a search of them, and one more name, stay within the parts
abbrev pub NamesRight : Store → Type 0
NamesRight t = NameParts t.head t.keys t.rests
