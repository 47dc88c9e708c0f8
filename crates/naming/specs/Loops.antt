-- The loops of naming: one over the rows of the new names, one over the call's ids. That what was located is what is named stands in
-- proofs/NamedParts.
use Prim.Native.Nat.{ℕ, zero, suc, ◌+◌, ◌≤◌, ◌<◌}
use Rattle.std.specs.Prelude.{◌≡◌, Bool, true, false}
use Rattle.std.proofs.Math.Path.{refl, sym, ap}
use Rattle.std.proofs.Common.{◌∙◌, add-one, one-add, length-set}
use Rattle.std.proofs.Math.Bool.{cond}
use mathlib.Core.List.{List, []}
use native.Mathlib.Omega.{arith}
use Rattle.std.proofs.Math.ListN.{get_or}
use Rattle.bitset.specs.Sets.{count_below}
use Rattle.bitset.specs.Counts.{count_same}
use Rattle.cells.specs.Cells.{Id}
use Rattle.cells.specs.Ids.{keys_put_length, rests_put_length}
use Rattle.store.specs.Limits.{name_limit, names_at}
use Rattle.store.specs.Tables.{Store, names}
use Rattle.naming.specs.Naming.{NamesRight, called, is_new, fresh_count}
use Rattle.naming.specs.Numbers.{count_further}
use Rattle.naming.specs.Located.{Locates}
use Rattle.naming.specs.Parts.{with_id, list_if, listed, with_row, cleared, list_if_names}
use Rattle.naming.specs.declared.lookup.Located.{Located}

------ the rows

pub cleared_start : (t : Store) (from : ℕ) → t ≡ cleared t from 0
unfolding cleared
cleared_start t from = refl

pub cleared_step : (t u v : Store) (from k : ℕ) → u ≡ cleared t from k → v ≡ with_row u (from + k) → v ≡ cleared t from (k + 1)
unfolding cleared
cleared_step t u v from k e f = rw (f, e, add-one)

pub cleared_end : (t u : Store) (from i k : ℕ) → i ≤ k → k ≤ i → u ≡ cleared t from i → u ≡ cleared t from k
cleared_end t u from i k h l e = let q : k ≡ i = omega arith in rw q e

------ the ids

-- which of a call's ids are new, and which of the others; and the others
abbrev pub flag : List Bool → ℕ → Bool
flag new j = get_or new j false

abbrev pub later : List Bool → ℕ → Bool
later new j = get_or new (1 + j) false

abbrev pub rest : List Id → ℕ → Id
rest ps j = get_or ps j []

-- x after the last id leaves the names right, where there is room for it
list_if_right : (b : Bool) (t : Store) (x : Id) → NamesRight t → names t + cond b 1 0 ≤ name_limit → NamesRight (list_if b t x)
unfolding with_id
list_if_right true t x a room =
    let one : names (with_id t x) ≡ names t + 1 = list_if_names true t x (omega (arith, a.head_long)) in
    record {
      few = omega (arith, one);
      head_long = length-set t.head 0 (names t + 1) ∙ a.head_long;
      keys_long = keys_put_length t.keys t.rests (names_at + names t) x ∙ a.keys_long;
      rests_long = rests_put_length t.keys t.rests (names_at + names t) x ∙ a.rests_long;
    }
list_if_right false t x a room = a

-- a store once i of some ids are listed, and what it was before
pub record Listing (t t₀ : Store) (xs : ℕ → Id) (new : ℕ → Bool) (i : ℕ) : Type 0 where
  pub right : NamesRight t
  pub count : names t ≡ names t₀ + count_below new i
  pub same : t ≡ listed t₀ xs new i

pub listing_none : (t : Store) (xs : ℕ → Id) (new : ℕ → Bool) → NamesRight t → Listing t t xs new 0
unfolding listed count_below
listing_none t xs new a = record { right = a; count = omega arith; same = refl }

module _ (t t₀ : Store) (xs : ℕ → Id) (new : ℕ → Bool) (i n : ℕ) (a : Listing t t₀ xs new i) (room : names t₀ + count_below new n ≤ name_limit) (more : i < n) where
  -- there is room for the next id
  pub listing_room : names t + cond (new i) 1 0 ≤ name_limit
  unfolding count_below
  listing_room = omega (arith, a.count, count_further new (suc i) n more)

  pub listing_more : (u : Store) → u ≡ list_if (new i) t (xs i) → Listing u t₀ xs new (suc i)
  unfolding listed count_below
  listing_more u f =
      let c : names u ≡ names t + cond (new i) 1 0 = ap names f ∙ list_if_names (new i) t (xs i) (omega (arith, a.right.head_long)) in
      record {
        right = rw f (list_if_right (new i) t (xs i) a.right listing_room);
        count = omega (arith, a.count);
        same = f ∙ rw a.same;
      }

-- the first id of a call, and then the others
module _ (x : Id) (ps : List Id) (new : List Bool) where
  count_front : (n : ℕ) → count_below (flag new) (suc n) ≡ cond (flag new 0) 1 0 + count_below (later new) n
  unfolding count_below
  count_front zero = omega arith
  count_front (suc n) = rw (one-add n) (omega (arith, count_front n))

  listed_front : (t : Store) (n : ℕ) → listed (list_if (flag new 0) t x) (rest ps) (later new) n ≡ listed t (called x ps) (flag new) (suc n)
  unfolding listed
  listed_front t zero = refl
  listed_front t (suc n) = rw (one-add n, listed_front t n)

  module _ (t₀ : Store) (n : ℕ) (a : NamesRight t₀) (room : names t₀ + count_below (flag new) (suc n) ≤ name_limit) where
    pub first_room : names t₀ + cond (flag new 0) 1 0 ≤ name_limit
    first_room = listing_room t₀ t₀ (called x ps) (flag new) 0 (suc n) (listing_none t₀ (called x ps) (flag new) a) room (omega arith)

    module _ (t : Store) (f : t ≡ list_if (flag new 0) t₀ x) where
      first_listed : Listing t t₀ (called x ps) (flag new) 1
      first_listed = listing_more t₀ t₀ (called x ps) (flag new) 0 (suc n) (listing_none t₀ (called x ps) (flag new) a) room (omega arith) t f

      pub rest_start : Listing t t (rest ps) (later new) 0
      rest_start = listing_none t (rest ps) (later new) first_listed.right

      pub rest_room : names t + count_below (later new) n ≤ name_limit
      unfolding count_below
      rest_room = omega (arith, first_listed.count, count_front n)

      pub all_listed : (u : Store) (i : ℕ) → i ≤ n → n ≤ i → Listing u t (rest ps) (later new) i → u ≡ listed t₀ (called x ps) (flag new) (suc n)
      all_listed u i lo hi c =
          let e : n ≡ i = omega arith in
          rw e (c.same ∙ rw f (listed_front t₀ i))

------ what was located

module _ (t : Store) (xs : ℕ → Id) (n : ℕ) (r : Located) (l : Locates t xs n r) where
  pub located_count : count_below (flag r.new) n ≡ r.fresh
  unfolding fresh_count
  located_count = count_same (flag r.new) (is_new t xs) n l.new ∙ sym l.fresh
