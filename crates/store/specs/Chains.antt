-- Chains of child entries: on a store that is not bad each ends, and what an update does to the children of a name.
use Rattle.std.specs.Prelude.{ℕ, zero, suc, ◌≤◌, ◌<◌, ◌≡◌, refl, ◌≢◌, [], ◌∷◌, ◌++◌}
use Rattle.std.proofs.Common.{arith, not-suc-le-zero}
use Rattle.std.proofs.Math.Numerals.{add-one}
use Rattle.cells.specs.Cells.{Id}
use Rattle.store.specs.Limits.{name_limit, child_limit}
use Rattle.store.specs.Tables.{Store, names, entries, last_entry, child_at, previous, chain, children_of, with_name, with_child}
use Rattle.store.specs.Facts.{Sound, last_entered, entry_falls}
use Rattle.store.specs.Views.{SameEntry, SameChildren, name_new, name_last_other, name_entry, child_last, child_child, child_previous, child_last_other, child_entry_other}

-- a store whose entries fall below m has the same chains there as one with the same entries, whatever the steps
chain_same : (t u : Store) (m : ℕ) → ((e : ℕ) → e < m → previous t e ≤ e) → ((e : ℕ) → e < m → SameEntry t u e)
    → (f g e : ℕ) → e ≤ m → e ≤ f → e ≤ g → chain u f e ≡ chain t g e
unfolding chain
chain_same t u m falls same zero zero zero h k l = refl
chain_same t u m falls same zero zero (suc e) h k l = absurd (not-suc-le-zero k)
chain_same t u m falls same zero (suc g) zero h k l = refl
chain_same t u m falls same zero (suc g) (suc e) h k l = absurd (not-suc-le-zero k)
chain_same t u m falls same (suc f) zero zero h k l = refl
chain_same t u m falls same (suc f) zero (suc e) h k l = absurd (not-suc-le-zero l)
chain_same t u m falls same (suc f) (suc g) zero h k l = refl
chain_same t u m falls same (suc f) (suc g) (suc e) h k l =
    let b = falls e (omega arith) in
    let a = same e (omega arith) in
    rw (a.previous_same, a.child_same, chain_same t u m falls same f g (previous t e) (omega arith) (omega arith) (omega arith))

module _ (t : Store) (s : Sound t) where
  -- each chain ends: as many steps as its last entry's number are enough
  pub chain_ends : (f e : ℕ) → e ≤ entries t → e ≤ f → chain t f e ≡ chain t e e
  chain_ends f e h k =
      chain_same t t (entries t) (entry_falls t s) (λ (i : ℕ) (l : i < entries t). record { child_same = refl; previous_same = refl }) f e e h k (omega arith)

  -- a chain is the chain before its last entry, and that entry's child
  pub chain_last : (e : ℕ) → e < entries t → chain t (suc e) (suc e) ≡ chain t (previous t e) (previous t e) ++ (child_at t e ∷ [])
  unfolding chain
  chain_last e h = let b = entry_falls t s e h in rw (chain_ends e (previous t e) (omega arith) b)

  -- the children of a name are the same where its last entry and all entries are
  pub children_same : (u : Store) (n : ℕ) → n < names t → last_entry u n ≡ last_entry t n → ((e : ℕ) → e < entries t → SameEntry t u e) → children_of u n ≡ children_of t n
  unfolding children_of
  children_same u n h e same =
      let b = last_entered t s n h in
      rw e (chain_same t u (entries t) (entry_falls t s) same (last_entry t n) (last_entry t n) (last_entry t n) b (omega arith) (omega arith))

  pub children_kept : (u : Store) → SameChildren t u → (n : ℕ) → n < names t → children_of u n ≡ children_of t n
  children_kept u k n h =
      let w = s.within in
      children_same u n h (k.last_same n (omega arith)) (λ (e : ℕ) (l : e < entries t). k.entry_same e (omega arith))

  -- naming: the new name has no children, the others theirs
  module _ (x : Id) (room : names t < name_limit) where
    pub children_new : children_of (with_name t x) (names t) ≡ []
    unfolding children_of chain
    children_new = rw (name_new t x s.lengths room).no_children

    pub children_named : (n : ℕ) → n < names t → children_of (with_name t x) n ≡ children_of t n
    children_named n h =
        let w = s.within in
        children_same (with_name t x) n h (name_last_other t x s.lengths room n (omega arith) (omega arith))
        (λ (e : ℕ) (l : e < entries t). name_entry t x s.lengths room e (omega arith))

  -- an entry more: its parent has the child at the end of its children, the others have theirs
  module _ (p c : ℕ) (room : entries t < child_limit) (parent : p < names t) where
    below : p < name_limit
    below = omega (arith, s.within.few_names)

    same_entries : (e : ℕ) → e < entries t → SameEntry t (with_child t p c) e
    same_entries e h = child_entry_other t p c s.lengths room below e (omega arith) (omega arith)

    pub children_gained : children_of (with_child t p c) p ≡ children_of t p ++ (c ∷ [])
    unfolding children_of chain
    children_gained =
        let b = last_entered t s p parent in
        let before = chain_same t (with_child t p c) (entries t) (entry_falls t s) same_entries (entries t) (last_entry t p) (last_entry t p) b b (omega arith) in
        rw (child_last t p c s.lengths room below, add-one, child_previous t p c s.lengths room below, child_child t p c s.lengths room below, before)

    pub children_other : (q : ℕ) → q < names t → q ≢ p → children_of (with_child t p c) q ≡ children_of t q
    children_other q h d =
        let w = s.within in
        children_same (with_child t p c) q h (child_last_other t p c s.lengths room below q (omega arith) d) same_entries
