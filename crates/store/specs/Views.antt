-- What each update changes in each view, and that it changes no other.
use Rattle.std.specs.Prelude.{ℕ, ◌+◌, ◌*◌, ◌≤◌, ◌<◌, ◌≡◌, ◌≢◌, Bool, true, false, List, set, eqb, ltb, Some, None}
use Rattle.std.proofs.Math.Path.{refl}
use Rattle.std.proofs.Common.{ap, ltb-true, ltb-false}
use native.Mathlib.Omega.{arith}
use Rattle.std.proofs.Math.ListN.{length, get_or, length-set, get_or-eq_default}
use Rattle.std.proofs.Math.Seq.{get_or-set_same, get_or-set_other, set_out}
use Rattle.std.proofs.lemmas.Bool.{eqb-false}
use Rattle.cells.specs.Cells.{Id, Bytes, IsId, same_id, pick_found, or_else, row_put}
use Rattle.cells.specs.Rows.{put_length, put_at, put_other}
use Rattle.cells.specs.Ids.{put_id_here, put_id_other, first_id_other, first_id_more}
use Rattle.bitset.specs.Sets.{member}
use Rattle.bitset.specs.Words.{without_same, without_other}
use Rattle.store.specs.declared.sound.Counts.{Counts}
use Rattle.store.specs.Limits.{name_limit, parent_limit, child_limit, null_limit, pending_limit, pair_limit, nodes_length, names_at, nulls_at, wait_nulls_at, parents_at, counts_at, depths_at, requests_at, accepted_at, children_at, partners_at, wait_names_at, wait_counts_at, wait_parents_at, wait_missing_at, wait_asked_at, places_at, lasts_at, last_pairs_at, previous_at, previous_pairs_at, curvatures_at}
use Rattle.store.specs.Tables.{Store, names, entries, spent, pairs, waiting, accepted, used, marked, id_of, number_of, null_of, place_of, place_cell, held, parent_count, parent_at, nonce_of, last_entry, child_at, previous, depth_cell, last_pair, partner, curvature_cell, previous_pair, accepted_as, requests, is_tip, wait_name, wait_null, wait_count, wait_parent, wait_missing, wait_asked, fresh_node, fresh_link, with_name, with_child, with_null, with_record, unmarked}
use Rattle.store.specs.Facts.{Lengths}

------ what it is to be unchanged

-- the names are the same
pub record SameNames (t u : Store) : Type 0 where
  pub id_same : (n : ℕ) → n < name_limit → id_of u n ≡ id_of t n
  pub number_same : (x : Id) → number_of u x ≡ number_of t x

-- the nullifiers are the same
pub record SameNulls (t u : Store) : Type 0 where
  pub null_same : (p : ℕ) → p < null_limit → null_of u p ≡ null_of t p
  pub place_same : (z : Id) → place_of u z ≡ place_of t z

-- name n has the same record
pub record SameRecord (t u : Store) (n : ℕ) : Type 0 where
  pub cell_same : place_cell u n ≡ place_cell t n
  pub count_same : parent_count u n ≡ parent_count t n
  pub parent_same : (j : ℕ) → j < parent_limit → parent_at u n j ≡ parent_at t n j
  pub nonce_same : nonce_of u n ≡ nonce_of t n

pub held_same : (t u : Store) (n : ℕ) → SameRecord t u n → held u n ≡ held t n
held_same t u n r = ap (ltb 0) r.cell_same

-- entry e is the same
pub record SameEntry (t u : Store) (e : ℕ) : Type 0 where
  pub child_same : child_at u e ≡ child_at t e
  pub previous_same : previous u e ≡ previous t e

-- the children are the same
pub record SameChildren (t u : Store) : Type 0 where
  pub last_same : (n : ℕ) → n < name_limit → last_entry u n ≡ last_entry t n
  pub entry_same : (e : ℕ) → e < child_limit → SameEntry t u e

-- pair i is the same
pub record SamePair (t u : Store) (i : ℕ) : Type 0 where
  pub partner_same : partner u i ≡ partner t i
  pub curvature_same : curvature_cell u i ≡ curvature_cell t i
  pub previous_pair_same : previous_pair u i ≡ previous_pair t i

-- pending record w is the same
pub record SamePending (t u : Store) (w : ℕ) : Type 0 where
  pub wait_name_same : wait_name u w ≡ wait_name t w
  pub wait_null_same : wait_null u w ≡ wait_null t w
  pub wait_count_same : wait_count u w ≡ wait_count t w
  pub wait_parent_same : (j : ℕ) → j < parent_limit → wait_parent u w j ≡ wait_parent t w j
  pub wait_missing_same : wait_missing u w ≡ wait_missing t w
  pub wait_asked_same : wait_asked u w ≡ wait_asked t w

-- what no update here touches in the names of t: the caches, the accepted order, requests, tips, pending records
pub record SameRest (t u : Store) : Type 0 where
  pub depth_same : (n : ℕ) → n < names t → depth_cell u n ≡ depth_cell t n
  pub last_pair_same : (n : ℕ) → n < names t → last_pair u n ≡ last_pair t n
  pub pair_same : (i : ℕ) → i < pair_limit → SamePair t u i
  pub accepted_same : (i : ℕ) → i < name_limit → accepted_as u i ≡ accepted_as t i
  pub requests_same : (n : ℕ) → n < names t → requests u n ≡ requests t n
  pub tip_same : (n : ℕ) → n < names t → is_tip u n ≡ is_tip t n
  pub pending_same : (w : ℕ) → w < pending_limit → SamePending t u w

------ single cells

-- a cell of the head that is not put
pub head_other : (h : List ℕ) (i j v : ℕ) → eqb j i ≡ false → get_or (set h i v) j 0 ≡ get_or h j 0
head_other h i j v e = get_or-set_other h i j v 0 (eqb-false j i e)

other : (s : List ℕ) (i j v : ℕ) → j ≢ i → get_or (set s i v) j 0 ≡ get_or s j 0
other s i j v d = get_or-set_other s i j v 0 d

-- a cell that 0 is put in
zero_by : (s : List ℕ) (k : ℕ) (inside : Bool) → ltb k (length s) ≡ inside → get_or (set s k 0) k 0 ≡ 0
zero_by s k true e = get_or-set_same s k 0 0 (ltb-true k (length s) e)
zero_by s k false e = let l = ltb-false k (length s) e in rw (set_out s k 0 l) (get_or-eq_default s 0 l)

zero_put : (s : List ℕ) (k : ℕ) → get_or (set s k 0) k 0 ≡ 0
zero_put s k = zero_by s k _ refl

------ the row of a new name

-- cells outside the row
module _ (s : List ℕ) (n j : ℕ) where
  fresh_node_other : ((i : ℕ) → i < parent_limit → j ≢ parents_at + n * parent_limit + i) × (j ≢ counts_at + n) × (j ≢ depths_at + n) × (j ≢ requests_at + n) → get_or (fresh_node s n) j 0 ≡ get_or s j 0
  unfolding fresh_node
  fresh_node_other d =
      let a = d.1 in
      let b = d.2 in
      let c = d.3 in
      rw (get_or-set_other, get_or-set_other, get_or-set_other) (put_other s (parents_at + n * parent_limit) (λ j. 0) parent_limit j d.0)

  fresh_link_other : (j ≢ places_at + n) × (j ≢ lasts_at + n) × (j ≢ last_pairs_at + n) → get_or (fresh_link s n) j 0 ≡ get_or s j 0
  unfolding fresh_link
  fresh_link_other d =
      let a = d.0 in
      let b = d.1 in
      let c = d.2 in
      rw (get_or-set_other, get_or-set_other, get_or-set_other)

-- the cells of the row
module _ (s : List ℕ) (n : ℕ) where
  fresh_count_lem : get_or (fresh_node s n) (counts_at + n) 0 ≡ 0
  unfolding fresh_node
  fresh_count_lem =
      let a : counts_at + n ≢ depths_at + n = omega arith in
      let b : counts_at + n ≢ requests_at + n = omega arith in
      rw (get_or-set_other, get_or-set_other, zero_put)

  fresh_depth : get_or (fresh_node s n) (depths_at + n) 0 ≡ 0
  unfolding fresh_node
  fresh_depth = let a : depths_at + n ≢ requests_at + n = omega arith in rw (get_or-set_other, zero_put)

  fresh_requests : get_or (fresh_node s n) (requests_at + n) 0 ≡ 0
  unfolding fresh_node
  fresh_requests = rw zero_put

  fresh_parent : (j : ℕ) → n < name_limit → j < parent_limit → length s ≡ nodes_length → get_or (fresh_node s n) (parents_at + (n * parent_limit + j)) 0 ≡ 0
  unfolding fresh_node
  fresh_parent j h k l =
      let a : parents_at + (n * parent_limit + j) ≢ requests_at + n = omega arith in
      let b : parents_at + (n * parent_limit + j) ≢ depths_at + n = omega arith in
      let c : parents_at + (n * parent_limit + j) ≢ counts_at + n = omega arith in
      let e : parents_at + (n * parent_limit + j) ≡ parents_at + n * parent_limit + j = omega arith in
      rw (get_or-set_other, get_or-set_other, get_or-set_other, e) (put_at s (parents_at + n * parent_limit) (λ j. 0) parent_limit j k (omega arith))

  fresh_place : get_or (fresh_link s n) (places_at + n) 0 ≡ 0
  unfolding fresh_link
  fresh_place =
      let a : places_at + n ≢ lasts_at + n = omega arith in
      let b : places_at + n ≢ last_pairs_at + n = omega arith in
      rw (get_or-set_other, get_or-set_other, zero_put)

  fresh_last : get_or (fresh_link s n) (lasts_at + n) 0 ≡ 0
  unfolding fresh_link
  fresh_last = let a : lasts_at + n ≢ last_pairs_at + n = omega arith in rw (get_or-set_other, zero_put)

  fresh_last_pair : get_or (fresh_link s n) (last_pairs_at + n) 0 ≡ 0
  unfolding fresh_link
  fresh_last_pair = rw zero_put

------ a name more

-- the counts with a name, an entry, a nullifier more
abbrev pub more_names : Counts → Counts
more_names u = record { names = u.names + 1; entries = u.entries; spent = u.spent; pairs = u.pairs; waiting = u.waiting; accepted = u.accepted }

abbrev pub more_entries : Counts → Counts
more_entries u = record { names = u.names; entries = u.entries + 1; spent = u.spent; pairs = u.pairs; waiting = u.waiting; accepted = u.accepted }

abbrev pub more_spent : Counts → Counts
more_spent u = record { names = u.names; entries = u.entries; spent = u.spent + 1; pairs = u.pairs; waiting = u.waiting; accepted = u.accepted }

-- the counts of a store, one by one
pub record Counted (t : Store) (u : Counts) : Type 0 where
  pub names_are : names t ≡ u.names
  pub entries_are : entries t ≡ u.entries
  pub spent_are : spent t ≡ u.spent
  pub pairs_are : pairs t ≡ u.pairs
  pub waiting_are : waiting t ≡ u.waiting
  pub accepted_are : accepted t ≡ u.accepted

pub counted : (t : Store) (u : Counts) → used t ≡ u → Counted t u
counted t u e =
    record {
      names_are = ap (λ (v : Counts). v.names) e;
      entries_are = ap (λ (v : Counts). v.entries) e;
      spent_are = ap (λ (v : Counts). v.spent) e;
      pairs_are = ap (λ (v : Counts). v.pairs) e;
      waiting_are = ap (λ (v : Counts). v.waiting) e;
      accepted_are = ap (λ (v : Counts). v.accepted) e;
    }

-- name n as never seen
pub record NoRecord (t : Store) (n : ℕ) : Type 0 where
  pub no_place : place_cell t n ≡ 0
  pub no_parents : parent_count t n ≡ 0
  pub no_parent : (j : ℕ) → j < parent_limit → parent_at t n j ≡ 0
  pub no_children : last_entry t n ≡ 0
  pub no_nonce : nonce_of t n ≡ 0
  pub no_depth : depth_cell t n ≡ 0
  pub no_pairs : last_pair t n ≡ 0
  pub no_requests : requests t n ≡ 0
  pub no_tip : is_tip t n ≡ false

module _ (t : Store) (x : Id) (l : Lengths t) (room : names t < name_limit) where
  pub name_used : used (with_name t x) ≡ more_names (used t)
  unfolding with_name
  name_used =
      let h = t.head in
      let v = names t + 1 in
      rw (get_or-set_same h 0 v 0 (omega (arith, l.head_long)), head_other h 0 1 v refl, head_other h 0 2 v refl, head_other h 0 3 v refl, head_other h 0 4 v refl, head_other h 0 5 v refl)

  pub name_mark : marked (with_name t x) ≡ marked t
  unfolding with_name
  name_mark = rw (head_other t.head 0 6 (names t + 1) refl)

  -- the new name has the id x, and is as never seen
  pub name_id : IsId x → id_of (with_name t x) (names t) ≡ x
  unfolding with_name
  name_id d = put_id_here t.keys t.rests (names_at + names t) x (record { keys_long = omega (arith, l.keys_long); rests_long = omega (arith, l.rests_long) }) d.bytes d.long

  pub name_new : NoRecord (with_name t x) (names t)
  unfolding with_name
  name_new =
      record {
        no_place = fresh_place t.links (names t);
        no_parents = fresh_count_lem t.nodes (names t);
        no_parent = λ (j : ℕ) (h : j < parent_limit). fresh_parent t.nodes (names t) j room h l.nodes_long;
        no_children = fresh_last t.links (names t);
        no_nonce = zero_put t.nonces (names t);
        no_depth = fresh_depth t.nodes (names t);
        no_pairs = fresh_last_pair t.links (names t);
        no_requests = fresh_requests t.nodes (names t);
        no_tip = without_same t.tips (names t);
      }

  -- of equal names the lowest counts: x gets the new name if it had none
  pub name_number : Bytes x → (y : Id) → number_of (with_name t x) y ≡ or_else (number_of t y) (pick_found (same_id x y) (Some (names t)) None)
  unfolding with_name
  name_number b y =
      let e : get_or (set t.head 0 (names t + 1)) 0 0 ≡ names t + 1 = get_or-set_same t.head 0 (names t + 1) 0 (omega (arith, l.head_long)) in
      rw e (first_id_more t.keys t.rests names_at (names t) x y (record { keys_long = omega (arith, l.keys_long); rests_long = omega (arith, l.rests_long) }) b)

  -- the other names are as they were
  pub name_id_other : (n : ℕ) → n ≢ names t → id_of (with_name t x) n ≡ id_of t n
  unfolding with_name
  name_id_other n d = put_id_other t.keys t.rests (names_at + names t) x (names_at + n) (omega arith)

  pub name_record_other : (n : ℕ) → n < name_limit → n ≢ names t → SameRecord t (with_name t x) n
  unfolding with_name
  name_record_other n h d =
      record {
        cell_same = fresh_link_other t.links (names t) (places_at + n) (omega arith);
        count_same = fresh_node_other t.nodes (names t) (counts_at + n) (omega arith);
        parent_same = λ (j : ℕ) (k : j < parent_limit). fresh_node_other t.nodes (names t) (parents_at + (n * parent_limit + j)) (omega arith);
        nonce_same = get_or-set_other t.nonces (names t) n 0 0 d;
      }

  pub name_last_other : (n : ℕ) → n < name_limit → n ≢ names t → last_entry (with_name t x) n ≡ last_entry t n
  unfolding with_name
  name_last_other n h d = fresh_link_other t.links (names t) (lasts_at + n) (omega arith)

  -- and so are nullifiers, entries and the rest
  pub name_nulls : SameNulls t (with_name t x)
  unfolding with_name
  name_nulls =
      record {
        null_same = λ (p : ℕ) (h : p < null_limit). put_id_other t.keys t.rests (names_at + names t) x (nulls_at + p) (omega arith);
        place_same =
            λ (z : Id).
            rw (head_other t.head 0 2 (names t + 1) refl)
            (first_id_other t.keys t.rests nulls_at (spent t) x z (names_at + names t) (λ (i : ℕ) (h : i < spent t). omega arith));
      }

  pub name_entry : (e : ℕ) → e < child_limit → SameEntry t (with_name t x) e
  unfolding with_name
  name_entry e h =
      record {
        child_same = fresh_node_other t.nodes (names t) (children_at + e) (omega arith);
        previous_same = fresh_link_other t.links (names t) (previous_at + e) (omega arith);
      }

  pub name_rest : SameRest t (with_name t x)
  unfolding with_name
  name_rest =
      let node = fresh_node_other t.nodes (names t) in
      let link = fresh_link_other t.links (names t) in
      record {
        depth_same = λ (n : ℕ) (h : n < names t). node (depths_at + n) (omega arith);
        last_pair_same = λ (n : ℕ) (h : n < names t). link (last_pairs_at + n) (omega arith);
        pair_same =
            λ (i : ℕ) (h : i < pair_limit).
            record {
              partner_same = node (partners_at + i) (omega arith);
              curvature_same = link (curvatures_at + i) (omega arith);
              previous_pair_same = link (previous_pairs_at + i) (omega arith);
            };
        accepted_same = λ (i : ℕ) (h : i < name_limit). node (accepted_at + i) (omega arith);
        requests_same = λ (n : ℕ) (h : n < names t). node (requests_at + n) (omega arith);
        tip_same = λ (n : ℕ) (h : n < names t). without_other t.tips (names t) n (omega arith);
        pending_same =
            λ (w : ℕ) (h : w < pending_limit).
            record {
              wait_name_same = node (wait_names_at + w) (omega arith);
              wait_null_same = put_id_other t.keys t.rests (names_at + names t) x (wait_nulls_at + w) (omega arith);
              wait_count_same = node (wait_counts_at + w) (omega arith);
              wait_parent_same = λ (j : ℕ) (k : j < parent_limit). node (wait_parents_at + (w * parent_limit + j)) (omega arith);
              wait_missing_same = node (wait_missing_at + w) (omega arith);
              wait_asked_same = node (wait_asked_at + w) (omega arith);
            };
      }

------ an entry more

-- the rest is the same where the cells of its columns are
rest_by : (t u : Store)
    → ((j : ℕ) → depths_at ≤ j → j < children_at → get_or u.nodes j 0 ≡ get_or t.nodes j 0)
    → ((j : ℕ) → partners_at ≤ j → get_or u.nodes j 0 ≡ get_or t.nodes j 0)
    → ((j : ℕ) → last_pairs_at ≤ j → j < previous_at → get_or u.links j 0 ≡ get_or t.links j 0)
    → ((j : ℕ) → previous_pairs_at ≤ j → get_or u.links j 0 ≡ get_or t.links j 0)
    → ((w : ℕ) → w < pending_limit → wait_null u w ≡ wait_null t w)
    → u.tips ≡ t.tips → names t ≤ name_limit → SameRest t u
rest_by t u node later-node link later-link null tips few =
    record {
      depth_same = λ (n : ℕ) (h : n < names t). node (depths_at + n) (omega arith) (omega arith);
      last_pair_same = λ (n : ℕ) (h : n < names t). link (last_pairs_at + n) (omega arith) (omega arith);
      pair_same =
          λ (i : ℕ) (h : i < pair_limit).
          record {
            partner_same = later-node (partners_at + i) (omega arith);
            curvature_same = later-link (curvatures_at + i) (omega arith);
            previous_pair_same = later-link (previous_pairs_at + i) (omega arith);
          };
      accepted_same = λ (i : ℕ) (h : i < name_limit). node (accepted_at + i) (omega arith) (omega arith);
      requests_same = λ (n : ℕ) (h : n < names t). node (requests_at + n) (omega arith) (omega arith);
      tip_same = λ (n : ℕ) (h : n < names t). ap (λ (l : List ℕ). member l n) tips;
      pending_same =
          λ (w : ℕ) (h : w < pending_limit).
          record {
            wait_name_same = later-node (wait_names_at + w) (omega arith);
            wait_null_same = null w h;
            wait_count_same = later-node (wait_counts_at + w) (omega arith);
            wait_parent_same = λ (j : ℕ) (k : j < parent_limit). later-node (wait_parents_at + (w * parent_limit + j)) (omega arith);
            wait_missing_same = later-node (wait_missing_at + w) (omega arith);
            wait_asked_same = later-node (wait_asked_at + w) (omega arith);
          };
    }

module _ (t : Store) (p c : ℕ) (l : Lengths t) (room : entries t < child_limit) (named : p < name_limit) where
  pub child_used : used (with_child t p c) ≡ more_entries (used t)
  unfolding with_child
  child_used =
      let h = t.head in
      let v = entries t + 1 in
      rw (head_other h 1 0 v refl, get_or-set_same h 1 v 0 (omega (arith, l.head_long)), head_other h 1 2 v refl, head_other h 1 3 v refl, head_other h 1 4 v refl, head_other h 1 5 v refl)

  pub child_mark : marked (with_child t p c) ≡ marked t
  unfolding with_child
  child_mark = rw (head_other t.head 1 6 (entries t + 1) refl)

  -- the new entry is p's last; it is c's, and before it comes p's last one so far
  pub child_last : last_entry (with_child t p c) p ≡ entries t + 1
  unfolding with_child
  child_last = let h : lasts_at + p < length (set t.links (previous_at + entries t) (last_entry t p)) = simp length-set (omega (arith, l.links_long)) in rw get_or-set_same

  pub child_child : child_at (with_child t p c) (entries t) ≡ c
  unfolding with_child
  child_child = get_or-set_same t.nodes (children_at + entries t) c 0 (omega (arith, l.nodes_long))

  pub child_previous : previous (with_child t p c) (entries t) ≡ last_entry t p
  unfolding with_child
  child_previous =
      let d : previous_at + entries t ≢ lasts_at + p = omega arith in
      let h : previous_at + entries t < length t.links = omega (arith, l.links_long) in
      rw (get_or-set_other, get_or-set_same)

  -- the others' last entries and the other entries are as they were
  links_other : (j : ℕ) → (j ≢ previous_at + entries t) × (j ≢ lasts_at + p) → get_or (with_child t p c).links j 0 ≡ get_or t.links j 0
  unfolding with_child
  links_other j d = let a = d.0 in let b = d.1 in rw (get_or-set_other, get_or-set_other)

  nodes_other : (j : ℕ) → j ≢ children_at + entries t → get_or (with_child t p c).nodes j 0 ≡ get_or t.nodes j 0
  unfolding with_child
  nodes_other j d = get_or-set_other t.nodes (children_at + entries t) j c 0 d

  pub child_last_other : (q : ℕ) → q < name_limit → q ≢ p → last_entry (with_child t p c) q ≡ last_entry t q
  child_last_other q h d = links_other (lasts_at + q) (omega arith)

  pub child_entry_other : (e : ℕ) → e < child_limit → e ≢ entries t → SameEntry t (with_child t p c) e
  child_entry_other e h d = record { child_same = nodes_other (children_at + e) (omega arith); previous_same = links_other (previous_at + e) (omega arith) }

  -- and so are names, nullifiers, records and the rest
  pub child_names : SameNames t (with_child t p c)
  unfolding with_child
  child_names =
      record {
        id_same = λ (n : ℕ) (h : n < name_limit). refl;
        number_same = λ (x : Id). rw (head_other t.head 1 0 (entries t + 1) refl);
      }

  pub child_nulls : SameNulls t (with_child t p c)
  unfolding with_child
  child_nulls =
      record {
        null_same = λ (q : ℕ) (h : q < null_limit). refl;
        place_same = λ (z : Id). rw (head_other t.head 1 2 (entries t + 1) refl);
      }

  pub child_record : (n : ℕ) → n < name_limit → SameRecord t (with_child t p c) n
  unfolding with_child
  child_record n h =
      record {
        cell_same = links_other (places_at + n) (omega arith);
        count_same = nodes_other (counts_at + n) (omega arith);
        parent_same = λ (j : ℕ) (k : j < parent_limit). nodes_other (parents_at + (n * parent_limit + j)) (omega arith);
        nonce_same = refl;
      }

  pub child_rest : names t ≤ name_limit → SameRest t (with_child t p c)
  unfolding with_child
  child_rest few =
      rest_by t (with_child t p c)
      (λ (j : ℕ) (h : depths_at ≤ j) (k : j < children_at). nodes_other j (omega arith))
      (λ (j : ℕ) (h : partners_at ≤ j). nodes_other j (omega arith))
      (λ (j : ℕ) (h : last_pairs_at ≤ j) (k : j < previous_at). links_other j (omega arith))
      (λ (j : ℕ) (h : previous_pairs_at ≤ j). links_other j (omega arith))
      (λ (w : ℕ) (h : w < pending_limit). refl)
      refl
      few

------ a nullifier more

module _ (t : Store) (z : Id) (l : Lengths t) (room : spent t < null_limit) where
  pub null_used : used (with_null t z) ≡ more_spent (used t)
  unfolding with_null
  null_used =
      let h = t.head in
      let v = spent t + 1 in
      rw (head_other h 2 0 v refl, head_other h 2 1 v refl, get_or-set_same h 2 v 0 (omega (arith, l.head_long)), head_other h 2 3 v refl, head_other h 2 4 v refl, head_other h 2 5 v refl)

  pub null_mark : marked (with_null t z) ≡ marked t
  unfolding with_null
  null_mark = rw (head_other t.head 2 6 (spent t + 1) refl)

  -- the new place has z
  pub null_null : IsId z → null_of (with_null t z) (spent t) ≡ z
  unfolding with_null
  null_null d = put_id_here t.keys t.rests (nulls_at + spent t) z (record { keys_long = omega (arith, l.keys_long); rests_long = omega (arith, l.rests_long) }) d.bytes d.long

  pub null_null_other : (p : ℕ) → p ≢ spent t → null_of (with_null t z) p ≡ null_of t p
  unfolding with_null
  null_null_other p d = put_id_other t.keys t.rests (nulls_at + spent t) z (nulls_at + p) (omega arith)

  -- of equal nullifiers the lowest counts: z gets the new place if it had none
  pub null_place : Bytes z → (y : Id) → place_of (with_null t z) y ≡ or_else (place_of t y) (pick_found (same_id z y) (Some (spent t)) None)
  unfolding with_null
  null_place b y =
      let e : get_or (set t.head 2 (spent t + 1)) 2 0 ≡ spent t + 1 = get_or-set_same t.head 2 (spent t + 1) 0 (omega (arith, l.head_long)) in
      rw e (first_id_more t.keys t.rests nulls_at (spent t) z y (record { keys_long = omega (arith, l.keys_long); rests_long = omega (arith, l.rests_long) }) b)

  -- all else is as it was
  pub null_names : names t ≤ name_limit → SameNames t (with_null t z)
  unfolding with_null
  null_names few =
      record {
        id_same = λ (n : ℕ) (h : n < name_limit). put_id_other t.keys t.rests (nulls_at + spent t) z (names_at + n) (omega arith);
        number_same =
            λ (x : Id).
            rw (head_other t.head 2 0 (spent t + 1) refl)
            (first_id_other t.keys t.rests names_at (names t) z x (nulls_at + spent t) (λ (i : ℕ) (h : i < names t). omega arith));
      }

  pub null_record : (n : ℕ) → SameRecord t (with_null t z) n
  unfolding with_null
  null_record n = record { cell_same = refl; count_same = refl; parent_same = λ (j : ℕ) (k : j < parent_limit). refl; nonce_same = refl }

  pub null_children : SameChildren t (with_null t z)
  unfolding with_null
  null_children =
      record { last_same = λ (n : ℕ) (h : n < name_limit). refl; entry_same = λ (e : ℕ) (h : e < child_limit). record { child_same = refl; previous_same = refl } }

  pub null_rest : names t ≤ name_limit → SameRest t (with_null t z)
  unfolding with_null
  null_rest few =
      rest_by t (with_null t z)
      (λ (j : ℕ) (h : depths_at ≤ j) (k : j < children_at). refl)
      (λ (j : ℕ) (h : partners_at ≤ j). refl)
      (λ (j : ℕ) (h : last_pairs_at ≤ j) (k : j < previous_at). refl)
      (λ (j : ℕ) (h : previous_pairs_at ≤ j). refl)
      (λ (w : ℕ) (h : w < pending_limit). put_id_other t.keys t.rests (nulls_at + spent t) z (wait_nulls_at + w) (omega arith))
      refl
      few

------ a record kept

module _ (t : Store) (n p : ℕ) (ps : ℕ → ℕ) (k : ℕ) where
  pub record_used : used (with_record t n p ps k) ≡ used t
  unfolding with_record
  record_used = refl

  pub record_mark : marked (with_record t n p ps k) ≡ marked t
  unfolding with_record
  record_mark = refl

  pub record_names : SameNames t (with_record t n p ps k)
  unfolding with_record
  record_names = record { id_same = λ (m : ℕ) (h : m < name_limit). refl; number_same = λ (x : Id). refl }

  pub record_nulls : SameNulls t (with_record t n p ps k)
  unfolding with_record
  record_nulls = record { null_same = λ (q : ℕ) (h : q < null_limit). refl; place_same = λ (z : Id). refl }

  -- a record has its nonce from elsewhere
  pub record_nonce : nonce_of (with_record t n p ps k) n ≡ nonce_of t n
  unfolding with_record
  record_nonce = refl

  module _ (l : Lengths t) (named : n < name_limit) (short : k ≤ parent_limit) where
    -- name n has the nullifier at p and the k parents ps
    pub record_cell : place_cell (with_record t n p ps k) n ≡ p + 1
    unfolding with_record
    record_cell = get_or-set_same t.links (places_at + n) (p + 1) 0 (omega (arith, l.links_long))

    pub record_count : parent_count (with_record t n p ps k) n ≡ k
    unfolding with_record
    record_count =
        let h : counts_at + n < length (row_put t.nodes (parents_at + n * parent_limit) ps k) = rw (put_length t.nodes (parents_at + n * parent_limit) ps k) (omega (arith, l.nodes_long)) in
        rw get_or-set_same

    pub record_parent : (j : ℕ) → j < k → parent_at (with_record t n p ps k) n j ≡ ps j
    unfolding with_record
    record_parent j h =
        let d : parents_at + (n * parent_limit + j) ≢ counts_at + n = omega arith in
        let e : parents_at + (n * parent_limit + j) ≡ parents_at + n * parent_limit + j = omega arith in
        rw (get_or-set_other, e) (put_at t.nodes (parents_at + n * parent_limit) ps k j h (omega (arith, l.nodes_long)))

    -- all else is as it was
    record_nodes : (j : ℕ) → ((i : ℕ) → i < k → j ≢ parents_at + n * parent_limit + i) × (j ≢ counts_at + n) → get_or (with_record t n p ps k).nodes j 0 ≡ get_or t.nodes j 0
    unfolding with_record
    record_nodes j d = let a = d.1 in rw get_or-set_other (put_other t.nodes (parents_at + n * parent_limit) ps k j d.0)

    record_links : (j : ℕ) → j ≢ places_at + n → get_or (with_record t n p ps k).links j 0 ≡ get_or t.links j 0
    unfolding with_record
    record_links j d = get_or-set_other t.links (places_at + n) j (p + 1) 0 d

    pub record_other : (m : ℕ) → m < name_limit → m ≢ n → SameRecord t (with_record t n p ps k) m
    unfolding with_record
    record_other m h d =
        record {
          cell_same = record_links (places_at + m) (omega arith);
          count_same = record_nodes (counts_at + m) (omega arith);
          parent_same = λ (j : ℕ) (g : j < parent_limit). record_nodes (parents_at + (m * parent_limit + j)) (omega arith);
          nonce_same = refl;
        }

    pub record_children : SameChildren t (with_record t n p ps k)
    record_children =
        record {
          last_same = λ (m : ℕ) (h : m < name_limit). record_links (lasts_at + m) (omega arith);
          entry_same =
              λ (e : ℕ) (h : e < child_limit).
              record { child_same = record_nodes (children_at + e) (omega arith); previous_same = record_links (previous_at + e) (omega arith) };
        }

    pub record_rest : names t ≤ name_limit → SameRest t (with_record t n p ps k)
    unfolding with_record
    record_rest few =
        rest_by t (with_record t n p ps k)
        (λ (j : ℕ) (h : depths_at ≤ j) (g : j < children_at). record_nodes j (omega arith))
        (λ (j : ℕ) (h : partners_at ≤ j). record_nodes j (omega arith))
        (λ (j : ℕ) (h : last_pairs_at ≤ j) (g : j < previous_at). record_links j (omega arith))
        (λ (j : ℕ) (h : previous_pairs_at ≤ j). record_links j (omega arith))
        (λ (w : ℕ) (h : w < pending_limit). refl)
        refl
        few

------ the mark cleared

module _ (t : Store) where
  pub mark_used : used (unmarked t) ≡ used t
  unfolding unmarked
  mark_used =
      let h = t.head in
      rw (head_other h 6 0 0 refl, head_other h 6 1 0 refl, head_other h 6 2 0 refl, head_other h 6 3 0 refl, head_other h 6 4 0 refl, head_other h 6 5 0 refl)

  pub mark_cleared : marked (unmarked t) ≡ false
  unfolding unmarked
  mark_cleared = rw (zero_put t.head 6)

  pub mark_names : SameNames t (unmarked t)
  unfolding unmarked
  mark_names = record { id_same = λ (n : ℕ) (h : n < name_limit). refl; number_same = λ (x : Id). rw (head_other t.head 6 0 0 refl) }

  pub mark_nulls : SameNulls t (unmarked t)
  unfolding unmarked
  mark_nulls = record { null_same = λ (p : ℕ) (h : p < null_limit). refl; place_same = λ (z : Id). rw (head_other t.head 6 2 0 refl) }

  pub mark_record : (n : ℕ) → SameRecord t (unmarked t) n
  unfolding unmarked
  mark_record n = record { cell_same = refl; count_same = refl; parent_same = λ (j : ℕ) (k : j < parent_limit). refl; nonce_same = refl }

  pub mark_children : SameChildren t (unmarked t)
  unfolding unmarked
  mark_children =
      record { last_same = λ (n : ℕ) (h : n < name_limit). refl; entry_same = λ (e : ℕ) (h : e < child_limit). record { child_same = refl; previous_same = refl } }

  pub mark_rest : names t ≤ name_limit → SameRest t (unmarked t)
  unfolding unmarked
  mark_rest few =
      rest_by t (unmarked t)
      (λ (j : ℕ) (h : depths_at ≤ j) (k : j < children_at). refl)
      (λ (j : ℕ) (h : partners_at ≤ j). refl)
      (λ (j : ℕ) (h : last_pairs_at ≤ j) (k : j < previous_at). refl)
      (λ (j : ℕ) (h : previous_pairs_at ≤ j). refl)
      (λ (w : ℕ) (h : w < pending_limit). refl)
      refl
      few
