-- A store that is not bad is not bad after any update.
use Rattle.std.specs.Prelude.{ℕ, ◌+◌, ◌-◌, ◌*◌, ◌≤◌, ◌<◌, ◌≡◌, List}
use Rattle.std.proofs.Common.{sym, subst, eq-zero-or-pos}
use Rattle.std.proofs.Math.Logic.{⊎_elim}
use native.Mathlib.Omega.{arith}
use borrow.Author.Count.{below_more}
use Rattle.std.proofs.Math.ListN.{get_or, set, length-set}
use Rattle.std.proofs.Math.Seq.{get_or-set_same}
use Rattle.cells.specs.Cells.{Id, row_put}
use Rattle.cells.specs.Rows.{put_length}
use Rattle.cells.specs.Ids.{keys_put_length, rests_put_length}
use Rattle.bitset.specs.Words.{length_without}
use Rattle.store.specs.declared.sound.Counts.{Counts}
use Rattle.store.specs.Limits.{name_limit, parent_limit, child_limit, null_limit, names_at, nulls_at, parents_at, counts_at, depths_at, places_at, lasts_at, previous_at}
use Rattle.store.specs.Tables.{Store, names, entries, spent, used, last_entry, fresh_node, fresh_link, with_name, with_child, with_null, with_record, unmarked}
use Rattle.store.specs.Sound.{nodes_columns, links_columns, Within}
use Rattle.store.specs.Facts.{Lengths, the, Fits, AllFit, Sound, last_entered}
use Rattle.store.specs.Columns.{nodes_apart, links_apart, nodes_inside, links_inside, put_fits, row_fits, Each, each}
use Rattle.store.specs.Views.{more_names, more_entries, more_spent, name_used, name_new, child_used, child_child, null_used, record_used, mark_used}

-- from what its counts are
pub sound_by : (t : Store) (u : Counts) → used t ≡ u → Lengths t → Within u → AllFit t.nodes (nodes_columns u) → AllFit t.links (links_columns u) → Sound t
sound_by t u e l w f g =
    record {
      lengths = l;
      within = subst (λ (v : Counts). Within v) (sym e) w;
      nodes_fit = subst (λ (v : Counts). AllFit t.nodes (nodes_columns v)) (sym e) f;
      links_fit = subst (λ (v : Counts). AllFit t.links (links_columns v)) (sym e) g;
    }

-- the columns one by one
pub nodes_each : (s : List ℕ) (u : Counts) → Each (Fits s) (nodes_columns u) → AllFit s (nodes_columns u)
nodes_each s u = each (Fits s) (nodes_columns u) (λ (i : ℕ) (h : i < 0). absurd (omega arith))

pub links_each : (s : List ℕ) (u : Counts) → Each (Fits s) (links_columns u) → AllFit s (links_columns u)
links_each s u = each (Fits s) (links_columns u) (λ (i : ℕ) (h : i < 0). absurd (omega arith))

module _ (s : List ℕ) (u : Counts) (w : Within u) where
  node_put : (m j v : ℕ) → j < (the (nodes_columns u) m).size → (j < (the (nodes_columns u) m).in_use → v < (the (nodes_columns u) m).bound j) → AllFit s (nodes_columns u) → AllFit (set s ((the (nodes_columns u) m).start + j) v) (nodes_columns u)
  node_put m = put_fits (nodes_columns u) (nodes_apart u) (nodes_inside u w) m s

  link_put : (m j v : ℕ) → j < (the (links_columns u) m).size → (j < (the (links_columns u) m).in_use → v < (the (links_columns u) m).bound j) → AllFit s (links_columns u) → AllFit (set s ((the (links_columns u) m).start + j) v) (links_columns u)
  link_put m = put_fits (links_columns u) (links_apart u) (links_inside u w) m s

------ a name more

module _ (t : Store) (x : Id) (s : Sound t) (room : names t < name_limit) where
  name_lengths : Lengths (with_name t x)
  unfolding with_name fresh_node fresh_link
  name_lengths =
      let l = s.lengths in
      record {
        head_long = simp length-set l.head_long;
        keys_long = rw (keys_put_length t.keys t.rests (names_at + names t) x) l.keys_long;
        rests_long = rw (rests_put_length t.keys t.rests (names_at + names t) x) l.rests_long;
        nodes_long = simp (length-set, put_length) l.nodes_long;
        links_long = simp length-set l.links_long;
        nonces_long = simp length-set l.nonces_long;
        tips_long = rw (length_without t.tips (names t)) l.tips_long;
      }

  -- cells that were not in use are put
  name_nodes_put : AllFit (with_name t x).nodes (nodes_columns (used t))
  unfolding with_name fresh_node nodes_columns
  name_nodes_put =
      let u = used t in
      let w = s.within in
      let n = names t in
      let s1 = row_put t.nodes (parents_at + n * parent_limit) (λ j. 0) parent_limit in
      let s2 = set s1 (counts_at + n) 0 in
      let s3 = set s2 (depths_at + n) 0 in
      node_put s3 u w 1 n 0 room (λ h. omega arith)
      (node_put s2 u w 3 n 0 room (λ h. omega arith)
      (node_put s1 u w 0 n 0 room (λ h. omega arith)
      (row_fits (nodes_columns u) (nodes_apart u) (nodes_inside u w) 4 t.nodes (n * parent_limit) (λ j. 0) parent_limit (omega arith) (λ i a h. omega arith)
      s.nodes_fit)))

  name_links_put : AllFit (with_name t x).links (links_columns (used t))
  unfolding with_name fresh_link links_columns
  name_links_put =
      let u = used t in
      let w = s.within in
      let n = names t in
      let s1 = set t.links (places_at + n) 0 in
      let s2 = set s1 (lasts_at + n) 0 in
      link_put s2 u w 2 n 0 room (λ h. omega arith)
      (link_put s1 u w 1 n 0 room (λ h. omega arith) (link_put t.links u w 0 n 0 room (λ h. omega arith) s.links_fit))

  -- a parent in use is one of an old name, or 0
  name_parents : Fits (with_name t x).nodes (the (nodes_columns (more_names (used t))) 4)
  unfolding nodes_columns
  name_parents i h =
      let f = name_nodes_put 4 i in
      let n = name_new t x s.lengths room in
      ⊎_elim
      (λ (a : names t * parent_limit - i ≡ 0).
      let e : parents_at + (names t * parent_limit + (i - names t * parent_limit)) ≡ parents_at + i = omega arith in
      let z = n.no_parent (i - names t * parent_limit) (omega arith) in
      omega (arith, rw e at z))
      (λ (a : 0 < names t * parent_limit - i). omega (arith, f (omega arith)))
      (eq-zero-or-pos (names t * parent_limit - i))

  -- and they come into use
  name_nodes : AllFit (with_name t x).nodes (nodes_columns (more_names (used t)))
  unfolding nodes_columns Each
  name_nodes =
      let f = name_nodes_put in
      let n = name_new t x s.lengths room in
      nodes_each (with_name t x).nodes (more_names (used t)) (
        below_more _ _ (f 0) (omega (arith, n.no_parents)),
        (
          below_more _ _ (f 1) (omega (arith, n.no_requests)),
          (
            f 2,
            (
              below_more _ _ (f 3) (omega (arith, n.no_depth)),
              (
                name_parents,
                (
                  (λ (i : ℕ) (h : i < _). omega (arith, f 5 i h)),
                  (
                    (λ (i : ℕ) (h : i < _). omega (arith, f 6 i h)),
                    (
                      (λ (i : ℕ) (h : i < _). omega (arith, f 7 i h)),
                      (
                        (λ (i : ℕ) (h : i < _). omega (arith, f 8 i h)),
                        (
                          (λ (i : ℕ) (h : i < _). omega (arith, f 9 i h)),
                          (
                            f 10,
                            (
                              f 11,
                              tt,
                            ),
                          ),
                        ),
                      ),
                    ),
                  ),
                ),
              ),
            ),
          ),
        ),
      )

  name_links : AllFit (with_name t x).links (links_columns (more_names (used t)))
  unfolding links_columns Each
  name_links =
      let f = name_links_put in
      let n = name_new t x s.lengths room in
      links_each (with_name t x).links (more_names (used t)) (
        below_more _ _ (f 0) (omega (arith, n.no_place)),
        (
          below_more _ _ (f 1) (omega (arith, n.no_children)),
          (
            below_more _ _ (f 2) (omega (arith, n.no_pairs)),
            (
              f 3,
              (
                f 4,
                (
                  f 5,
                  tt,
                ),
              ),
            ),
          ),
        ),
      )

  pub name_sound : Sound (with_name t x)
  name_sound =
      let w = s.within in
      sound_by (with_name t x) (more_names (used t)) (name_used t x s.lengths room) name_lengths
      (omega arith)
      name_nodes
      name_links

------ an entry more

module _ (t : Store) (p c : ℕ) (s : Sound t) (room : entries t < child_limit) (parent : p < names t) (child : c < names t) where
  child_lengths : Lengths (with_child t p c)
  unfolding with_child
  child_lengths =
      let l = s.lengths in
      record {
        head_long = simp length-set l.head_long;
        keys_long = l.keys_long;
        rests_long = l.rests_long;
        nodes_long = simp length-set l.nodes_long;
        links_long = simp length-set l.links_long;
        nonces_long = l.nonces_long;
        tips_long = l.tips_long;
      }

  child_within : Within (more_entries (used t))
  child_within = let w = s.within in omega arith

  -- the new child comes into use
  child_nodes : AllFit (with_child t p c).nodes (nodes_columns (more_entries (used t)))
  unfolding with_child nodes_columns Each
  child_nodes =
      let f : AllFit (with_child t p c).nodes (nodes_columns (used t)) = node_put t.nodes (used t) s.within 6 (entries t) c room (λ h. omega arith) s.nodes_fit in
      let named : p < name_limit = omega (arith, s.within.few_names) in
      nodes_each (with_child t p c).nodes (more_entries (used t))
      (f 0, (f 1, (f 2, (f 3, (f 4, (f 5, (below_more _ _ (f 6) (omega (arith, child_child t p c s.lengths room named)), (f 7, (f 8, (f 9, (f 10, (f 11, tt))))))))))))

  -- the link to the entry before it comes into use, and then p's last entry is put
  child_links : AllFit (with_child t p c).links (links_columns (more_entries (used t)))
  unfolding with_child links_columns Each
  child_links =
      let s1 = set t.links (previous_at + entries t) (last_entry t p) in
      let f : AllFit s1 (links_columns (used t)) = link_put t.links (used t) s.within 3 (entries t) (last_entry t p) room (λ h. omega arith) s.links_fit in
      let v : get_or s1 (previous_at + entries t) 0 ≡ last_entry t p = get_or-set_same t.links (previous_at + entries t) (last_entry t p) 0 (omega (arith, s.lengths.links_long)) in
      let b : last_entry t p ≤ entries t = last_entered t s p parent in
      let g : AllFit s1 (links_columns (more_entries (used t))) =
      links_each s1 (more_entries (used t))
      (f 0, ((λ (i : ℕ) (h : i < names t). omega (arith, f 1 i h)), (f 2, (below_more _ _ (f 3) (omega arith), (f 4, (f 5, tt)))))) in
      link_put s1 (more_entries (used t)) child_within 1 p (entries t + 1) (omega (arith, s.within.few_names)) (λ h. omega arith) g

  pub child_sound : Sound (with_child t p c)
  child_sound =
      sound_by (with_child t p c) (more_entries (used t)) (child_used t p c s.lengths room (omega (arith, s.within.few_names))) child_lengths child_within child_nodes child_links

------ a nullifier more

module _ (t : Store) (z : Id) (s : Sound t) (room : spent t < null_limit) where
  null_lengths : Lengths (with_null t z)
  unfolding with_null
  null_lengths =
      let l = s.lengths in
      record {
        head_long = simp length-set l.head_long;
        keys_long = rw (keys_put_length t.keys t.rests (nulls_at + spent t) z) l.keys_long;
        rests_long = rw (rests_put_length t.keys t.rests (nulls_at + spent t) z) l.rests_long;
        nodes_long = l.nodes_long;
        links_long = l.links_long;
        nonces_long = l.nonces_long;
        tips_long = l.tips_long;
      }

  null_links : AllFit (with_null t z).links (links_columns (more_spent (used t)))
  unfolding with_null links_columns Each
  null_links =
      let f = s.links_fit in
      links_each t.links (more_spent (used t)) ((λ (i : ℕ) (h : i < names t). omega (arith, f 0 i h)), (f 1, (f 2, (f 3, (f 4, (f 5, tt))))))

  null_nodes : AllFit (with_null t z).nodes (nodes_columns (more_spent (used t)))
  unfolding with_null nodes_columns
  null_nodes = s.nodes_fit

  pub null_sound : Sound (with_null t z)
  null_sound =
      let w = s.within in
      sound_by (with_null t z) (more_spent (used t)) (null_used t z s.lengths room) null_lengths
      (omega arith)
      null_nodes
      null_links

------ a record kept

module _ (t : Store) (n p : ℕ) (ps : ℕ → ℕ) (k : ℕ) (s : Sound t) (named : n < names t) (place : p < spent t) (short : k ≤ parent_limit) (parents : (j : ℕ) → j < k → ps j < names t) where
  record_lengths : Lengths (with_record t n p ps k)
  unfolding with_record
  record_lengths =
      let l = s.lengths in
      record {
        head_long = l.head_long;
        keys_long = l.keys_long;
        rests_long = l.rests_long;
        nodes_long = simp (length-set, put_length) l.nodes_long;
        links_long = simp length-set l.links_long;
        nonces_long = l.nonces_long;
        tips_long = l.tips_long;
      }

  record_nodes : AllFit (with_record t n p ps k).nodes (nodes_columns (used t))
  unfolding with_record nodes_columns
  record_nodes =
      let u = used t in
      let w = s.within in
      let few = w.few_names in
      node_put (row_put t.nodes (parents_at + n * parent_limit) ps k) u w 0 n k (omega arith) (λ h. omega arith)
      (row_fits (nodes_columns u) (nodes_apart u) (nodes_inside u w) 4 t.nodes (n * parent_limit) ps k (omega arith) (λ i a h. parents i a) s.nodes_fit)

  record_links : AllFit (with_record t n p ps k).links (links_columns (used t))
  unfolding with_record links_columns
  record_links = link_put t.links (used t) s.within 0 n (p + 1) (omega (arith, s.within.few_names)) (λ h. omega arith) s.links_fit

  pub record_sound : Sound (with_record t n p ps k)
  record_sound = sound_by (with_record t n p ps k) (used t) (record_used t n p ps k) record_lengths s.within record_nodes record_links

------ the mark cleared

mark_lengths : (t : Store) → Lengths t → Lengths (unmarked t)
unfolding unmarked
mark_lengths t l =
    record {
      head_long = simp length-set l.head_long;
      keys_long = l.keys_long;
      rests_long = l.rests_long;
      nodes_long = l.nodes_long;
      links_long = l.links_long;
      nonces_long = l.nonces_long;
      tips_long = l.tips_long;
    }

pub mark_sound : (t : Store) → Sound t → Sound (unmarked t)
unfolding unmarked
mark_sound t s = sound_by (unmarked t) (used t) (mark_used t) (mark_lengths t s.lengths) s.within s.nodes_fit s.links_fit
