-- What `sound` tells, cell by cell, and back.
use Rattle.std.specs.Prelude.{ℕ, zero, suc, ◌+◌, ◌*◌, ◌≤◌, ◌<◌, ◌≡◌, refl, Bool, true, ◌&&◌, List, [], ◌∷◌, length, get_or, eqb, leb, ltb}
use Rattle.std.proofs.Common.{arith, ltb-true, lt-ltb, leb-true, le-leb, eqb-true, eq-eqb}
use Rattle.std.proofs.lemmas.Bool.{and_parts}
use Rattle.cells.specs.Every.{every_at, every_all}
use Rattle.store.specs.Limits.{name_limit, parent_limit, child_limit, null_limit, pending_limit, pair_limit, request_limit, curvature_top, head_length, keys_length, rests_length, nodes_length, links_length, nonces_length, tips_length}
use Rattle.store.specs.Tables.{Store, names, entries, spent, pairs, waiting, accepted, used, place_cell, parent_count, parent_at, last_entry, child_at, previous, depth_cell, last_pair, partner, curvature_cell, previous_pair, accepted_as, requests, wait_name, wait_count, wait_parent}
use Rattle.store.specs.Sound.{lengths_right, head_right, Column, nodes_columns, links_columns, column_right, all_right, sound, Within}
use Rattle.store.specs.declared.sound.Counts.{Counts}

------ lengths and counts

and_both : (a b : Bool) → a ≡ true → b ≡ true → a && b ≡ true
and_both a b e f = rw (e, f)

pub record Lengths (t : Store) : Type 0 where
  pub head_long : length t.head ≡ head_length
  pub keys_long : length t.keys ≡ keys_length
  pub rests_long : length t.rests ≡ rests_length
  pub nodes_long : length t.nodes ≡ nodes_length
  pub links_long : length t.links ≡ links_length
  pub nonces_long : length t.nonces ≡ nonces_length
  pub tips_long : length t.tips ≡ tips_length

pub lengths_known : (t : Store) → lengths_right t ≡ true → Lengths t
unfolding lengths_right
lengths_known t e =
    let head = eqb (length t.head) head_length in
    let keys = eqb (length t.keys) keys_length in
    let rests = eqb (length t.rests) rests_length in
    let nodes = eqb (length t.nodes) nodes_length in
    let links = eqb (length t.links) links_length in
    let nonces = eqb (length t.nonces) nonces_length in
    let tips = eqb (length t.tips) tips_length in
    let e6 = (and_parts (head && keys && rests && nodes && links && nonces) tips e).0 in
    let e5 = (and_parts (head && keys && rests && nodes && links) nonces e6).0 in
    let e4 = (and_parts (head && keys && rests && nodes) links e5).0 in
    let e3 = (and_parts (head && keys && rests) nodes e4).0 in
    let e2 = (and_parts (head && keys) rests e3).0 in
    record {
      head_long = eqb-true _ _ (and_parts head keys e2).0;
      keys_long = eqb-true _ _ (and_parts head keys e2).1;
      rests_long = eqb-true _ _ (and_parts (head && keys) rests e3).1;
      nodes_long = eqb-true _ _ (and_parts (head && keys && rests) nodes e4).1;
      links_long = eqb-true _ _ (and_parts (head && keys && rests && nodes) links e5).1;
      nonces_long = eqb-true _ _ (and_parts (head && keys && rests && nodes && links) nonces e6).1;
      tips_long = eqb-true _ _ (and_parts (head && keys && rests && nodes && links && nonces) tips e).1;
    }

pub lengths_true : (t : Store) → Lengths t → lengths_right t ≡ true
unfolding lengths_right
lengths_true t l =
    rw (
      eq-eqb _ _ l.head_long,
      eq-eqb _ _ l.keys_long,
      eq-eqb _ _ l.rests_long,
      eq-eqb _ _ l.nodes_long,
      eq-eqb _ _ l.links_long,
      eq-eqb _ _ l.nonces_long,
      eq-eqb _ _ l.tips_long,
    )

pub within_known : (u : Counts) → head_right u ≡ true → Within u
unfolding head_right
within_known u e =
    let names = leb u.names name_limit in
    let entries = leb u.entries child_limit in
    let spent = leb u.spent null_limit in
    let pairs = leb u.pairs pair_limit in
    let waiting = leb u.waiting pending_limit in
    let accepted = leb u.accepted name_limit in
    let e5 = (and_parts (names && entries && spent && pairs && waiting) accepted e).0 in
    let e4 = (and_parts (names && entries && spent && pairs) waiting e5).0 in
    let e3 = (and_parts (names && entries && spent) pairs e4).0 in
    let e2 = (and_parts (names && entries) spent e3).0 in
    record {
      few_names = leb-true _ _ (and_parts names entries e2).0;
      few_entries = leb-true _ _ (and_parts names entries e2).1;
      few_spent = leb-true _ _ (and_parts (names && entries) spent e3).1;
      few_pairs = leb-true _ _ (and_parts (names && entries && spent) pairs e4).1;
      few_waiting = leb-true _ _ (and_parts (names && entries && spent && pairs) waiting e5).1;
      few_accepted = leb-true _ _ (and_parts (names && entries && spent && pairs && waiting) accepted e).1;
    }

pub within_true : (u : Counts) → Within u → head_right u ≡ true
unfolding head_right
within_true u w =
    rw (
      le-leb _ _ w.few_names,
      le-leb _ _ w.few_entries,
      le-leb _ _ w.few_spent,
      le-leb _ _ w.few_pairs,
      le-leb _ _ w.few_waiting,
      le-leb _ _ w.few_accepted,
    )

------ columns

-- no column
abbrev pub no_column : Column
no_column = record { start = 0; size = 0; in_use = 0; bound = λ i. 0 }

-- the k-th of some columns
abbrev pub the : List Column → ℕ → Column
the cs k = get_or cs k no_column

-- each cell in use of a column is below its bound
abbrev pub Fits : List ℕ → Column → Type 0
Fits s c = (i : ℕ) → i < c.in_use → get_or s (c.start + i) 0 < c.bound i

-- and so in each of some columns
abbrev pub AllFit : List ℕ → List Column → Type 0
AllFit s cs = (k : ℕ) → Fits s (the cs k)

column_known : (s : List ℕ) (c : Column) → column_right s c ≡ true → Fits s c
unfolding column_right
column_known s c e i h = ltb-true _ _ (every_at (λ i. ltb (get_or s (c.start + i) 0) (c.bound i)) c.in_use i e h)

column_true : (s : List ℕ) (c : Column) → Fits s c → column_right s c ≡ true
unfolding column_right
column_true s c f = every_all (λ i. ltb (get_or s (c.start + i) 0) (c.bound i)) c.in_use (λ (i : ℕ) (h : i < c.in_use). lt-ltb _ _ (f i h))

pub all_known : (s : List ℕ) (cs : List Column) → all_right s cs ≡ true → AllFit s cs
unfolding all_right
all_known s [] e k = λ (i : ℕ) (h : i < 0). absurd (omega arith)
all_known s (c ∷ cs) e zero = column_known s c (and_parts (column_right s c) (all_right s cs) e).0
all_known s (c ∷ cs) e (suc k) = all_known s cs (and_parts (column_right s c) (all_right s cs) e).1 k

pub all_true : (s : List ℕ) (cs : List Column) → AllFit s cs → all_right s cs ≡ true
unfolding all_right
all_true s [] f = refl
all_true s (c ∷ cs) f = and_both (column_right s c) (all_right s cs) (column_true s c (f 0)) (all_true s cs (λ (k : ℕ). f (suc k)))

------ the store

-- what a store is that is not bad
pub record Sound (t : Store) : Type 0 where
  pub lengths : Lengths t
  pub within : Within (used t)
  pub nodes_fit : AllFit t.nodes (nodes_columns (used t))
  pub links_fit : AllFit t.links (links_columns (used t))

pub sound_known : (t : Store) → sound t ≡ true → Sound t
unfolding sound
sound_known t e =
    let lengths = lengths_right t in
    let counts = head_right (used t) in
    let nodes = all_right t.nodes (nodes_columns (used t)) in
    let links = all_right t.links (links_columns (used t)) in
    let e3 = (and_parts (lengths && counts && nodes) links e).0 in
    let e2 = (and_parts (lengths && counts) nodes e3).0 in
    record {
      lengths = lengths_known t (and_parts lengths counts e2).0;
      within = within_known (used t) (and_parts lengths counts e2).1;
      nodes_fit = all_known t.nodes (nodes_columns (used t)) (and_parts (lengths && counts) nodes e3).1;
      links_fit = all_known t.links (links_columns (used t)) (and_parts (lengths && counts && nodes) links e).1;
    }

pub sound_true : (t : Store) → Sound t → sound t ≡ true
unfolding sound
sound_true t s =
    rw (
      lengths_true t s.lengths,
      within_true (used t) s.within,
      all_true t.nodes (nodes_columns (used t)) s.nodes_fit,
      all_true t.links (links_columns (used t)) s.links_fit,
    )

------ one by one

module _ (t : Store) (s : Sound t) where
  -- counts
  pub parents_few : (n : ℕ) → n < names t → parent_count t n ≤ parent_limit
  unfolding nodes_columns
  parents_few n h = omega (arith, s.nodes_fit 0 n h)

  pub requests_few : (n : ℕ) → n < names t → requests t n ≤ request_limit
  unfolding nodes_columns
  requests_few n h = omega (arith, s.nodes_fit 1 n h)

  pub wait_parents_few : (w : ℕ) → w < waiting t → wait_count t w ≤ parent_limit
  unfolding nodes_columns
  wait_parents_few w h = omega (arith, s.nodes_fit 2 w h)

  -- cached depths
  pub depth_few : (n : ℕ) → n < names t → depth_cell t n ≤ name_limit + 1
  unfolding nodes_columns
  depth_few n h = omega (arith, s.nodes_fit 3 n h)

  -- names
  pub parent_named : (n j : ℕ) → n < names t → j < parent_limit → parent_at t n j < names t
  unfolding nodes_columns
  parent_named n j h k = s.nodes_fit 4 (n * parent_limit + j) (omega arith)

  pub accepted_named : (i : ℕ) → i < accepted t → accepted_as t i < names t
  unfolding nodes_columns
  accepted_named i h = s.nodes_fit 5 i h

  pub child_named : (e : ℕ) → e < entries t → child_at t e < names t
  unfolding nodes_columns
  child_named e h = s.nodes_fit 6 e h

  pub partner_named : (i : ℕ) → i < pairs t → partner t i < names t
  unfolding nodes_columns
  partner_named i h = s.nodes_fit 7 i h

  pub wait_named : (w : ℕ) → w < waiting t → wait_name t w < names t
  unfolding nodes_columns
  wait_named w h = s.nodes_fit 8 w h

  pub wait_parent_named : (w j : ℕ) → w < waiting t → j < parent_limit → wait_parent t w j < names t
  unfolding nodes_columns
  wait_parent_named w j h k = s.nodes_fit 9 (w * parent_limit + j) (omega arith)

  -- places, with 1 added
  pub place_spent : (n : ℕ) → n < names t → place_cell t n ≤ spent t
  unfolding links_columns
  place_spent n h = omega (arith, s.links_fit 0 n h)

  pub last_entered : (n : ℕ) → n < names t → last_entry t n ≤ entries t
  unfolding links_columns
  last_entered n h = omega (arith, s.links_fit 1 n h)

  pub last_paired : (n : ℕ) → n < names t → last_pair t n ≤ pairs t
  unfolding links_columns
  last_paired n h = omega (arith, s.links_fit 2 n h)

  pub entry_falls : (e : ℕ) → e < entries t → previous t e ≤ e
  unfolding links_columns
  entry_falls e h = omega (arith, s.links_fit 3 e h)

  pub pair_falls : (i : ℕ) → i < pairs t → previous_pair t i ≤ i
  unfolding links_columns
  pair_falls i h = omega (arith, s.links_fit 4 i h)

  -- cached curvatures
  pub curvature_few : (i : ℕ) → i < pairs t → curvature_cell t i ≤ curvature_top
  unfolding links_columns
  curvature_few i h = omega (arith, s.links_fit 5 i h)
