-- How the check for StoreBad comes by its answer.
use Rattle.std.specs.Prelude.{ℕ, ◌+◌, ◌*◌, ◌<◌, ◌≡◌, Bool, true, false, ◌&&◌, List, get_or, leb, ltb}
use Rattle.std.proofs.Common.{sym, ap, ◌∙◌, add-one}
use Rattle.std.proofs.Math.Bool.{and_assoc, and-true}
use Rattle.std.proofs.Math.Dec.{leb-suc-suc}
use Rattle.cells.specs.Cells.{every, all_below, all_falling}
use Rattle.cells.specs.Every.{every_cong}
use Rattle.store.specs.declared.sound.Counts.{Counts}
use Rattle.store.specs.Limits.{name_limit, parent_limit, request_limit, curvature_top, parents_at, counts_at, depths_at, requests_at, accepted_at, children_at, partners_at, wait_names_at, wait_counts_at, wait_parents_at, places_at, lasts_at, last_pairs_at, previous_at, previous_pairs_at, curvatures_at}
use Rattle.store.specs.Tables.{Store, used}
use Rattle.store.specs.Sound.{nodes_columns, links_columns, column_right, all_right, lengths_right, head_right, sound, Within}
use Rattle.store.specs.Facts.{Lengths, lengths_known, within_known}

-- at most i is below i + 1
falling_right : (s : List ℕ) (from n : ℕ) → all_falling s from n ≡ every (λ i. ltb (get_or s (from + i) 0) (i + 1)) n
falling_right s from n =
    every_cong (λ i. leb (get_or s (from + i) 0) i) (λ i. ltb (get_or s (from + i) 0) (i + 1)) n
    (λ (i : ℕ) (h : i < n). rw add-one (sym (leb-suc-suc (get_or s (from + i) 0) i)))

-- the columns of nodes, as they are tested
pub nodes_checked : (s : List ℕ) (u : Counts)
    → all_below s counts_at u.names (parent_limit + 1)
    && all_below s requests_at u.names (request_limit + 1)
    && all_below s wait_counts_at u.waiting (parent_limit + 1)
    && all_below s depths_at u.names (name_limit + 2)
    && all_below s parents_at (u.names * parent_limit) u.names
    && all_below s accepted_at u.accepted u.names
    && all_below s children_at u.entries u.names
    && all_below s partners_at u.pairs u.names
    && all_below s wait_names_at u.waiting u.names
    && all_below s wait_parents_at (u.waiting * parent_limit) u.names
    ≡ all_right s (nodes_columns u)
unfolding all_right column_right nodes_columns every
nodes_checked s u = simp (and_assoc, and-true)

-- the columns of links, as they are tested
pub links_checked : (s : List ℕ) (u : Counts)
    → all_below s places_at u.names (u.spent + 1)
    && all_below s lasts_at u.names (u.entries + 1)
    && all_below s last_pairs_at u.names (u.pairs + 1)
    && all_falling s previous_at u.entries
    && all_falling s previous_pairs_at u.pairs
    && all_below s curvatures_at u.pairs (curvature_top + 1)
    ≡ all_right s (links_columns u)
unfolding all_right column_right links_columns
links_checked s u = rw (falling_right s previous_at u.entries, falling_right s previous_pairs_at u.pairs) (simp (and_assoc, and-true))

-- the whole check, by where it ends
module _ (t : Store) (a : Bool) (ha : a ≡ lengths_right t) where
  pub wrong_lengths : a ≡ false → false ≡ sound t
  unfolding sound
  wrong_lengths e = rw (← ha, e)

  module _ (e : a ≡ true) (u : Counts) (hu : u ≡ used t) (b : Bool) (hb : b ≡ head_right u) where
    head_here : head_right (used t) ≡ b
    head_here = ap head_right (sym hu) ∙ sym hb

    pub wrong_counts : b ≡ false → false ≡ sound t
    unfolding sound
    wrong_counts f = rw (← ha, e, head_here, f)

    pub the_columns : (c d : Bool) → b ≡ true → c ≡ all_right t.nodes (nodes_columns u) → d ≡ all_right t.links (links_columns u) → c && d ≡ sound t
    unfolding sound
    the_columns c d f hc hd = rw (← ha, e, head_here, f, ← hu, ← hc, ← hd)

-- what the columns' tests ask for
pub lengths_here : (t : Store) (a : Bool) → a ≡ lengths_right t → a ≡ true → Lengths t
lengths_here t a h e = lengths_known t (sym h ∙ e)

pub within_here : (u : Counts) (b : Bool) → b ≡ head_right u → b ≡ true → Within u
within_here u b h e = within_known u (sym h ∙ e)
