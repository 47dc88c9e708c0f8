-- What is unchanged by one step and by the next is unchanged by both.
use Rattle.std.specs.Prelude.{ℕ, ◌≤◌, ◌<◌, refl}
use Rattle.std.proofs.Common.{◌∙◌, arith}
use Rattle.cells.specs.Cells.{Id}
use Rattle.store.specs.Limits.{name_limit, parent_limit, null_limit, pending_limit, pair_limit}
use Rattle.store.specs.Tables.{Store, names}
use Rattle.store.specs.Views.{SameNames, SameNulls, SameRecord, SameEntry, SamePair, SamePending, SameRest}

module _ (t : Store) where
  pub names_self : SameNames t t
  names_self = record { id_same = λ (n : ℕ) (h : n < name_limit). refl; number_same = λ (x : Id). refl }

  pub nulls_self : SameNulls t t
  nulls_self = record { null_same = λ (p : ℕ) (h : p < null_limit). refl; place_same = λ (z : Id). refl }

  pub record_self : (n : ℕ) → SameRecord t t n
  record_self n = record { cell_same = refl; count_same = refl; parent_same = λ (j : ℕ) (h : j < parent_limit). refl; nonce_same = refl }

  pub entry_self : (e : ℕ) → SameEntry t t e
  entry_self e = record { child_same = refl; previous_same = refl }

  pending_self : (w : ℕ) → SamePending t t w
  pending_self w =
      record {
        wait_name_same = refl;
        wait_null_same = refl;
        wait_count_same = refl;
        wait_parent_same = λ (j : ℕ) (h : j < parent_limit). refl;
        wait_missing_same = refl;
        wait_asked_same = refl;
      }

  pub rest_self : SameRest t t
  rest_self =
      record {
        depth_same = λ (n : ℕ) (h : n < names t). refl;
        last_pair_same = λ (n : ℕ) (h : n < names t). refl;
        pair_same = λ (i : ℕ) (h : i < pair_limit). record { partner_same = refl; curvature_same = refl; previous_pair_same = refl };
        accepted_same = λ (i : ℕ) (h : i < name_limit). refl;
        requests_same = λ (n : ℕ) (h : n < names t). refl;
        tip_same = λ (n : ℕ) (h : n < names t). refl;
        pending_same = λ (w : ℕ) (h : w < pending_limit). pending_self w;
      }

module _ (t u v : Store) where
  pub names_then : SameNames t u → SameNames u v → SameNames t v
  names_then a b =
      record {
        id_same = λ (n : ℕ) (h : n < name_limit). b.id_same n h ∙ a.id_same n h;
        number_same = λ (x : Id). b.number_same x ∙ a.number_same x;
      }

  pub nulls_then : SameNulls t u → SameNulls u v → SameNulls t v
  nulls_then a b =
      record {
        null_same = λ (p : ℕ) (h : p < null_limit). b.null_same p h ∙ a.null_same p h;
        place_same = λ (z : Id). b.place_same z ∙ a.place_same z;
      }

  pub record_then : (n : ℕ) → SameRecord t u n → SameRecord u v n → SameRecord t v n
  record_then n a b =
      record {
        cell_same = b.cell_same ∙ a.cell_same;
        count_same = b.count_same ∙ a.count_same;
        parent_same = λ (j : ℕ) (h : j < parent_limit). b.parent_same j h ∙ a.parent_same j h;
        nonce_same = b.nonce_same ∙ a.nonce_same;
      }

  pub entry_then : (e : ℕ) → SameEntry t u e → SameEntry u v e → SameEntry t v e
  entry_then e a b = record { child_same = b.child_same ∙ a.child_same; previous_same = b.previous_same ∙ a.previous_same }

  pair_then : (i : ℕ) → SamePair t u i → SamePair u v i → SamePair t v i
  pair_then i a b =
      record {
        partner_same = b.partner_same ∙ a.partner_same;
        curvature_same = b.curvature_same ∙ a.curvature_same;
        previous_pair_same = b.previous_pair_same ∙ a.previous_pair_same;
      }

  pending_then : (w : ℕ) → SamePending t u w → SamePending u v w → SamePending t v w
  pending_then w a b =
      record {
        wait_name_same = b.wait_name_same ∙ a.wait_name_same;
        wait_null_same = b.wait_null_same ∙ a.wait_null_same;
        wait_count_same = b.wait_count_same ∙ a.wait_count_same;
        wait_parent_same = λ (j : ℕ) (h : j < parent_limit). b.wait_parent_same j h ∙ a.wait_parent_same j h;
        wait_missing_same = b.wait_missing_same ∙ a.wait_missing_same;
        wait_asked_same = b.wait_asked_same ∙ a.wait_asked_same;
      }

  pub rest_then : names t ≤ names u → SameRest t u → SameRest u v → SameRest t v
  rest_then m a b =
      record {
        depth_same = λ (n : ℕ) (h : n < names t). b.depth_same n (omega arith) ∙ a.depth_same n h;
        last_pair_same = λ (n : ℕ) (h : n < names t). b.last_pair_same n (omega arith) ∙ a.last_pair_same n h;
        pair_same = λ (i : ℕ) (h : i < pair_limit). pair_then i (a.pair_same i h) (b.pair_same i h);
        accepted_same = λ (i : ℕ) (h : i < name_limit). b.accepted_same i h ∙ a.accepted_same i h;
        requests_same = λ (n : ℕ) (h : n < names t). b.requests_same n (omega arith) ∙ a.requests_same n h;
        tip_same = λ (n : ℕ) (h : n < names t). b.tip_same n (omega arith) ∙ a.tip_same n h;
        pending_same = λ (w : ℕ) (h : w < pending_limit). pending_then w (a.pending_same w h) (b.pending_same w h);
      }
