-- What naming leaves: all that the store held is as it was, and a new name is as never seen.
use Rattle.std.specs.Prelude.{ℕ, zero, suc, ◌≤◌, ◌<◌, ◌≡◌, refl, Bool, true, false, [], Option, Some, None}
use Rattle.std.proofs.Common.{ap, ◌∙◌, ⊎_elim, arith}
use Rattle.cells.specs.Cells.{Id}
use Rattle.cells.specs.Every.{last_or}
use Rattle.store.specs.Limits.{name_limit, parent_limit, child_limit, null_limit, pending_limit, pair_limit}
use Rattle.store.specs.Tables.{Store, names, entries, spent, pairs, waiting, accepted, used, marked, id_of, number_of, held, held_if, contains, last_entry, chain, children_of, with_name}
use Rattle.store.specs.Facts.{Sound}
use Rattle.store.specs.Views.{SameNulls, SameRecord, SameEntry, SamePair, SamePending, SameRest, NoRecord, counted, more_names, held_same, name_used, name_mark, name_id_other, name_record_other, name_last_other, name_nulls, name_entry, name_rest, name_new}
use Rattle.store.specs.Chains.{children_same}
use Rattle.naming.specs.Naming.{is_new, name_if, named, number_at}
use Rattle.naming.specs.Numbers.{number_old, number_new, number_of_below}
use Rattle.naming.proofs.Named.{Nameable, nameable_less, progress, room_here, number_named}

-- u has all that t held
pub record Kept (t u : Store) : Type 0 where
  pub more : names t ≤ names u
  pub entries_same : entries u ≡ entries t
  pub spent_same : spent u ≡ spent t
  pub pairs_same : pairs u ≡ pairs t
  pub waiting_same : waiting u ≡ waiting t
  pub accepted_same : accepted u ≡ accepted t
  pub mark_same : marked u ≡ marked t
  pub id_same : (n : ℕ) → n < names t → id_of u n ≡ id_of t n
  pub record_same : (n : ℕ) → n < names t → SameRecord t u n
  pub last_same : (n : ℕ) → n < names t → last_entry u n ≡ last_entry t n
  pub entry_same : (e : ℕ) → e < child_limit → SameEntry t u e
  pub nulls : SameNulls t u
  pub rest : SameRest t u

------ one id

module _ (t : Store) (x : Id) (s : Sound t) (room : names t < name_limit) where
  kept_name : Kept t (with_name t x)
  kept_name =
      let l = s.lengths in
      let c = counted (with_name t x) (more_names (used t)) (name_used t x l room) in
      record {
        more = omega (arith, c.names_are);
        entries_same = c.entries_are;
        spent_same = c.spent_are;
        pairs_same = c.pairs_are;
        waiting_same = c.waiting_are;
        accepted_same = c.accepted_are;
        mark_same = name_mark t x l room;
        id_same = λ (n : ℕ) (h : n < names t). name_id_other t x l room n (omega arith);
        record_same = λ (n : ℕ) (h : n < names t). name_record_other t x l room n (omega arith) (omega arith);
        last_same = λ (n : ℕ) (h : n < names t). name_last_other t x l room n (omega arith) (omega arith);
        entry_same = name_entry t x l room;
        nulls = name_nulls t x l room;
        rest = name_rest t x l room;
      }

------ one after the other

module _ (t u v : Store) where
  record_then : (n : ℕ) → SameRecord t u n → SameRecord u v n → SameRecord t v n
  record_then n a b =
      record {
        cell_same = b.cell_same ∙ a.cell_same;
        count_same = b.count_same ∙ a.count_same;
        parent_same = λ (j : ℕ) (h : j < parent_limit). b.parent_same j h ∙ a.parent_same j h;
        nonce_same = b.nonce_same ∙ a.nonce_same;
      }

  entry_then : (e : ℕ) → SameEntry t u e → SameEntry u v e → SameEntry t v e
  entry_then e a b = record { child_same = b.child_same ∙ a.child_same; previous_same = b.previous_same ∙ a.previous_same }

  pair_then : (i : ℕ) → SamePair t u i → SamePair u v i → SamePair t v i
  pair_then i a b =
      record {
        partner_same = b.partner_same ∙ a.partner_same;
        curvature_same = b.curvature_same ∙ a.curvature_same;
        previous_pair_same = b.previous_pair_same ∙ a.previous_pair_same;
      }

  pending_then : (w : ℕ) → SamePending t u w → SamePending u v w → SamePending t v w
  pending_then w a b =
      record {
        wait_name_same = b.wait_name_same ∙ a.wait_name_same;
        wait_null_same = b.wait_null_same ∙ a.wait_null_same;
        wait_count_same = b.wait_count_same ∙ a.wait_count_same;
        wait_parent_same = λ (j : ℕ) (h : j < parent_limit). b.wait_parent_same j h ∙ a.wait_parent_same j h;
        wait_missing_same = b.wait_missing_same ∙ a.wait_missing_same;
        wait_asked_same = b.wait_asked_same ∙ a.wait_asked_same;
      }

  rest_then : names t ≤ names u → SameRest t u → SameRest u v → SameRest t v
  rest_then m a b =
      record {
        depth_same = λ (n : ℕ) (h : n < names t). b.depth_same n (omega arith) ∙ a.depth_same n h;
        last_pair_same = λ (n : ℕ) (h : n < names t). b.last_pair_same n (omega arith) ∙ a.last_pair_same n h;
        pair_same = λ (i : ℕ) (h : i < pair_limit). pair_then i (a.pair_same i h) (b.pair_same i h);
        accepted_same = λ (i : ℕ) (h : i < name_limit). b.accepted_same i h ∙ a.accepted_same i h;
        requests_same = λ (n : ℕ) (h : n < names t). b.requests_same n (omega arith) ∙ a.requests_same n h;
        tip_same = λ (n : ℕ) (h : n < names t). b.tip_same n (omega arith) ∙ a.tip_same n h;
        pending_same = λ (w : ℕ) (h : w < pending_limit). pending_then w (a.pending_same w h) (b.pending_same w h);
      }

  kept_then : Kept t u → Kept u v → Kept t v
  kept_then a b =
      let m = a.more in
      record {
        more = omega (arith, a.more, b.more);
        entries_same = b.entries_same ∙ a.entries_same;
        spent_same = b.spent_same ∙ a.spent_same;
        pairs_same = b.pairs_same ∙ a.pairs_same;
        waiting_same = b.waiting_same ∙ a.waiting_same;
        accepted_same = b.accepted_same ∙ a.accepted_same;
        mark_same = b.mark_same ∙ a.mark_same;
        id_same = λ (n : ℕ) (h : n < names t). b.id_same n (omega arith) ∙ a.id_same n h;
        record_same = λ (n : ℕ) (h : n < names t). record_then n (a.record_same n h) (b.record_same n (omega arith));
        last_same = λ (n : ℕ) (h : n < names t). b.last_same n (omega arith) ∙ a.last_same n h;
        entry_same = λ (e : ℕ) (h : e < child_limit). entry_then e (a.entry_same e h) (b.entry_same e h);
        nulls =
            record {
              null_same = λ (p : ℕ) (h : p < null_limit). b.nulls.null_same p h ∙ a.nulls.null_same p h;
              place_same = λ (z : Id). b.nulls.place_same z ∙ a.nulls.place_same z;
            };
        rest = rest_then m a.rest b.rest;
      }

kept_self : (t : Store) → Kept t t
kept_self t =
    record {
      more = omega arith;
      entries_same = refl;
      spent_same = refl;
      pairs_same = refl;
      waiting_same = refl;
      accepted_same = refl;
      mark_same = refl;
      id_same = λ (n : ℕ) (h : n < names t). refl;
      record_same = λ (n : ℕ) (h : n < names t). record { cell_same = refl; count_same = refl; parent_same = λ (j : ℕ) (k : j < parent_limit). refl; nonce_same = refl };
      last_same = λ (n : ℕ) (h : n < names t). refl;
      entry_same = λ (e : ℕ) (h : e < child_limit). record { child_same = refl; previous_same = refl };
      nulls = record { null_same = λ (p : ℕ) (h : p < null_limit). refl; place_same = λ (z : Id). refl };
      rest =
          record {
            depth_same = λ (n : ℕ) (h : n < names t). refl;
            last_pair_same = λ (n : ℕ) (h : n < names t). refl;
            pair_same = λ (i : ℕ) (h : i < pair_limit). record { partner_same = refl; curvature_same = refl; previous_pair_same = refl };
            accepted_same = λ (i : ℕ) (h : i < name_limit). refl;
            requests_same = λ (n : ℕ) (h : n < names t). refl;
            tip_same = λ (n : ℕ) (h : n < names t). refl;
            pending_same =
                λ (w : ℕ) (h : w < pending_limit).
                record {
                  wait_name_same = refl;
                  wait_null_same = refl;
                  wait_count_same = refl;
                  wait_parent_same = λ (j : ℕ) (k : j < parent_limit). refl;
                  wait_missing_same = refl;
                  wait_asked_same = refl;
                };
          };
    }

------ all of a call's ids

kept_by : (t : Store) (xs : ℕ → Id) (n : ℕ) (b : Bool) → is_new t xs n ≡ b → Nameable t xs (suc n) → Kept t (named t xs n) → Kept t (name_if b (named t xs n) (xs n))
kept_by t xs n false e a k = k
kept_by t xs n true e a k =
    kept_then t (named t xs n) (with_name (named t xs n) (xs n)) k
    (kept_name (named t xs n) (xs n) (progress t xs n (nameable_less t xs n a)).sound (room_here t xs n a e))

-- naming keeps all that the store held
pub named_kept : (t : Store) (xs : ℕ → Id) (n : ℕ) → Nameable t xs n → Kept t (named t xs n)
unfolding named
named_kept t xs zero a = kept_self t
named_kept t xs (suc n) a = kept_by t xs n (is_new t xs n) refl a (named_kept t xs n (nameable_less t xs n a))

-- a name as never seen stays so
unseen_kept : (t u : Store) (m : ℕ) → m < names t → Kept t u → NoRecord t m → NoRecord u m
unseen_kept t u m h k e =
    let r = k.record_same m h in
    record {
      no_place = r.cell_same ∙ e.no_place;
      no_parents = r.count_same ∙ e.no_parents;
      no_parent = λ (j : ℕ) (l : j < parent_limit). r.parent_same j l ∙ e.no_parent j l;
      no_children = k.last_same m h ∙ e.no_children;
      no_nonce = r.nonce_same ∙ e.no_nonce;
      no_depth = k.rest.depth_same m h ∙ e.no_depth;
      no_pairs = k.rest.last_pair_same m h ∙ e.no_pairs;
      no_requests = k.rest.requests_same m h ∙ e.no_requests;
      no_tip = k.rest.tip_same m h ∙ e.no_tip;
    }

unseen_by : (t : Store) (xs : ℕ → Id) (n m : ℕ) (b : Bool) → is_new t xs n ≡ b → Nameable t xs (suc n)
    → (m < names (named t xs n) → NoRecord (named t xs n) m) → m < names (name_if b (named t xs n) (xs n)) → NoRecord (name_if b (named t xs n) (xs n)) m
unseen_by t xs n m false e a r h = r h
unseen_by t xs n m true e a r h =
    let s = (progress t xs n (nameable_less t xs n a)).sound in
    let room = room_here t xs n a e in
    let c = counted (with_name (named t xs n) (xs n)) (more_names (used (named t xs n))) (name_used (named t xs n) (xs n) s.lengths room) in
    ⊎_elim
    (λ (w : m ≡ names (named t xs n)). rw w (name_new (named t xs n) (xs n) s.lengths room))
    (λ (w : m < names (named t xs n)). unseen_kept (named t xs n) (with_name (named t xs n) (xs n)) m w (kept_name (named t xs n) (xs n) s room) (r w))
    (last_or (names (named t xs n)) m (omega (arith, c.names_are)))

unseen_all : (t : Store) (xs : ℕ → Id) (n m : ℕ) → Nameable t xs n → names t ≤ m → m < names (named t xs n) → NoRecord (named t xs n) m
unfolding named
unseen_all t xs zero m a l h = absurd (omega arith)
unseen_all t xs (suc n) m a l h = unseen_by t xs n m (is_new t xs n) refl a (unseen_all t xs n m (nameable_less t xs n a) l) h

module _ (t : Store) (xs : ℕ → Id) (n : ℕ) (a : Nameable t xs n) where
  -- a new name is as never seen
  pub named_unseen : (m : ℕ) → names t ≤ m → m < names (named t xs n) → NoRecord (named t xs n) m
  named_unseen m = unseen_all t xs n m a

  -- the children of an old name are the same, and a new name has none
  pub named_children : (m : ℕ) → m < names t → children_of (named t xs n) m ≡ children_of t m
  named_children m h =
      let k = named_kept t xs n a in
      children_same t a.sound (named t xs n) m h (k.last_same m h)
      (λ (e : ℕ) (l : e < entries t). k.entry_same e (omega (arith, a.sound.within.few_entries)))

  pub named_childless : (m : ℕ) → names t ≤ m → m < names (named t xs n) → children_of (named t xs n) m ≡ []
  unfolding children_of chain
  named_childless m l h = rw (named_unseen m l h).no_children

  -- an old name is held where it was, and a new one is not
  pub named_held : (m : ℕ) → m < names t → held (named t xs n) m ≡ held t m
  named_held m h = held_same t (named t xs n) m ((named_kept t xs n a).record_same m h)

  pub named_unheld : (m : ℕ) → names t ≤ m → m < names (named t xs n) → held (named t xs n) m ≡ false
  named_unheld m l h = rw (named_unseen m l h).no_place

  -- so the name of a call's id is held where the store held a record of the id
  pub named_contains : (i : ℕ) → i < n → held (named t xs n) (number_at t xs i) ≡ contains t (xs i)
  named_contains i h = by (number_of t (xs i)) refl
    where
      by : (f : Option ℕ) → number_of t (xs i) ≡ f → held (named t xs n) (number_at t xs i) ≡ held_if t f
      by (Some k) e = ap (held (named t xs n)) (number_old t xs i k e) ∙ named_held k (number_of_below t (xs i) k e)
      by None e = named_unheld (number_at t xs i) (omega (arith, number_new t xs i e)) (number_named t xs n a i h)
