-- What an insert changes: names, the mark, the children of its parents, its own record and its nullifier; and no other view.
use Rattle.std.specs.Prelude.{ℕ, suc, ◌+◌, ◌≤◌, ◌<◌, ◌≡◌, ◌≢◌, false, List, ◌++◌, length, Ok, Err, Option, Some, None}
use Rattle.std.proofs.Math.Path.{refl}
use Rattle.std.proofs.Common.{sym, ap, ◌∙◌, arith}
use Rattle.cells.specs.Cells.{Id, Bytes, IsId, same_id, pick_found, or_else}
use Rattle.store.specs.Limits.{name_limit, parent_limit, null_limit}
use Rattle.store.specs.Tables.{Store, names, spent, pairs, waiting, accepted, used, marked, id_of, number_of, place_of, place_cell, parent_count, parent_at, nonce_of, held, children_of, with_null, with_record}
use Rattle.store.specs.Facts.{Sound}
use Rattle.store.specs.Views.{SameNames, SameRecord, SameRest, held_same, counted, more_spent, null_used, null_mark, null_names, null_record, null_children, null_place, null_rest, record_used, record_mark, record_names, record_nulls, record_cell, record_count, record_parent, record_other, record_children, record_rest, mark_used, mark_cleared, mark_names, mark_record, mark_children, mark_rest}
use Rattle.store.specs.Kept.{null_sound}
use Rattle.store.specs.Chains.{children_kept}
use Rattle.naming.specs.Naming.{called, named, fresh_count}
use Rattle.naming.proofs.Named.{named_names, named_sound, number_after, named_number_of}
use Rattle.naming.proofs.Kept.{named_kept, named_children, named_held}
use Rattle.dag.specs.declared.answers.DagRefusal.{DagRefusal}
use Rattle.dag.specs.declared.answers.DagRefusal.TheVariants.{StoreBad, ListTooLong, DuplicateNullifier, TooManyParents, TooFewParents, MissingParent, NameRoom, ChildRoom, NullifierRoom}
use Rattle.dag.specs.Rules.{Reply, Verdict, Entered, Left, left, begun, own_name, parent_name, kept_new, insert_verdict, Walked, entered, stored_if, insert_tried, insert_of, places_wanted, genesis_verdict, held_entered, kept_at, genesis_done, genesis_of}
use Rattle.dag.specs.Judging.{Room, insert_fine, genesis_fine}
use Rattle.store.specs.Same.{names_then, record_then, rest_then}
use Rattle.dag.proofs.Walk.{OnlyEntries, entered_only, held_only}
use Rattle.dag.proofs.Begun.{can_name, can_enter, begun_sound, begun_named, begun_spent, begun_place}
use Rattle.dag.proofs.Children.{shares, passed_of, list_if, walk_children, held_children}

------ steps after the naming

-- u is b with child entries, nullifiers and the record of name c changed at most
pub record Later (b u : Store) (c : ℕ) : Type 0 where
  pub names_same : names u ≡ names b
  pub pairs_same : pairs u ≡ pairs b
  pub waiting_same : waiting u ≡ waiting b
  pub accepted_same : accepted u ≡ accepted b
  pub mark_same : marked u ≡ marked b
  pub ids : SameNames b u
  pub nonce_same : (m : ℕ) → m < name_limit → nonce_of u m ≡ nonce_of b m
  pub record_same : (m : ℕ) → m < name_limit → m ≢ c → SameRecord b u m
  pub rest : SameRest b u

later_walk : (b u : Store) (c n : ℕ) → OnlyEntries b u n → Later b u c
later_walk b u c n o =
    record {
      names_same = o.names_same;
      pairs_same = o.pairs_same;
      waiting_same = o.waiting_same;
      accepted_same = o.accepted_same;
      mark_same = o.mark_same;
      ids = o.ids;
      nonce_same = λ (m : ℕ) (h : m < name_limit). (o.record_same m h).nonce_same;
      record_same = λ (m : ℕ) (h : m < name_limit) (d : m ≢ c). o.record_same m h;
      rest = o.rest;
    }

later_null : (b : Store) (z : Id) (c : ℕ) → Sound b → spent b < null_limit → Later b (with_null b z) c
later_null b z c s room =
    let l = s.lengths in
    let few = s.within.few_names in
    let d = counted (with_null b z) (more_spent (used b)) (null_used b z l room) in
    record {
      names_same = d.names_are;
      pairs_same = d.pairs_are;
      waiting_same = d.waiting_are;
      accepted_same = d.accepted_are;
      mark_same = null_mark b z l room;
      ids = null_names b z l room few;
      nonce_same = λ (m : ℕ) (h : m < name_limit). (null_record b z l room m).nonce_same;
      record_same = λ (m : ℕ) (h : m < name_limit) (e : m ≢ c). null_record b z l room m;
      rest = null_rest b z l room few;
    }

later_record : (b : Store) (c p : ℕ) (ns : ℕ → ℕ) (k : ℕ) → Sound b → c < name_limit → k ≤ parent_limit → Later b (with_record b c p ns k) c
unfolding with_record
later_record b c p ns k s named short =
    let l = s.lengths in
    let d = counted (with_record b c p ns k) (used b) (record_used b c p ns k) in
    record {
      names_same = d.names_are;
      pairs_same = d.pairs_are;
      waiting_same = d.waiting_are;
      accepted_same = d.accepted_are;
      mark_same = record_mark b c p ns k;
      ids = record_names b c p ns k;
      nonce_same = λ (m : ℕ) (h : m < name_limit). refl;
      record_same = record_other b c p ns k l named short;
      rest = record_rest b c p ns k l named short s.within.few_names;
    }

later_then : (b u v : Store) (c : ℕ) → Later b u c → Later u v c → Later b v c
later_then b u v c a e =
    record {
      names_same = e.names_same ∙ a.names_same;
      pairs_same = e.pairs_same ∙ a.pairs_same;
      waiting_same = e.waiting_same ∙ a.waiting_same;
      accepted_same = e.accepted_same ∙ a.accepted_same;
      mark_same = e.mark_same ∙ a.mark_same;
      ids = names_then b u v a.ids e.ids;
      nonce_same = λ (m : ℕ) (h : m < name_limit). e.nonce_same m h ∙ a.nonce_same m h;
      record_same = λ (m : ℕ) (h : m < name_limit) (d : m ≢ c). record_then b u v m (a.record_same m h d) (e.record_same m h d);
      rest = rest_then b u v (omega (arith, a.names_same)) a.rest e.rest;
    }

------ from the store before the call

-- u is t with the call's ids named, the mark cleared, and child entries, nullifiers and the record of x changed at most
pub record Changed (t : Store) (x : Id) (ps : List Id) (u : Store) : Type 0 where
  pub names_are : names u ≡ names t + fresh_count t (called x ps) (suc (length ps))
  pub id_same : (n : ℕ) → n < names t → id_of u n ≡ id_of t n
  pub number_are : ((i : ℕ) → i < suc (length ps) → IsId (called x ps i)) → (y : Id) → number_of u y ≡ number_after t (called x ps) (suc (length ps)) y
  pub mark_cleared : marked u ≡ false
  pub nonce_same : (n : ℕ) → n < names t → nonce_of u n ≡ nonce_of t n
  pub record_same : (n : ℕ) → n < names t → n ≢ own_name t x ps → SameRecord t u n
  pub pairs_same : pairs u ≡ pairs t
  pub waiting_same : waiting u ≡ waiting t
  pub accepted_same : accepted u ≡ accepted t
  pub rest : SameRest t u

changed : (t : Store) (x : Id) (ps : List Id) (p : ℕ) → Room t x ps p → (u : Store) → Later (begun t x ps) u (own_name t x ps) → Changed t x ps u
changed t x ps p r u s =
    let n = named t (called x ps) (suc (length ps)) in
    let a = can_name t x ps p r in
    let k = named_kept t (called x ps) (suc (length ps)) a in
    let few = (named_sound t (called x ps) (suc (length ps)) a).within.few_names in
    let old = r.sound.within.few_names in
    let d = counted (begun t x ps) (used n) (mark_used n) in
    record {
      names_are = s.names_same ∙ d.names_are ∙ named_names t (called x ps) (suc (length ps)) a;
      id_same = λ (m : ℕ) (h : m < names t). s.ids.id_same m (omega arith) ∙ (mark_names n).id_same m (omega arith) ∙ k.id_same m h;
      number_are = λ e y. s.ids.number_same y ∙ (mark_names n).number_same y ∙ named_number_of t (called x ps) (suc (length ps)) a e y;
      mark_cleared = s.mark_same ∙ mark_cleared n;
      nonce_same = λ (m : ℕ) (h : m < names t). s.nonce_same m (omega arith) ∙ (mark_record n m).nonce_same ∙ (k.record_same m h).nonce_same;
      record_same = λ (m : ℕ) (h : m < names t) (e : m ≢ own_name t x ps).
          record_then t (begun t x ps) u m (record_then t n (begun t x ps) m (k.record_same m h) (mark_record n m)) (s.record_same m (omega arith) e);
      pairs_same = s.pairs_same ∙ d.pairs_are ∙ k.pairs_same;
      waiting_same = s.waiting_same ∙ d.waiting_are ∙ k.waiting_same;
      accepted_same = s.accepted_same ∙ d.accepted_are ∙ k.accepted_same;
      rest =
          rest_then t (begun t x ps) u (omega (arith, d.names_are, k.more))
          (rest_then t n (begun t x ps) k.more k.rest (mark_rest n few)) s.rest;
    }

------ the plain insert

-- the record of x stands at its name, with its nullifier's place and its parents
pub record HasRecord (t : Store) (x : Id) (ps : List Id) (place : ℕ) (u : Store) : Type 0 where
  pub place_is : place_cell u (own_name t x ps) ≡ place + 1
  pub count_is : parent_count u (own_name t x ps) ≡ length ps
  pub parent_is : (j : ℕ) → j < length ps → parent_at u (own_name t x ps) j ≡ parent_name t x ps j

-- z is one nullifier more, and the others keep their places
pub record HasNull (t : Store) (z : Id) (u : Store) : Type 0 where
  pub spent_are : spent u ≡ spent t + 1
  pub place_are : Bytes z → (y : Id) → place_of u y ≡ or_else (place_of t y) (pick_found (same_id z y) (Some (spent t)) None)

-- where the nullifier of a genesis insert stands: where it was found, or after the others
abbrev pub place_for : Store → Option ℕ → ℕ
place_for t (Some n) = n
place_for t None = spent t

-- how many parents of k got an entry, by the reply
abbrev pub entered_by : Reply → ℕ → ℕ
entered_by (Ok u) k = k
entered_by (Err (MissingParent i)) k = i
entered_by (Err StoreBad) k = 0
entered_by (Err ListTooLong) k = 0
entered_by (Err DuplicateNullifier) k = 0
entered_by (Err (TooManyParents n l)) k = 0
entered_by (Err (TooFewParents n l)) k = 0
entered_by (Err NameRoom) k = 0
entered_by (Err ChildRoom) k = 0
entered_by (Err NullifierRoom) k = 0

module _ (t : Store) (x z : Id) (ps : List Id) (p : ℕ) (r : Room t x ps p) (w : Store) (o : OnlyEntries (begun t x ps) w (length ps)) where
  own : own_name t x ps < name_limit
  own = omega (arith, begun_named t x ps p r 0 (omega arith), (begun_sound t x ps p r).within.few_names)

  module _ (room : spent t < null_limit) where
    free : spent w < null_limit
    free = omega (arith, o.spent_same, begun_spent t x ps p r)

    nulled : Sound (with_null w z)
    nulled = null_sound w z o.sound free

    later_stored : (e : Entered) → Later (begun t x ps) (stored_if e w (own_name t x ps) z (parent_name t x ps) (length ps)).parts (own_name t x ps)
    later_stored (Ok u) =
        later_then (begun t x ps) (with_null w z) (kept_new w (own_name t x ps) z (parent_name t x ps) (length ps)) (own_name t x ps)
        (later_then (begun t x ps) w (with_null w z) (own_name t x ps) (later_walk (begun t x ps) w (own_name t x ps) (length ps) o) (later_null w z (own_name t x ps) o.sound free))
        (later_record (with_null w z) (own_name t x ps) (spent w) (parent_name t x ps) (length ps) nulled own r.short)
    later_stored (Err i) = later_walk (begun t x ps) w (own_name t x ps) (length ps) o

    has_record : HasRecord t x ps (spent t) (kept_new w (own_name t x ps) z (parent_name t x ps) (length ps))
    has_record =
        let l = nulled.lengths in
        record {
          place_is = record_cell (with_null w z) (own_name t x ps) (spent w) (parent_name t x ps) (length ps) l own r.short
              ∙ ap (λ (n : ℕ). n + 1) (o.spent_same ∙ begun_spent t x ps p r);
          count_is = record_count (with_null w z) (own_name t x ps) (spent w) (parent_name t x ps) (length ps) l own r.short;
          parent_is = record_parent (with_null w z) (own_name t x ps) (spent w) (parent_name t x ps) (length ps) l own r.short;
        }

    has_null : HasNull t z (kept_new w (own_name t x ps) z (parent_name t x ps) (length ps))
    has_null =
        let d = counted (with_null w z) (more_spent (used w)) (null_used w z o.sound.lengths free) in
        let c = counted (kept_new w (own_name t x ps) z (parent_name t x ps) (length ps)) (used (with_null w z)) (record_used (with_null w z) (own_name t x ps) (spent w) (parent_name t x ps) (length ps)) in
        let e : spent w ≡ spent t = o.spent_same ∙ begun_spent t x ps p r in
        record {
          spent_are = c.spent_are ∙ d.spent_are ∙ ap (λ (n : ℕ). n + 1) e;
          place_are = λ (b : Bytes z) (y : Id).
              (record_nulls (with_null w z) (own_name t x ps) (spent w) (parent_name t x ps) (length ps)).place_same y
              ∙ null_place w z o.sound.lengths free b y
              ∙ ap (λ (f : Option ℕ). or_else f (pick_found (same_id z y) (Some (spent w)) None)) (o.nulls.place_same y ∙ begun_place t x ps p r y)
              ∙ ap (λ (n : ℕ). or_else (place_of t y) (pick_found (same_id z y) (Some n) None)) e;
        }

    -- nullifier and record leave all children as the walk left them
    stored_children : (e : Entered) (m : ℕ) → m < names w → children_of (stored_if e w (own_name t x ps) z (parent_name t x ps) (length ps)).parts m ≡ children_of w m
    stored_children (Ok u) m h =
        let d = counted (with_null w z) (more_spent (used w)) (null_used w z o.sound.lengths free) in
        children_kept (with_null w z) nulled (kept_new w (own_name t x ps) z (parent_name t x ps) (length ps))
        (record_children (with_null w z) (own_name t x ps) (spent w) (parent_name t x ps) (length ps) nulled.lengths own r.short) m (omega (arith, d.names_are))
        ∙ children_kept w o.sound (with_null w z) (null_children w z o.sound.lengths free) m h
    stored_children (Err i) m h = refl

  -- the genesis insert keeps the record with the place that was found, or with a new one
  later_kept : (f : Option ℕ) → place_of t z ≡ f → p ≡ places_wanted f → Later (begun t x ps) (kept_at f w (own_name t x ps) z (parent_name t x ps) (length ps)) (own_name t x ps)
  later_kept (Some n) e q =
      later_then (begun t x ps) w (with_record w (own_name t x ps) n (parent_name t x ps) (length ps)) (own_name t x ps)
      (later_walk (begun t x ps) w (own_name t x ps) (length ps) o)
      (later_record w (own_name t x ps) n (parent_name t x ps) (length ps) o.sound own r.short)
  later_kept None e q = later_stored (omega (arith, r.null_room)) (Ok tt)

  has_kept : (f : Option ℕ) → place_of t z ≡ f → p ≡ places_wanted f → HasRecord t x ps (place_for t f) (kept_at f w (own_name t x ps) z (parent_name t x ps) (length ps))
  has_kept (Some n) e q =
      let l = o.sound.lengths in
      record {
        place_is = record_cell w (own_name t x ps) n (parent_name t x ps) (length ps) l own r.short;
        count_is = record_count w (own_name t x ps) n (parent_name t x ps) (length ps) l own r.short;
        parent_is = record_parent w (own_name t x ps) n (parent_name t x ps) (length ps) l own r.short;
      }
  has_kept None e q = has_record (omega (arith, r.null_room))

  kept_children : (f : Option ℕ) → p ≡ places_wanted f → (m : ℕ) → m < names w → children_of (kept_at f w (own_name t x ps) z (parent_name t x ps) (length ps)) m ≡ children_of w m
  kept_children (Some n) q m h =
      children_kept w o.sound (with_record w (own_name t x ps) n (parent_name t x ps) (length ps))
      (record_children w (own_name t x ps) n (parent_name t x ps) (length ps) o.sound.lengths own r.short) m h
  kept_children None q m h = stored_children (omega (arith, r.null_room)) (Ok tt) m h

entered_reply : (e : Entered) (w : Store) (c : ℕ) (z : Id) (ns : ℕ → ℕ) (k : ℕ) → passed_of e 0 k ≡ entered_by (stored_if e w c z ns k).reply k
entered_reply (Ok u) w c z ns k = refl
entered_reply (Err i) w c z ns k = omega arith

module _ (t : Store) (x z : Id) (ps : List Id) where
  walk : Walked
  walk = entered (begun t x ps) (own_name t x ps) (parent_name t x ps) 0 (length ps)

  module _ (e : insert_verdict t x z ps ≡ Ok tt) where
    passed : Room t x ps 1
    passed = insert_fine t x z ps e

    walked_only : OnlyEntries (begun t x ps) walk.parts (length ps)
    unfolding walk
    walked_only = entered_only (begun t x ps) (own_name t x ps) (parent_name t x ps) 0 (length ps) (can_enter t x ps 1 passed)

    tried : insert_of t x z ps ≡ stored_if walk.way walk.parts (own_name t x ps) z (parent_name t x ps) (length ps)
    unfolding insert_of insert_tried walk
    tried = rw e

    -- served, or refused at an unheld parent
    pub insert_changes : Changed t x ps (insert_of t x z ps).parts
    insert_changes =
        changed t x ps 1 passed (insert_of t x z ps).parts
        (rw tried (later_stored t x z ps 1 passed walk.parts walked_only (omega (arith, passed.null_room)) walk.way))

    -- each parent that got an entry has the child x at its end, once for each place in the list
    pub insert_children : (m : ℕ) → m < names t
        → children_of (insert_of t x z ps).parts m ≡ children_of t m ++ shares (own_name t x ps) (parent_name t x ps) m 0 (entered_by (insert_of t x z ps).reply (length ps))
    unfolding walk
    insert_children m h =
        let n = named t (called x ps) (suc (length ps)) in
        let a = can_name t x ps 1 passed in
        let d = counted (begun t x ps) (used n) (mark_used n) in
        let k = named_kept t (called x ps) (suc (length ps)) a in
        let o = walked_only in
        let s = named_sound t (called x ps) (suc (length ps)) a in
        rw tried
        (stored_children t x z ps 1 passed walk.parts o (omega (arith, passed.null_room)) walk.way m (omega (arith, o.names_same, d.names_are, k.more))
        ∙ walk_children (own_name t x ps) (parent_name t x ps) m (begun t x ps) 0 (length ps) (can_enter t x ps 1 passed) (omega (arith, d.names_are, k.more))
        ∙ rw (
          children_kept n s (begun t x ps) (mark_children n) m (omega (arith, k.more)),
          named_children t (called x ps) (suc (length ps)) a m h,
          entered_reply walk.way walk.parts (own_name t x ps) z (parent_name t x ps) (length ps),
        ))

  refused : (r : DagRefusal) → insert_verdict t x z ps ≡ Err r → insert_of t x z ps ≡ left (Err r) t
  unfolding insert_of
  refused r e = rw e

  stored_by : (e : Entered) → walk.way ≡ e → (v : Verdict) → insert_verdict t x z ps ≡ v → (insert_of t x z ps).reply ≡ Ok tt
      → HasRecord t x ps (spent t) (insert_of t x z ps).parts × HasNull t z (insert_of t x z ps).parts
  stored_by (Ok u) q (Ok v) e d =
      let f : insert_of t x z ps ≡ left (Ok tt) (kept_new walk.parts (own_name t x ps) z (parent_name t x ps) (length ps)) = tried e ∙ rw q in
      let o = walked_only e in
      let h : spent t < null_limit = omega (arith, (passed e).null_room) in
      (rw f (has_record t x z ps 1 (passed e) walk.parts o h), rw f (has_null t x z ps 1 (passed e) walk.parts o h))
  stored_by (Err i) q (Ok v) e d =
      let f : insert_of t x z ps ≡ left (Err (MissingParent i)) walk.parts = tried e ∙ rw q in
      absurd (let g : Err (MissingParent i) ≡ Ok tt = sym (ap (λ (l : Left). l.reply) f) ∙ d in let y : ◌≡◌ {A = ℕ} 0 1 = cc in omega arith)
  stored_by w q (Err r) e d =
      absurd (let g : Err r ≡ Ok tt = sym (ap (λ (l : Left). l.reply) (refused r e)) ∙ d in let y : ◌≡◌ {A = ℕ} 0 1 = cc in omega arith)

  -- an insert that is served has stored its record, and its nullifier after the others
  pub insert_stored : (insert_of t x z ps).reply ≡ Ok tt → HasRecord t x ps (spent t) (insert_of t x z ps).parts × HasNull t z (insert_of t x z ps).parts
  insert_stored = stored_by walk.way refl (insert_verdict t x z ps) refl

------ the genesis insert

module _ (t : Store) (x z : Id) (ps : List Id) (e : genesis_verdict t x z ps ≡ Ok tt) where
  root_room : Room t x ps (places_wanted (place_of t z))
  root_room = genesis_fine t x z ps e

  root_walk : Store
  root_walk = held_entered (begun t x ps) (own_name t x ps) (parent_name t x ps) (length ps)

  root_only : OnlyEntries (begun t x ps) root_walk (length ps)
  unfolding root_walk
  root_only = held_only (begun t x ps) (own_name t x ps) (parent_name t x ps) (length ps) (can_enter t x ps (places_wanted (place_of t z)) root_room)

  root_place : place_of root_walk z ≡ place_of t z
  root_place = root_only.nulls.place_same z ∙ begun_place t x ps (places_wanted (place_of t z)) root_room z

  rooted : genesis_of t x z ps ≡ left (Ok tt) (kept_at (place_of t z) root_walk (own_name t x ps) z (parent_name t x ps) (length ps))
  unfolding genesis_of genesis_done root_walk
  rooted = rw (e, root_place)

  pub genesis_changes : Changed t x ps (genesis_of t x z ps).parts
  genesis_changes =
      changed t x ps (places_wanted (place_of t z)) root_room (genesis_of t x z ps).parts
      (rw rooted (later_kept t x z ps (places_wanted (place_of t z)) root_room root_walk root_only (place_of t z) refl refl))

  -- served, it has stored its record, with the nullifier's place
  pub genesis_stored : HasRecord t x ps (place_for t (place_of t z)) (genesis_of t x z ps).parts
  genesis_stored = rw rooted (has_kept t x z ps (places_wanted (place_of t z)) root_room root_walk root_only (place_of t z) refl refl)

  -- each parent that was held has the child x at its end, once for each place in the list
  pub genesis_children : (m : ℕ) → m < names t
      → children_of (genesis_of t x z ps).parts m ≡ children_of t m ++ list_if (held t m) (shares (own_name t x ps) (parent_name t x ps) m 0 (length ps))
  unfolding root_walk
  genesis_children m h =
      let q = places_wanted (place_of t z) in
      let n = named t (called x ps) (suc (length ps)) in
      let a = can_name t x ps q root_room in
      let d = counted (begun t x ps) (used n) (mark_used n) in
      let k = named_kept t (called x ps) (suc (length ps)) a in
      let s = named_sound t (called x ps) (suc (length ps)) a in
      let g : held (begun t x ps) m ≡ held t m = held_same n (begun t x ps) m (mark_record n m) ∙ named_held t (called x ps) (suc (length ps)) a m h in
      rw rooted
      (kept_children t x z ps q root_room root_walk root_only (place_of t z) refl m (omega (arith, root_only.names_same, d.names_are, k.more))
      ∙ held_children (own_name t x ps) (parent_name t x ps) m (begun t x ps) (length ps) (can_enter t x ps q root_room) (omega (arith, d.names_are, k.more))
      ∙ rw (g, children_kept n s (begun t x ps) (mark_children n) m (omega (arith, k.more)), named_children t (called x ps) (suc (length ps)) a m h))
