-- A verdict in each of its cases, and what is known once it is fine.
use Rattle.std.specs.Prelude.{ℕ, suc, ◌+◌, ◌-◌, ◌≤◌, ◌<◌, ◌≡◌, refl, Bool, true, false, List, length, ltb, Result, Ok, Err}
use Rattle.std.proofs.Common.{sym, ap, ◌∙◌, arith}
use borrow.Author.Tests.{lt-ltb, le-ltb, ltb-false, not-false}
use Rattle.cells.specs.Cells.{Id}
use Rattle.store.specs.Limits.{name_limit, parent_limit, child_limit, null_limit, fewest_parents, most_parents}
use Rattle.store.specs.Tables.{Store, names, entries, spent, used, is_spent, place_of}
use Rattle.store.specs.declared.sound.Counts.{Counts}
use Rattle.store.specs.Sound.{sound, store_bad}
use Rattle.store.specs.Facts.{Sound, sound_known}
use Rattle.naming.specs.Naming.{called, fresh_count, no_name_room, no_child_room, no_null_room}
use Rattle.naming.specs.Located.{Locates}
use Rattle.dag.specs.declared.answers.DagRefusal.{DagRefusal}
use Rattle.dag.specs.declared.answers.DagRefusal.TheVariants.{StoreBad, ListTooLong, DuplicateNullifier, TooManyParents, TooFewParents, NameRoom, ChildRoom, NullifierRoom}
use Rattle.naming.specs.declared.lookup.Located.{Located}
use Rattle.dag.specs.Rules.{Verdict, refuse◌if◌else◌, room_verdict, insert_verdict, places_wanted, genesis_verdict}

-- the verdict alone, without where the ids are
abbrev pub verdict_of : Result Located DagRefusal → Verdict
verdict_of (Ok at) = Ok tt
verdict_of (Err d) = Err d

-- r has the verdict v, and where that is fine r says where x and ps are
pub record Judges (t : Store) (x : Id) (ps : List Id) (v : Verdict) (r : Result Located DagRefusal) : Type 0 where
  pub verdict : verdict_of r ≡ v
  pub located : (at : Located) → r ≡ Ok at → Locates t (called x ps) (suc (length ps)) at

pub judges_refused : (t : Store) (x : Id) (ps : List Id) (v : Verdict) (r : Result Located DagRefusal) (d : DagRefusal) → verdict_of r ≡ Err d → Err d ≡ v → Judges t x ps v r
judges_refused t x ps v r d e q =
    record {
      verdict = e ∙ q;
      located = λ (at : Located) (k : r ≡ Ok at). absurd (let f : Err d ≡ Ok tt = sym e ∙ ap verdict_of k in let z : ◌≡◌ {A = ℕ} 0 1 = cc in omega arith);
    }

pub judges_fine : (t : Store) (x : Id) (ps : List Id) (v : Verdict) (at : Located) → Ok tt ≡ v → Locates t (called x ps) (suc (length ps)) at → Judges t x ps v (Ok at)
judges_fine t x ps v at q l = record { verdict = q; located = λ (a : Located) (e : Ok at ≡ Ok a). let d : at ≡ a = cc in rw (← d) l }

pub judges_same : (t : Store) (x : Id) (ps : List Id) (v w : Verdict) (r : Result Located DagRefusal) → v ≡ w → Judges t x ps v r → Judges t x ps w r
judges_same t x ps v w r e j = record { verdict = j.verdict ∙ e; located = j.located }

-- what r tells of v in each of its cases
module _ (t : Store) (x : Id) (ps : List Id) (v : Verdict) (r : Result Located DagRefusal) (j : Judges t x ps v r) where
  pub judged_err : (d : DagRefusal) → r ≡ Err d → v ≡ Err d
  judged_err d e = sym j.verdict ∙ ap verdict_of e

  pub judged_ok : (at : Located) → r ≡ Ok at → v ≡ Ok tt
  judged_ok at e = sym j.verdict ∙ ap verdict_of e

------ checks 7, 8 and 9

module _ (t : Store) (x : Id) (ps : List Id) (p : ℕ) (u : Counts) (hu : u ≡ used t) (f : ℕ) (hf : f ≡ fresh_count t (called x ps) (suc (length ps))) where
  names_here : u.names ≡ names t
  names_here = ap (λ (c : Counts). c.names) hu

  entries_here : u.entries ≡ entries t
  entries_here = ap (λ (c : Counts). c.entries) hu

  spent_here : u.spent ≡ spent t
  spent_here = ap (λ (c : Counts). c.spent) hu

  pub room_names : name_limit - u.names < f → Err NameRoom ≡ room_verdict t x ps p
  unfolding room_verdict
  room_names h = rw (← names_here, ← hf, lt-ltb (name_limit - u.names) f h)

  pub room_children : f ≤ name_limit - u.names → child_limit - u.entries < length ps → Err ChildRoom ≡ room_verdict t x ps p
  unfolding room_verdict
  room_children a h = rw (← names_here, ← hf, le-ltb (name_limit - u.names) f a, ← entries_here, lt-ltb (child_limit - u.entries) (length ps) h)

  module _ (a : f ≤ name_limit - u.names) (b : length ps ≤ child_limit - u.entries) where
    pub room_nulls : null_limit - u.spent < p → Err NullifierRoom ≡ room_verdict t x ps p
    unfolding room_verdict
    room_nulls h = rw (← names_here, ← hf, le-ltb (name_limit - u.names) f a, ← entries_here, le-ltb (child_limit - u.entries) (length ps) b, ← spent_here, lt-ltb (null_limit - u.spent) p h)

    pub room_fine : p ≤ null_limit - u.spent → Ok tt ≡ room_verdict t x ps p
    unfolding room_verdict
    room_fine h = rw (← names_here, ← hf, le-ltb (name_limit - u.names) f a, ← entries_here, le-ltb (child_limit - u.entries) (length ps) b, ← spent_here, le-ltb (null_limit - u.spent) p h)

------ the plain insert and the genesis insert

module _ (t : Store) (x z : Id) (ps : List Id) (a : Bool) (ha : a ≡ sound t) where
  pub insert_bad : a ≡ false → Err StoreBad ≡ insert_verdict t x z ps
  unfolding insert_verdict
  insert_bad e = rw (← ha, e)

  pub genesis_bad : a ≡ false → Err StoreBad ≡ genesis_verdict t x z ps
  unfolding genesis_verdict
  genesis_bad e = rw (← ha, e)

  module _ (e : a ≡ true) where
    pub insert_long : parent_limit < length ps → Err ListTooLong ≡ insert_verdict t x z ps
    unfolding insert_verdict
    insert_long h = rw (← ha, e, lt-ltb parent_limit (length ps) h)

    pub genesis_long : parent_limit < length ps → Err ListTooLong ≡ genesis_verdict t x z ps
    unfolding genesis_verdict
    genesis_long h = rw (← ha, e, lt-ltb parent_limit (length ps) h)

    module _ (short : length ps ≤ parent_limit) where
      pub genesis_room : (p : ℕ) → p ≡ places_wanted (place_of t z) → room_verdict t x ps p ≡ genesis_verdict t x z ps
      unfolding genesis_verdict
      genesis_room p q = rw (← ha, e, le-ltb parent_limit (length ps) short, q)

      module _ (b : Bool) (hb : b ≡ is_spent t z) where
        pub insert_spent : b ≡ true → Err DuplicateNullifier ≡ insert_verdict t x z ps
        unfolding insert_verdict
        insert_spent q = rw (← ha, e, le-ltb parent_limit (length ps) short, ← hb, q)

        module _ (q : b ≡ false) where
          pub insert_many : most_parents < length ps → Err (TooManyParents (length ps) most_parents) ≡ insert_verdict t x z ps
          unfolding insert_verdict
          insert_many h = rw (← ha, e, le-ltb parent_limit (length ps) short, ← hb, q, lt-ltb most_parents (length ps) h)

          pub insert_few : length ps ≤ most_parents → length ps < fewest_parents → Err (TooFewParents (length ps) fewest_parents) ≡ insert_verdict t x z ps
          unfolding insert_verdict
          insert_few m h = rw (← ha, e, le-ltb parent_limit (length ps) short, ← hb, q, le-ltb most_parents (length ps) m, lt-ltb (length ps) fewest_parents h)

          pub insert_room : length ps ≤ most_parents → fewest_parents ≤ length ps → room_verdict t x ps 1 ≡ insert_verdict t x z ps
          unfolding insert_verdict
          insert_room m h = rw (← ha, e, le-ltb parent_limit (length ps) short, ← hb, q, le-ltb most_parents (length ps) m, le-ltb (length ps) fewest_parents h)

------ what a fine verdict tells

-- a check that was passed was not met, and the rest is fine
test_passed : (d : DagRefusal) (b : Bool) (v : Verdict) → refuse d if b else v ≡ Ok tt → b ≡ false
test_passed d true v e = absurd (let z : ◌≡◌ {A = ℕ} 0 1 = cc in omega arith)
test_passed d false v e = refl

rest_passed : (d : DagRefusal) (b : Bool) (v : Verdict) → refuse d if b else v ≡ Ok tt → v ≡ Ok tt
rest_passed d true v e = absurd (let z : ◌≡◌ {A = ℕ} 0 1 = cc in omega arith)
rest_passed d false v e = e

-- the store is not bad, and there is room for x and ps, with p nullifiers
pub record Room (t : Store) (x : Id) (ps : List Id) (p : ℕ) : Type 0 where
  pub sound : Sound t
  pub short : length ps ≤ parent_limit
  pub name_room : names t + fresh_count t (called x ps) (suc (length ps)) ≤ name_limit
  pub child_room : entries t + length ps ≤ child_limit
  pub null_room : spent t + p ≤ null_limit

room_known : (t : Store) (x : Id) (ps : List Id) (p : ℕ) → Sound t → length ps ≤ parent_limit → room_verdict t x ps p ≡ Ok tt → Room t x ps p
unfolding room_verdict
room_known t x ps p s h e =
    let r1 = rest_passed NameRoom (no_name_room t (called x ps) (suc (length ps))) _ e in
    let r2 = rest_passed ChildRoom (no_child_room t (length ps)) _ r1 in
    let a = ltb-false (name_limit - names t) (fresh_count t (called x ps) (suc (length ps))) (test_passed NameRoom (no_name_room t (called x ps) (suc (length ps))) _ e) in
    let b = ltb-false (child_limit - entries t) (length ps) (test_passed ChildRoom (no_child_room t (length ps)) _ r1) in
    let c = ltb-false (null_limit - spent t) p (test_passed NullifierRoom (no_null_room t p) _ r2) in
    let w = s.within in
    record { sound = s; short = h; name_room = omega arith; child_room = omega arith; null_room = omega arith }

pub insert_fine : (t : Store) (x z : Id) (ps : List Id) → insert_verdict t x z ps ≡ Ok tt → Room t x ps 1
unfolding insert_verdict
insert_fine t x z ps e =
    let r1 = rest_passed StoreBad (store_bad t) _ e in
    let r2 = rest_passed ListTooLong (ltb parent_limit (length ps)) _ r1 in
    let r3 = rest_passed DuplicateNullifier (is_spent t z) _ r2 in
    let r4 = rest_passed (TooManyParents (length ps) most_parents) (ltb most_parents (length ps)) _ r3 in
    let r5 = rest_passed (TooFewParents (length ps) fewest_parents) (ltb (length ps) fewest_parents) _ r4 in
    room_known t x ps 1 (sound_known t (not-false (sound t) (test_passed StoreBad (store_bad t) _ e)))
    (ltb-false parent_limit (length ps) (test_passed ListTooLong (ltb parent_limit (length ps)) _ r1)) r5

pub genesis_fine : (t : Store) (x z : Id) (ps : List Id) → genesis_verdict t x z ps ≡ Ok tt → Room t x ps (places_wanted (place_of t z))
unfolding genesis_verdict
genesis_fine t x z ps e =
    let r1 = rest_passed StoreBad (store_bad t) _ e in
    let r2 = rest_passed ListTooLong (ltb parent_limit (length ps)) _ r1 in
    room_known t x ps (places_wanted (place_of t z)) (sound_known t (not-false (sound t) (test_passed StoreBad (store_bad t) _ e)))
    (ltb-false parent_limit (length ps) (test_passed ListTooLong (ltb parent_limit (length ps)) _ r1)) r2
