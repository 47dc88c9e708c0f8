-- What is known once a call's ids are named and the mark is cleared: enough for the steps after it.
use Rattle.std.specs.Prelude.{ℕ, suc, ◌+◌, ◌≤◌, ◌<◌, ◌≡◌, List, length, Option, Some, None}
use Rattle.std.proofs.Common.{sym, ap, ◌∙◌, arith}
use Rattle.cells.specs.Cells.{Id, has_id}
use Rattle.cells.specs.First.{first_found}
use Rattle.store.specs.Limits.{name_limit, parent_limit, null_limit, nulls_at}
use Rattle.store.specs.Tables.{Store, names, entries, spent, used, place_of}
use Rattle.store.specs.Facts.{Sound}
use Rattle.store.specs.Views.{counted, mark_used, mark_nulls}
use Rattle.store.specs.Kept.{mark_sound}
use Rattle.naming.specs.Naming.{called, named, number_at}
use Rattle.naming.proofs.Named.{Nameable, named_sound, number_named}
use Rattle.naming.proofs.Kept.{named_kept}
use Rattle.dag.specs.Rules.{Entered, Walked, walked, entered, held_entered, begun, own_name, parent_name, places_wanted}
use Rattle.dag.specs.Judging.{Room}
use Rattle.dag.proofs.Entering.{Names}
use Rattle.dag.proofs.Walk.{OnlyEntries, CanEnter, entered_only, held_only}
use Rattle.dag.specs.Begun.{NullsRight, Enterable, Keepable, null_parts}

------ u is the store with the call's ids named and the mark cleared

module _ (t : Store) (x : Id) (ps : List Id) (p : ℕ) (r : Room t x ps p) where
  pub can_name : Nameable t (called x ps) (suc (length ps))
  can_name = record { sound = r.sound; room = r.name_room }

  record Begun (u : Store) : Type 0 where
    pub sound : Sound u
    pub entries_same : entries u ≡ entries t
    pub spent_same : spent u ≡ spent t
    pub place_same : (z : Id) → place_of u z ≡ place_of t z
    pub named : (i : ℕ) → i < suc (length ps) → number_at t (called x ps) i < names u

  begun_is : Begun (begun t x ps)
  begun_is =
      let n = named t (called x ps) (suc (length ps)) in
      let k = named_kept t (called x ps) (suc (length ps)) can_name in
      let c = counted (begun t x ps) (used n) (mark_used n) in
      record {
        sound = mark_sound n (named_sound t (called x ps) (suc (length ps)) can_name);
        entries_same = c.entries_are ∙ k.entries_same;
        spent_same = c.spent_are ∙ k.spent_same;
        place_same = λ (z : Id). (mark_nulls n).place_same z ∙ k.nulls.place_same z;
        named = λ (i : ℕ) (h : i < suc (length ps)). let b = number_named t (called x ps) (suc (length ps)) can_name i h in omega (arith, c.names_are);
      }

  pub begun_sound : Sound (begun t x ps)
  begun_sound = begun_is.sound

  pub begun_place : (z : Id) → place_of (begun t x ps) z ≡ place_of t z
  begun_place = begun_is.place_same

  pub begun_spent : spent (begun t x ps) ≡ spent t
  begun_spent = begun_is.spent_same

  pub begun_named : (i : ℕ) → i < suc (length ps) → number_at t (called x ps) i < names (begun t x ps)
  begun_named = begun_is.named

  -- the walk over the parents has room
  pub can_enter : CanEnter (begun t x ps) (own_name t x ps) (parent_name t x ps) 0 (length ps)
  can_enter =
      let b = begun_is in
      record {
        sound = b.sound;
        room = omega (arith, b.entries_same, r.child_room);
        own = b.named 0 (omega arith);
        parents = λ (j : ℕ) (h : 0 ≤ j) (k : j < 0 + length ps). b.named (suc j) (omega arith);
      }

  -- and so have the steps of the code, which has the names
  module _ (c : ℕ) (ns : ℕ → ℕ) (k : ℕ) (l : Names t x ps c ns k) (u : Store) (hu : u ≡ begun t x ps) where
    begun_here : Begun u
    begun_here = rw hu begun_is

    pub own_below : c < name_limit
    own_below = let b = begun_here in omega (arith, l.own, b.named 0 (omega arith), b.sound.within.few_names)

    pub enterable : Enterable u ns k
    enterable =
        let b = begun_here in
        record {
          head_long = b.sound.lengths.head_long;
          few = omega (arith, l.count, r.short);
          room = omega (arith, b.entries_same, l.count, r.child_room);
          named = λ (j : ℕ) (h : j < k).
              let m : j < length ps = omega (arith, l.count) in
              omega (arith, l.parents j m, b.named (suc j) (omega arith), b.sound.within.few_names);
        }

    -- the same walk over the names of the list
    can_enter_here : CanEnter u c ns 0 k
    can_enter_here =
        let b = begun_here in
        record {
          sound = b.sound;
          room = omega (arith, b.entries_same, l.count, r.child_room);
          own = omega (arith, l.own, b.named 0 (omega arith));
          parents = λ (j : ℕ) (h : 0 ≤ j) (i : j < 0 + k).
              let m : j < length ps = omega (arith, l.count) in
              omega (arith, l.parents j m, b.named (suc j) (omega arith));
        }

    -- w is what the walk leaves: the nullifier and the record can be kept there
    module _ (w : Store) (o : OnlyEntries u w k) where
      only_keepable : spent t < null_limit → Keepable w c k
      only_keepable h =
          record {
            few = omega (arith, l.count, r.short);
            room = omega (arith, o.spent_same, begun_here.spent_same);
            keys_long = o.sound.lengths.keys_long;
            rests_long = o.sound.lengths.rests_long;
            named = own_below;
          }

      only_place : (z : Id) → place_of w z ≡ place_of t z
      only_place z = o.nulls.place_same z ∙ begun_here.place_same z

    pub insert_keepable : (e : Entered) (w : Store) → walked e w ≡ entered u c ns 0 k → spent t < null_limit → Keepable w c k
    insert_keepable e w q = only_keepable w (rw (ap (λ (d : Walked). d.parts) q) (entered_only u _ _ 0 k can_enter_here))

    module _ (w : Store) (q : w ≡ held_entered u c ns k) where
      held_here : OnlyEntries u w k
      held_here = rw q (held_only u _ _ k can_enter_here)

      pub genesis_parts : NullsRight w
      genesis_parts = null_parts w held_here.sound

      pub genesis_record : (z : Id) (f : Option ℕ) (n : ℕ) → f ≡ place_of w z → f ≡ Some n → (c < name_limit) × ((n < null_limit) × (k ≤ parent_limit))
      genesis_record z f n e h =
          let b = first_found (has_id w.keys w.rests nulls_at z) 0 (spent w) n (sym e ∙ h) in
          (own_below, (omega (arith, b.below, held_here.sound.within.few_spent), omega (arith, l.count, r.short)))

      pub genesis_keepable : (z : Id) (f : Option ℕ) → p ≡ places_wanted (place_of t z) → f ≡ place_of w z → f ≡ None → Keepable w c k
      genesis_keepable z f d e h =
          let a : place_of t z ≡ None = sym (only_place w held_here z) ∙ sym e ∙ h in
          let one : p ≡ 1 = d ∙ rw a in
          only_keepable w held_here (omega (arith, r.null_room))
