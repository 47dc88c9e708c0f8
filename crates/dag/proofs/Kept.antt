-- A store that is not bad is not bad after any of these calls; and a call's promise leaves one answer and one set of parts.
use Rattle.std.specs.Prelude.{ℕ, suc, ◌≤◌, ◌<◌, ◌≡◌, refl, Bool, true, false, List, length, Ok, Err, Option, Some, None}
use Rattle.std.proofs.Common.{sym, ap, ◌∙◌, arith}
use Rattle.cells.specs.Cells.{Id, has_id}
use Rattle.cells.specs.First.{first_found}
use Rattle.store.specs.Limits.{parent_limit, null_limit, nulls_at}
use Rattle.store.specs.Tables.{Store, names, spent, used, place_of, with_null, with_record}
use Rattle.store.specs.Sound.{lengths_right}
use Rattle.store.specs.Facts.{Sound, lengths_known}
use Rattle.store.specs.Views.{counted, more_spent, null_used}
use Rattle.store.specs.Kept.{null_sound, record_sound}
use Rattle.store.specs.Empty.{emptied_sound}
use Rattle.dag.specs.declared.answers.DagRefusal.TheVariants.{StoreBad}
use Rattle.dag.specs.Rules.{Reply, Verdict, Entered, Left, left, by_verdict, empty_of, begun, own_name, parent_name, kept_new, insert_verdict, entered, stored_if, insert_tried, insert_of, places_wanted, genesis_verdict, held_entered, kept_at, genesis_done, genesis_of}
use Rattle.dag.specs.Judging.{Room, insert_fine, genesis_fine}
use Rattle.dag.proofs.Walk.{OnlyEntries, entered_only, held_only}
use Rattle.dag.proofs.Begun.{can_enter, begun_place, begun_spent, begun_named}

------ uniqueness

-- two answers that meet the same promise are the same, and so are the parts that they leave
pub one_answer : (r q : Reply) (u v : Store) (l : Left) → left r u ≡ l → left q v ≡ l → (r ≡ q) × (u ≡ v)
one_answer r q u v l a b = (ap (λ (m : Left). m.reply) (a ∙ sym b), ap (λ (m : Left). m.parts) (a ∙ sym b))

------ emptying

empty_by : (t : Store) (b : Bool) → lengths_right t ≡ b → (empty_of t).reply ≡ Ok tt → Sound (empty_of t).parts
unfolding empty_of
empty_by t true e d = rw e (emptied_sound t (lengths_known t e))
empty_by t false e d = let q : Err StoreBad ≡ Ok tt = rw e at d in absurd (let z : ◌≡◌ {A = ℕ} 0 1 = cc in omega arith)

-- whatever parts of the right lengths are lent, an emptied store is not bad
pub empty_sound : (t : Store) → (empty_of t).reply ≡ Ok tt → Sound (empty_of t).parts
empty_sound t = empty_by t (lengths_right t) refl

------ the inserts

-- where a call is not refused before any change, what follows decides
by_verdict_lem : (v : Verdict) (t : Store) (l : Left) → Sound t → (v ≡ Ok tt → Sound l.parts) → Sound (by_verdict v t l).parts
by_verdict_lem (Err r) t l s f = s
by_verdict_lem (Ok u) t l s f = f refl

-- the record of name c with the names ns as parents fits the store w
record Fitting (w : Store) (c : ℕ) (ns : ℕ → ℕ) (k : ℕ) : Type 0 where
  pub sound : Sound w
  pub own : c < names w
  pub short : k ≤ parent_limit
  pub parents : (j : ℕ) → j < k → ns j < names w

known_sound : (w : Store) (c p : ℕ) (ns : ℕ → ℕ) (k : ℕ) → Fitting w c ns k → p < spent w → Sound (with_record w c p ns k)
known_sound w c p ns k f h = record_sound w c p ns k f.sound f.own h f.short f.parents

new_sound : (w : Store) (c : ℕ) (z : Id) (ns : ℕ → ℕ) (k : ℕ) → Fitting w c ns k → spent w < null_limit → Sound (kept_new w c z ns k)
new_sound w c z ns k f room =
    let d = counted (with_null w z) (more_spent (used w)) (null_used w z f.sound.lengths room) in
    record_sound (with_null w z) c (spent w) ns k (null_sound w z f.sound room) (omega (arith, d.names_are, f.own)) (omega (arith, d.spent_are)) f.short
    (λ (j : ℕ) (h : j < k). let b = f.parents j h in omega (arith, d.names_are))

module _ (t : Store) (x z : Id) (ps : List Id) (p : ℕ) (r : Room t x ps p) where
  fitting : (w : Store) → OnlyEntries (begun t x ps) w (length ps) → Fitting w (own_name t x ps) (parent_name t x ps) (length ps)
  fitting w o =
      record {
        sound = o.sound;
        own = omega (arith, o.names_same, begun_named t x ps p r 0 (omega arith));
        short = r.short;
        parents = λ (j : ℕ) (h : j < length ps). let b = begun_named t x ps p r (suc j) (omega arith) in omega (arith, o.names_same);
      }

  stored_sound : (e : Entered) (w : Store) → OnlyEntries (begun t x ps) w (length ps) → spent t < null_limit → Sound (stored_if e w (own_name t x ps) z (parent_name t x ps) (length ps)).parts
  stored_sound (Ok u) w o h = new_sound w (own_name t x ps) z (parent_name t x ps) (length ps) (fitting w o) (omega (arith, o.spent_same, begun_spent t x ps p r))
  stored_sound (Err i) w o h = o.sound

  kept_sound : (f : Option ℕ) (w : Store) → place_of w z ≡ f → OnlyEntries (begun t x ps) w (length ps) → p ≡ places_wanted (place_of t z)
      → Sound (kept_at f w (own_name t x ps) z (parent_name t x ps) (length ps))
  kept_sound (Some n) w e o q =
      let b = first_found (has_id w.keys w.rests nulls_at z) 0 (spent w) n e in
      known_sound w (own_name t x ps) n (parent_name t x ps) (length ps) (fitting w o) (omega (arith, b.below))
  kept_sound None w e o q =
      let a : place_of t z ≡ None = sym (begun_place t x ps p r z) ∙ sym (o.nulls.place_same z) ∙ e in
      let d : p ≡ 1 = q ∙ rw a in
      new_sound w (own_name t x ps) z (parent_name t x ps) (length ps) (fitting w o) (omega (arith, o.spent_same, begun_spent t x ps p r, r.null_room))

-- after a plain insert, refused or not
pub insert_sound : (t : Store) (x z : Id) (ps : List Id) → Sound t → Sound (insert_of t x z ps).parts
unfolding insert_of insert_tried
insert_sound t x z ps s =
    by_verdict_lem (insert_verdict t x z ps) t (insert_tried t x z ps) s
    (λ (e : insert_verdict t x z ps ≡ Ok tt).
    let r = insert_fine t x z ps e in
    let w = entered (begun t x ps) (own_name t x ps) (parent_name t x ps) 0 (length ps) in
    stored_sound t x z ps 1 r w.way w.parts (entered_only (begun t x ps) (own_name t x ps) (parent_name t x ps) 0 (length ps) (can_enter t x ps 1 r))
    (omega (arith, r.null_room)))

-- after a genesis insert, refused or not
pub genesis_sound : (t : Store) (x z : Id) (ps : List Id) → Sound t → Sound (genesis_of t x z ps).parts
unfolding genesis_of genesis_done
genesis_sound t x z ps s =
    by_verdict_lem (genesis_verdict t x z ps) t (left (Ok tt) (genesis_done t x z ps)) s
    (λ (e : genesis_verdict t x z ps ≡ Ok tt).
    let r = genesis_fine t x z ps e in
    let w = held_entered (begun t x ps) (own_name t x ps) (parent_name t x ps) (length ps) in
    kept_sound t x z ps (places_wanted (place_of t z)) r (place_of w z) w refl
    (held_only (begun t x ps) (own_name t x ps) (parent_name t x ps) (length ps) (can_enter t x ps (places_wanted (place_of t z)) r)) refl)
