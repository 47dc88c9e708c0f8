-- The parents gone through in order, and what a call leaves by each way through its code.
use Prim.Native.Nat.{ℕ, zero, suc, ◌+◌, ◌*◌, ◌-◌, ◌≤◌, ◌<◌}
use Rattle.std.specs.Prelude.{◌≡◌, refl, Bool, true, false, List, length, get_or, take, Ok, Err, ⊤, MatchResult, IsErrAnd, Option, Some, None}
use Rattle.std.proofs.Math.Path.{sym}
use Rattle.std.proofs.Common.{ap, ◌∙◌, add-one, length-set, get_or-set_same}
use native.Mathlib.Omega.{arith}
use Rattle.std.proofs.Math.ListN.{drop}
use Rattle.std.proofs.lemmas.List.{get_or-take, length-take-le, length-drop}
use Rattle.std.proofs.lemmas.Grind.{get_or_after_one}
use Rattle.cells.specs.Cells.{Id}
use Rattle.cells.specs.Rows.{put_cong}
use Rattle.store.specs.Limits.{head_length, parents_at, parent_limit}
use Rattle.store.specs.Tables.{Store, entries, spent, held, place_of, with_child, with_null, with_record, emptied}
use Rattle.store.specs.Sound.{lengths_right}
use Rattle.naming.specs.Naming.{call_limit, called}
use Rattle.naming.specs.Located.{Locates}
use Rattle.naming.specs.declared.lookup.Located.{Located}
use Rattle.dag.specs.declared.answers.DagRefusal.TheVariants.{StoreBad, MissingParent}
use Rattle.dag.specs.declared.answers.DagRefusal.{DagRefusal}
use Rattle.dag.specs.Rules.{Reply, Entered, Left, left, empty_of, walked, pick_walked, entered, begun, own_name, parent_name, kept_new, insert_verdict, insert_tried, insert_of, entered_if, pick_store, held_entered, kept_at, genesis_verdict, genesis_done, genesis_of}

------ names read from a list stand for the names themselves

-- c is the name of the record, and the first k of ns are those of its parents
pub record Names (t : Store) (x : Id) (ps : List Id) (c : ℕ) (ns : ℕ → ℕ) (k : ℕ) : Type 0 where
  pub own : c ≡ own_name t x ps
  pub count : k ≡ length ps
  pub parents : (j : ℕ) → j < length ps → ns j ≡ parent_name t x ps j

-- the first of the located numbers is the record's own name, and those after it are its parents' names
module _ (t : Store) (x : Id) (ps : List Id) (at : Located) (l : Locates t (called x ps) (suc (length ps)) at) where
  pub own_located : get_or at.numbers 0 0 ≡ own_name t x ps
  own_located = l.numbers 0 (omega arith)

  pub parent_located : (j : ℕ) → j < length ps → get_or at.numbers (1 + j) 0 ≡ parent_name t x ps j
  parent_located j h = let e : 1 + j ≡ suc j = omega arith in rw e (l.numbers (suc j) (omega arith))

  -- read from the numbers themselves, or from a slice of them
  pub names_numbers : Names t x ps (get_or at.numbers 0 0) (λ j. get_or at.numbers (1 + j) 0) (length ps)
  names_numbers = record { own = own_located; count = refl; parents = parent_located }

  module _ (long : length at.numbers ≡ call_limit) (short : length ps ≤ parent_limit) where
    parent_here : (j : ℕ) → j < length ps → get_or (take (length ps) (drop 1 at.numbers)) j 0 ≡ parent_name t x ps j
    parent_here j h = get_or-take (length ps) (drop 1 at.numbers) j 0 h ∙ get_or_after_one at.numbers j 0 ∙ parent_located j h

    pub names_made : (c : ℕ) (ns : List ℕ) → c ≡ get_or at.numbers 0 0 → ns ≡ take (length ps) (drop 1 at.numbers) → Names t x ps c (λ j. get_or ns j 0) (length ns)
    names_made c ns a b =
        rw (a, b)
        (record {
          own = own_located;
          count = omega (arith, length-take-le (length ps) (drop 1 at.numbers) (omega (arith, length-drop 1 at.numbers)));
          parents = parent_here;
        })

record_cong : (t : Store) (c p : ℕ) (ns ms : ℕ → ℕ) (k : ℕ) → ((j : ℕ) → j < k → ns j ≡ ms j) → with_record t c p ns k ≡ with_record t c p ms k
unfolding with_record
record_cong t c p ns ms k f = rw (put_cong t.nodes (parents_at + c * parent_limit) ns ms k f)

entered_cong : (t : Store) (c : ℕ) (ns ms : ℕ → ℕ) (i n : ℕ) → ((j : ℕ) → j < i + n → ns j ≡ ms j) → entered t c ns i n ≡ entered t c ms i n
unfolding entered
entered_cong t c ns ms i zero f = refl
entered_cong t c ns ms i (suc n) f =
    let a : ns i ≡ ms i = f i (omega arith) in
    rw (a, entered_cong (with_child t (ms i) c) c ns ms (i + 1) n (λ (j : ℕ) (h : j < i + 1 + n). f j (omega arith)))

held_cong : (t : Store) (c : ℕ) (ns ms : ℕ → ℕ) (n : ℕ) → ((j : ℕ) → j < n → ns j ≡ ms j) → held_entered t c ns n ≡ held_entered t c ms n
unfolding held_entered
held_cong t c ns ms zero f = refl
held_cong t c ns ms (suc n) f =
    let a : ns n ≡ ms n = f n (omega arith) in
    rw (a, held_cong t c ns ms n (λ (j : ℕ) (h : j < n). f j (omega arith)))

------ one entry more

pub child_count : (t : Store) (p c : ℕ) → length t.head ≡ head_length → entries (with_child t p c) ≡ entries t + 1
unfolding with_child
child_count t p c l = get_or-set_same t.head 1 (entries t + 1) 0 (omega arith)

pub child_long : (t : Store) (p c : ℕ) → length (with_child t p c).head ≡ length t.head
unfolding with_child
child_long t p c = length-set t.head 1 (entries t + 1)

count_by : (t : Store) (p c : ℕ) (b : Bool) → length t.head ≡ head_length → entries (pick_store b (with_child t p c) t) ≤ entries t + 1
count_by t p c true l = omega (arith, child_count t p c l)
count_by t p c false l = omega arith

pub if_count : (t : Store) (p c : ℕ) → length t.head ≡ head_length → entries (entered_if t p c) ≤ entries t + 1
if_count t p c = count_by t p c (held t p)

long_by : (t : Store) (p c : ℕ) (b : Bool) → length (pick_store b (with_child t p c) t).head ≡ length t.head
long_by t p c true = child_long t p c
long_by t p c false = refl

pub if_long : (t : Store) (p c : ℕ) → length (entered_if t p c).head ≡ length t.head
if_long t p c = long_by t p c (held t p)

module _ (t : Store) (p c : ℕ) (b : Bool) (hb : b ≡ held t p) where
  pub if_held : (u : Store) → b ≡ true → u ≡ with_child t p c → u ≡ entered_if t p c
  if_held u e q = rw (← hb, e) q

  pub if_unheld : b ≡ false → t ≡ entered_if t p c
  if_unheld e = rw (← hb, e)

------ the plain insert's parents

pub entered_start : (t : Store) (c : ℕ) (ns : ℕ → ℕ) (k : ℕ) → entered t c ns 0 k ≡ entered t c ns 0 (k - 0)
entered_start t c ns k = let e : k - 0 ≡ k = omega arith in rw e

module _ (t : Store) (c : ℕ) (ns : ℕ → ℕ) (i k : ℕ) where
  pub entered_end : k ≤ i → walked (Ok tt) t ≡ entered t c ns i (k - i)
  unfolding entered
  entered_end h = let e : k - i ≡ 0 = omega arith in rw e

  entered_next : i < k → entered t c ns i (k - i) ≡ pick_walked (held t (ns i)) (entered (with_child t (ns i) c) c ns (i + 1) (k - (i + 1))) (walked (Err i) t)
  unfolding entered
  entered_next h = let e : k - i ≡ suc (k - (i + 1)) = omega arith in rw e

  module _ (h : i < k) (b : Bool) (hb : b ≡ held t (ns i)) where
    pub entered_stop : b ≡ false → walked (Err i) t ≡ entered t c ns i (k - i)
    entered_stop e = sym (entered_next h ∙ rw (← hb, e))

    pub entered_more : (u : Store) → b ≡ true → u ≡ with_child t (ns i) c → entered t c ns i (k - i) ≡ entered u c ns (i + 1) (k - (i + 1))
    entered_more u e q = entered_next h ∙ rw (← hb, e, q)

------ the genesis insert's parents

pub held_start : (t : Store) (c : ℕ) (ns : ℕ → ℕ) → t ≡ held_entered t c ns 0
unfolding held_entered
held_start t c ns = refl

pub held_step : (t u v : Store) (c : ℕ) (ns : ℕ → ℕ) (n : ℕ) → u ≡ held_entered t c ns n → v ≡ entered_if u (ns n) c → v ≡ held_entered t c ns (n + 1)
unfolding held_entered
held_step t u v c ns n e q = q ∙ rw (e, add-one)

pub held_end : (t u : Store) (c : ℕ) (ns : ℕ → ℕ) (n k : ℕ) → n ≤ k → k ≤ n → u ≡ held_entered t c ns n → u ≡ held_entered t c ns k
held_end t u c ns n k a b e = let q : k ≡ n = omega arith in rw q e

------ what is kept

pub kept_new_lem : (t : Store) (c : ℕ) (z : Id) (ns : ℕ → ℕ) (k p : ℕ) (u v : Store) → p ≡ spent t → u ≡ with_null t z → v ≡ with_record u c p ns k → v ≡ kept_new t c z ns k
kept_new_lem t c z ns k p u v e q h = h ∙ rw (e, q)

------ the calls

-- `?` passes a refusal on as it is
pub passed_on : (q : Reply) (d : DagRefusal) → IsErrAnd q (λ e. e ≡ d) → q ≡ Err d
passed_on (Ok u) d h = absurd h
passed_on (Err e) d h = ap Err h

-- the walk's end made a reply
abbrev pub IsMissing : Entered → Reply → Type 0
IsMissing r m = MatchResult r (λ u. m ≡ Ok u) (λ i. IsErrAnd m (λ e. e ≡ MissingParent i))

pub missing_at : (r : Entered) (m : Reply) (d : DagRefusal) → IsMissing r m → m ≡ Err d → (i : ℕ) × (r ≡ Err i) × (d ≡ MissingParent i)
missing_at (Ok u) m d h e = absurd (let z : ◌≡◌ {A = ℕ} 0 1 = cc in omega arith)
missing_at (Err i) (Ok u) d h e = absurd h
missing_at (Err i) (Err n) d h e = (i, refl, cc)

pub none_missing : (r : Entered) (m : Reply) (u : ⊤) → IsMissing r m → m ≡ Ok u → r ≡ Ok tt
none_missing (Ok v) m u h e = refl
none_missing (Err i) (Ok v) u h e = absurd h
none_missing (Err i) (Err n) u h e = absurd (let z : ◌≡◌ {A = ℕ} 0 1 = cc in omega arith)

-- only the lengths decide whether a store is emptied
module _ (t : Store) (b : Bool) (hb : b ≡ lengths_right t) where
  pub empty_refused : b ≡ false → left (Err StoreBad) t ≡ empty_of t
  unfolding empty_of
  empty_refused e = rw (← hb, e)

  pub empty_done : (u : Store) → b ≡ true → u ≡ emptied t → left (Ok tt) u ≡ empty_of t
  unfolding empty_of
  empty_done u e q = rw (← hb, e, q)

module _ (t : Store) (x z : Id) (ps : List Id) (u : Store) (c : ℕ) (ns : ℕ → ℕ) (k : ℕ) (hu : u ≡ begun t x ps) (l : Names t x ps c ns k) where
  walk_here : entered u c ns 0 k ≡ entered (begun t x ps) (own_name t x ps) (parent_name t x ps) 0 (length ps)
  walk_here =
      rw (hu, l.own, l.count)
      (entered_cong (begun t x ps) (own_name t x ps) ns (parent_name t x ps) 0 (length ps) (λ (j : ℕ) (h : j < 0 + length ps). l.parents j (omega arith)))

  record_here : (w : Store) (p : ℕ) → with_record w c p ns k ≡ with_record w (own_name t x ps) p (parent_name t x ps) (length ps)
  record_here w p = rw (l.own, l.count) (record_cong w (own_name t x ps) p ns (parent_name t x ps) (length ps) l.parents)

  -- a plain insert that stopped at an unheld parent, and one that passed them all
  pub tried_stopped : (r : Entered) (w : Store) (i : ℕ) → r ≡ Err i → walked r w ≡ entered u c ns 0 k → left (Err (MissingParent i)) w ≡ insert_tried t x z ps
  unfolding insert_tried
  tried_stopped r w i e q =
      let a : entered (begun t x ps) (own_name t x ps) (parent_name t x ps) 0 (length ps) ≡ walked (Err i) w = sym walk_here ∙ sym q ∙ rw e in
      rw a

  pub tried_passed : (r : Entered) (w v : Store) → r ≡ Ok tt → walked r w ≡ entered u c ns 0 k → v ≡ kept_new w c z ns k → left (Ok tt) v ≡ insert_tried t x z ps
  unfolding insert_tried
  tried_passed r w v e q h =
      let a : entered (begun t x ps) (own_name t x ps) (parent_name t x ps) 0 (length ps) ≡ walked (Ok tt) w = sym walk_here ∙ sym q ∙ rw e in
      let b : v ≡ kept_new w (own_name t x ps) z (parent_name t x ps) (length ps) = h ∙ record_here (with_null w z) (spent w) in
      rw (a, b)

  genesis_here : (w : Store) (f : Option ℕ) (v : Store) → w ≡ held_entered u c ns k → f ≡ place_of w z → v ≡ kept_at f w (own_name t x ps) z (parent_name t x ps) (length ps) → v ≡ genesis_done t x z ps
  unfolding genesis_done
  genesis_here w f v e q h =
      let a : w ≡ held_entered (begun t x ps) (own_name t x ps) (parent_name t x ps) (length ps) =
      e ∙ rw (hu, l.own, l.count) (held_cong (begun t x ps) (own_name t x ps) ns (parent_name t x ps) (length ps) l.parents) in
      h ∙ rw (q, ← a)

  -- a genesis insert whose nullifier is there, and one whose nullifier is new
  pub genesis_known : (w : Store) (f : Option ℕ) (p : ℕ) (v : Store) → w ≡ held_entered u c ns k → f ≡ place_of w z → f ≡ Some p → v ≡ with_record w c p ns k → v ≡ genesis_done t x z ps
  genesis_known w f p v e q h g = genesis_here w f v e q (g ∙ record_here w p ∙ rw h)

  pub genesis_new : (w : Store) (f : Option ℕ) (v : Store) → w ≡ held_entered u c ns k → f ≡ place_of w z → f ≡ None → v ≡ kept_new w c z ns k → v ≡ genesis_done t x z ps
  genesis_new w f v e q h g = genesis_here w f v e q (g ∙ record_here (with_null w z) (spent w) ∙ rw h)

module _ (t : Store) (x z : Id) (ps : List Id) where
  pub insert_refused : (d : DagRefusal) → insert_verdict t x z ps ≡ Err d → left (Err d) t ≡ insert_of t x z ps
  unfolding insert_of
  insert_refused d e = rw e

  pub insert_tried_lem : (l : Left) → insert_verdict t x z ps ≡ Ok tt → l ≡ insert_tried t x z ps → l ≡ insert_of t x z ps
  unfolding insert_of
  insert_tried_lem l e k = rw e k

  pub genesis_refused : (d : DagRefusal) → genesis_verdict t x z ps ≡ Err d → left (Err d) t ≡ genesis_of t x z ps
  unfolding genesis_of
  genesis_refused d e = rw e

  pub genesis_done_lem : (u : Store) → genesis_verdict t x z ps ≡ Ok tt → u ≡ genesis_done t x z ps → left (Ok tt) u ≡ genesis_of t x z ps
  unfolding genesis_of
  genesis_done_lem u e k = rw e (ap (left (Ok tt)) k)
