-- The children of each name after the walk over the parents: a parent that got an entry has the child at the end, once for each
-- place in the list.
use Prim.Native.Nat.{ℕ, zero, suc, ◌+◌, ◌-◌, ◌≤◌, ◌<◌}
use Rattle.std.specs.Prelude.{◌≡◌, Bool, eqb, Ok, Err}
use Rattle.std.proofs.Math.Path.{refl, sym, ap}
use Rattle.std.proofs.Common.{◌∙◌, eqb-true}
use Rattle.std.proofs.Math.Bool.{true, false}
use mathlib.Core.List.{List, [], ◌∷◌, ◌++◌, append_assoc, append-nil}
use native.Mathlib.Omega.{arith}
use Rattle.std.proofs.lemmas.Bool.{eqb-false}
use Rattle.store.specs.Limits.{child_limit}
use Rattle.store.specs.Tables.{Store, names, entries, held, children_of, with_child}
use Rattle.store.specs.Facts.{Sound}
use Rattle.store.specs.Views.{held_same}
use Rattle.store.specs.Chains.{children_gained, children_other}
use Rattle.dag.specs.Rules.{Entered, walked, pick_walked, entered, pick_store, entered_if, held_entered}
use Rattle.dag.proofs.Walk.{CanEnter, can_next, can_less, next_names, held_only}

-- c, where the test holds
abbrev pub share_if : Bool → ℕ → List ℕ
share_if true c = c ∷ []
share_if false c = []

-- c once for each of the n parents from the i-th on that is name m
unfoldable pub shares : ℕ → (ℕ → ℕ) → ℕ → ℕ → ℕ → List ℕ
shares c ns m i zero = []
shares c ns m i (suc n) = share_if (eqb (ns i) m) c ++ shares c ns m (i + 1) n

-- how many parents the walk from the i-th on entered, of n
abbrev pub passed_of : Entered → ℕ → ℕ → ℕ
passed_of (Ok u) i n = n
passed_of (Err j) i n = j - i

-- an entry for p gives its child to p, and to no other name
share_by : (t : Store) (p c m : ℕ) (b : Bool) → eqb p m ≡ b → Sound t → entries t < child_limit → p < names t → m < names t
    → children_of (with_child t p c) m ≡ children_of t m ++ share_if b c
share_by t p c m true e s room hp h = let w : p ≡ m = eqb-true p m e in rw w (children_gained t s m c room h)
share_by t p c m false e s room hp h =
    let d = eqb-false p m e in
    children_other t s p c room hp m h (λ (w : m ≡ p). d (sym w)) ∙ sym (append-nil (children_of t m))

-- a walk stops at no parent before its first
stop_by : (t : Store) (c : ℕ) (ns : ℕ → ℕ) (i n j : ℕ) (b : Bool) → ((entered (with_child t (ns i) c) c ns (i + 1) n).way ≡ Err j → i + 1 ≤ j)
    → (pick_walked b (entered (with_child t (ns i) c) c ns (i + 1) n) (walked (Err i) t)).way ≡ Err j → i ≤ j
stop_by t c ns i n j true r e = omega (arith, r e)
stop_by t c ns i n j false r e = let q : i ≡ j = cc in omega arith

stops_from : (t : Store) (c : ℕ) (ns : ℕ → ℕ) (i n j : ℕ) → (entered t c ns i n).way ≡ Err j → i ≤ j
unfolding entered
stops_from t c ns i zero j e = absurd (let z : ◌≡◌ {A = ℕ} 0 1 = cc in omega arith)
stops_from t c ns i (suc n) j e = stop_by t c ns i n j (held t (ns i)) (stops_from (with_child t (ns i) c) c ns (i + 1) n j) e

passed_next : (e : Entered) (i n : ℕ) → ((j : ℕ) → e ≡ Err j → i + 1 ≤ j) → passed_of e i (suc n) ≡ suc (passed_of e (i + 1) n)
passed_next (Ok u) i n f = refl
passed_next (Err j) i n f = let h = f j refl in omega arith

module _ (c : ℕ) (ns : ℕ → ℕ) (m : ℕ) where
  walk_by : (t : Store) (i n : ℕ) (b : Bool) → CanEnter t c ns i (suc n) → m < names t
      → children_of (entered (with_child t (ns i) c) c ns (i + 1) n).parts m ≡ children_of (with_child t (ns i) c) m ++ shares c ns m (i + 1) (passed_of (entered (with_child t (ns i) c) c ns (i + 1) n).way (i + 1) n)
      → children_of (pick_walked b (entered (with_child t (ns i) c) c ns (i + 1) n) (walked (Err i) t)).parts m
      ≡ children_of t m ++ shares c ns m i (passed_of (pick_walked b (entered (with_child t (ns i) c) c ns (i + 1) n) (walked (Err i) t)).way i (suc n))
  unfolding shares
  walk_by t i n false a h r = let z : i - i ≡ 0 = omega arith in rw z (sym (append-nil (children_of t m)))
  walk_by t i n true a h r =
      let room = a.room in
      let w = entered (with_child t (ns i) c) c ns (i + 1) n in
      let one = share_by t (ns i) c m (eqb (ns i) m) refl a.sound (omega arith) (a.parents i (omega arith) (omega arith)) h in
      let e = passed_next w.way i n (λ (j : ℕ). stops_from (with_child t (ns i) c) c ns (i + 1) n j) in
      r ∙ rw (one, e, append_assoc)

  -- the children of m after the walk from the i-th parent on
  pub walk_children : (t : Store) (i n : ℕ) → CanEnter t c ns i n → m < names t
      → children_of (entered t c ns i n).parts m ≡ children_of t m ++ shares c ns m i (passed_of (entered t c ns i n).way i n)
  unfolding entered shares
  walk_children t i zero a h = sym (append-nil (children_of t m))
  walk_children t i (suc n) a h =
      let o = can_next t c ns i n a in
      walk_by t i n (held t (ns i)) a h (walk_children (with_child t (ns i) c) (i + 1) n o (omega (arith, next_names t c ns i n a)))

------ the genesis insert's walk

-- the shares of one parent more
shares_more : (c : ℕ) (ns : ℕ → ℕ) (m i n : ℕ) → shares c ns m i (suc n) ≡ shares c ns m i n ++ share_if (eqb (ns (i + n)) m) c
unfolding shares
shares_more c ns m i zero = let z : i + 0 ≡ i = omega arith in rw z (append-nil (share_if (eqb (ns i) m) c))
shares_more c ns m i (suc n) =
    let z : i + 1 + n ≡ i + suc n = omega arith in
    ap (λ (l : List ℕ). share_if (eqb (ns i) m) c ++ l) (shares_more c ns m (i + 1) n ∙ ap (λ (j : ℕ). shares c ns m (i + 1) n ++ share_if (eqb (ns j) m) c) z)
    ∙ sym (append_assoc (share_if (eqb (ns i) m) c) (shares c ns m (i + 1) n) (share_if (eqb (ns (i + suc n)) m) c))

-- the list, where the test holds
abbrev pub list_if : Bool → List ℕ → List ℕ
list_if true l = l
list_if false l = []

module _ (c : ℕ) (ns : ℕ → ℕ) (m : ℕ) where
  -- one parent more: b says that it is m, h that it is held, and m is held where it is
  held_by : (t : Store) (n : ℕ) (b h : Bool) (old : List ℕ) → eqb (ns n) m ≡ b → (ns n ≡ m → h ≡ held t m)
      → (l : List ℕ) → l ≡ old ++ list_if h (share_if b c) → old ≡ children_of t m ++ list_if (held t m) (shares c ns m 0 n)
      → l ≡ children_of t m ++ list_if (held t m) (shares c ns m 0 n ++ share_if b c)
  held_by t n false h old e f l q r =
      let z : list_if h [] ≡ [] = nothing h in
      q ∙ rw (z, append-nil old, append-nil (shares c ns m 0 n)) r
    where
      nothing : (d : Bool) → list_if d [] ≡ []
      nothing true = refl
      nothing false = refl
  held_by t n true h old e f l q r = by (held t m) (sym (f (eqb-true (ns n) m e))) r
    where
      by : (d : Bool) → d ≡ h → old ≡ children_of t m ++ list_if d (shares c ns m 0 n) → l ≡ children_of t m ++ list_if d (shares c ns m 0 n ++ (c ∷ []))
      by true g k = q ∙ rw (← g, k, append_assoc)
      by false g k = q ∙ rw (← g, k, append-nil, append-nil)

  enter_by : (u : Store) (p : ℕ) (h : Bool) → Sound u → entries u < child_limit → p < names u → m < names u
      → children_of (pick_store h (with_child u p c) u) m ≡ children_of u m ++ list_if h (share_if (eqb p m) c)
  enter_by u p true s room hp hm = share_by u p c m (eqb p m) refl s room hp hm
  enter_by u p false s room hp hm = sym (append-nil (children_of u m))

  -- the children of m after the walk: it has the child at the end, once for each place in the list, if it is held
  pub held_children : (t : Store) (n : ℕ) → CanEnter t c ns 0 n → m < names t → children_of (held_entered t c ns n) m ≡ children_of t m ++ list_if (held t m) (shares c ns m 0 n)
  unfolding held_entered shares
  held_children t zero a h = by (held t m)
    where
      by : (d : Bool) → children_of t m ≡ children_of t m ++ list_if d []
      by true = sym (append-nil (children_of t m))
      by false = sym (append-nil (children_of t m))
  held_children t (suc n) a h =
      let u = held_entered t c ns n in
      let w = can_less t c ns n a in
      let o = held_only t c ns n w in
      let room = a.room in
      let few = o.sound.within.few_names in
      let p = a.parents n (omega arith) (omega arith) in
      let z : 0 + n ≡ n = omega arith in
      let more : shares c ns m 0 (suc n) ≡ shares c ns m 0 n ++ share_if (eqb (ns n) m) c = shares_more c ns m 0 n ∙ ap (λ (j : ℕ). shares c ns m 0 n ++ share_if (eqb (ns j) m) c) z in
      held_by t n (eqb (ns n) m) (held u (ns n)) (children_of u m) refl
      (λ (q : ns n ≡ m). ap (held u) q ∙ held_same t u m (o.record_same m (omega (arith, o.names_same))))
      (children_of (entered_if u (ns n) c) m)
      (enter_by u (ns n) (held u (ns n)) o.sound (omega (arith, o.entries_most)) (omega (arith, o.names_same)) (omega (arith, o.names_same)))
      (held_children t n w h)
      ∙ ap (λ (l : List ℕ). children_of t m ++ list_if (held t m) l) (sym more)
