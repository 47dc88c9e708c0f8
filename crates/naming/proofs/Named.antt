-- The names after naming: how many there are, and the number of each id.
use Rattle.std.specs.Prelude.{ℕ, zero, suc, ◌+◌, ◌-◌, ◌≤◌, ◌<◌, ◌≡◌, Bool, true, false, Option, Some, None}
use Rattle.std.proofs.Math.Path.{refl, ap}
use Rattle.std.proofs.Common.{sym, ◌∙◌, true≢false, arith, add-one, ltb-false}
use Rattle.cells.specs.Cells.{Id, IsId, same_id, first_where, pick_found, or_else}
use Rattle.cells.specs.First.{first_cong, first_suc, first_none}
use Rattle.cells.specs.Ids.{same_right}
use Rattle.store.specs.Limits.{name_limit}
use Rattle.store.specs.Tables.{Store, names, used, number_of, with_name}
use Rattle.store.specs.Facts.{Sound}
use Rattle.store.specs.Views.{counted, more_names, name_used, name_number}
use Rattle.store.specs.Kept.{name_sound}
use Rattle.naming.specs.Naming.{first_place, is_new, fresh_count, name_if, named, number_if, number_at, no_name_room}
use Rattle.naming.specs.Numbers.{fresh_zero, fresh_old, fresh_new, fresh_mono, first_place_of, number_of_same, new_is, number_below}

-- the call's first n ids can be named: the store is not bad, and check 7 is passed
pub record Nameable (t : Store) (xs : ℕ → Id) (n : ℕ) : Type 0 where
  pub sound : Sound t
  pub room : names t + fresh_count t xs n ≤ name_limit

pub nameable : (t : Store) (xs : ℕ → Id) (n : ℕ) → Sound t → no_name_room t xs n ≡ false → Nameable t xs n
nameable t xs n s e = record { sound = s; room = omega (arith, s.within.few_names, ltb-false (name_limit - names t) (fresh_count t xs n) e) }

-- fewer ids can be named too
pub nameable_less : (t : Store) (xs : ℕ → Id) (n : ℕ) → Nameable t xs (suc n) → Nameable t xs n
nameable_less t xs n a = record { sound = a.sound; room = omega (arith, a.room, fresh_mono t xs n (suc n) (omega arith)) }

------ the count, and a store that is not bad

-- what is known once the first n ids are named
pub record Progress (t : Store) (xs : ℕ → Id) (n : ℕ) (u : Store) : Type 0 where
  pub sound : Sound u
  pub count : names u ≡ names t + fresh_count t xs n

progress_by : (t : Store) (xs : ℕ → Id) (n : ℕ) (u : Store) (b : Bool) → is_new t xs n ≡ b → Progress t xs n u → names t + fresh_count t xs (suc n) ≤ name_limit
    → Progress t xs (suc n) (name_if b u (xs n))
progress_by t xs n u false e r h = record { sound = r.sound; count = r.count ∙ ap (λ (m : ℕ). names t + m) (sym (fresh_old t xs n e)) }
progress_by t xs n u true e r h =
    let room : names u < name_limit = omega (arith, r.count, fresh_new t xs n e) in
    let c = counted (with_name u (xs n)) (more_names (used u)) (name_used u (xs n) r.sound.lengths room) in
    record { sound = name_sound u (xs n) r.sound room; count = omega (arith, c.names_are, r.count, fresh_new t xs n e) }

pub progress : (t : Store) (xs : ℕ → Id) (n : ℕ) → Nameable t xs n → Progress t xs n (named t xs n)
unfolding named
progress t xs zero a = record { sound = a.sound; count = omega (arith, fresh_zero t xs) }
progress t xs (suc n) a = progress_by t xs n (named t xs n) (is_new t xs n) refl (progress t xs n (nameable_less t xs n a)) a.room

-- a new id finds a free name
pub room_here : (t : Store) (xs : ℕ → Id) (n : ℕ) → Nameable t xs (suc n) → is_new t xs n ≡ true → names (named t xs n) < name_limit
room_here t xs n a e = omega (arith, a.room, (progress t xs n (nameable_less t xs n a)).count, fresh_new t xs n e)

------ the numbers

-- the number of an id that the call names, from its first place in it
abbrev pub new_number : Store → (ℕ → Id) → Option ℕ → Option ℕ
new_number t xs (Some j) = Some (names t + fresh_count t xs j)
new_number t xs None = None

-- the number of y once the first n ids are named: the one that it has, or that of its first place in the call
abbrev pub number_after : Store → (ℕ → Id) → ℕ → Id → Option ℕ
number_after t xs n y = or_else (number_of t y) (new_number t xs (first_where (λ j. same_id (xs j) y) 0 n))

module _ (t : Store) (xs : ℕ → Id) (n : ℕ) where
  -- one place more to look at
  after_more : (y : Id) → number_after t xs (suc n) y ≡ or_else (number_after t xs n y) (new_number t xs (pick_found (same_id (xs n) y) (Some n) None))
  after_more y =
      let z : 0 + n ≡ n = omega arith in
      ap (λ (m : ℕ). number_after t xs m y) (sym (add-one n))
      ∙ ap (λ (f : Option ℕ). or_else (number_of t y) (new_number t xs f)) (first_suc (λ j. same_id (xs j) y) 0 n)
      ∙ ap (λ (m : ℕ). or_else (number_of t y) (new_number t xs (or_else (first_where (λ j. same_id (xs j) y) 0 n) (pick_found (same_id (xs m) y) (Some m) None)))) z
      ∙ by (number_of t y) (first_where (λ j. same_id (xs j) y) 0 n) (pick_found (same_id (xs n) y) (Some n) None)
    where
      by : (f g e : Option ℕ) → or_else f (new_number t xs (or_else g e)) ≡ or_else (or_else f (new_number t xs g)) (new_number t xs e)
      by (Some k) g e = refl
      by None (Some k) e = refl
      by None None e = refl

  -- an id that is not new has a number already
  after_old : (y : Id) → is_new t xs n ≡ false → number_after t xs (suc n) y ≡ number_after t xs n y
  after_old y e = after_more y ∙ by (number_of t y) (first_where (λ j. same_id (xs j) y) 0 n) (same_id (xs n) y) refl refl refl
    where
      by : (f g : Option ℕ) (b : Bool) → number_of t y ≡ f → first_where (λ j. same_id (xs j) y) 0 n ≡ g → same_id (xs n) y ≡ b
          → or_else (or_else f (new_number t xs g)) (new_number t xs (pick_found b (Some n) None)) ≡ or_else f (new_number t xs g)
      by (Some k) g b p q r = refl
      by None (Some k) b p q r = refl
      by None None false p q r = refl
      by None None true p q r =
          let a : number_of t (xs n) ≡ None = number_of_same t (xs n) y r ∙ p in
          let b : first_where (λ j. same_id (xs j) (xs n)) 0 n ≡ None =
          first_cong (λ j. same_id (xs j) (xs n)) (λ j. same_id (xs j) y) 0 n (λ (j : ℕ) (h : 0 ≤ j) (k : j < 0 + n). same_right (xs n) y (xs j) r) ∙ q in
          absurd (true≢false (sym (new_is t xs n a b) ∙ e))

else_nothing : (f : Option ℕ) → or_else f None ≡ f
else_nothing (Some k) = refl
else_nothing None = refl

number_by : (t : Store) (xs : ℕ → Id) (n : ℕ) (b : Bool) → is_new t xs n ≡ b → Nameable t xs (suc n) → IsId (xs n) → (y : Id) → number_of (named t xs n) y ≡ number_after t xs n y
    → number_of (name_if b (named t xs n) (xs n)) y ≡ number_after t xs (suc n) y
number_by t xs n false e a d y r = r ∙ sym (after_old t xs n y e)
number_by t xs n true e a d y r =
    let g = progress t xs n (nameable_less t xs n a) in
    name_number (named t xs n) (xs n) g.sound.lengths (room_here t xs n a e) d.bytes y
    ∙ ap (λ (f : Option ℕ). or_else f (pick_found (same_id (xs n) y) (Some (names (named t xs n))) None)) r
    ∙ ap (λ (m : ℕ). or_else (number_after t xs n y) (pick_found (same_id (xs n) y) (Some m) None)) g.count
    ∙ ap (or_else (number_after t xs n y)) (by (same_id (xs n) y))
    ∙ sym (after_more t xs n y)
  where
    by : (b : Bool) → pick_found b (Some (names t + fresh_count t xs n)) None ≡ new_number t xs (pick_found b (Some n) None)
    by true = refl
    by false = refl

number_all : (t : Store) (xs : ℕ → Id) (n : ℕ) → Nameable t xs n → ((i : ℕ) → i < n → IsId (xs i)) → (y : Id) → number_of (named t xs n) y ≡ number_after t xs n y
unfolding named first_where
number_all t xs zero a d y = sym (else_nothing (number_of t y))
number_all t xs (suc n) a d y =
    number_by t xs n (is_new t xs n) refl a (d n (omega arith)) y
    (number_all t xs n (nameable_less t xs n a) (λ (i : ℕ) (h : i < n). d i (omega arith)) y)

module _ (t : Store) (xs : ℕ → Id) (n : ℕ) (a : Nameable t xs n) where
  -- a store that is not bad is not bad after naming
  pub named_sound : Sound (named t xs n)
  named_sound = (progress t xs n a).sound

  -- one more name for each new id
  pub named_names : names (named t xs n) ≡ names t + fresh_count t xs n
  named_names = (progress t xs n a).count

  -- each number of the call's ids is a name
  pub number_named : (i : ℕ) → i < n → number_at t xs i < names (named t xs n)
  number_named i h = rw named_names (number_below t xs i n h)

  module _ (d : (i : ℕ) → i < n → IsId (xs i)) where
    -- the number of any id
    pub named_number_of : (y : Id) → number_of (named t xs n) y ≡ number_after t xs n y
    named_number_of = number_all t xs n a d

    -- each of the call's ids has its number
    pub named_number : (i : ℕ) → i < n → number_of (named t xs n) (xs i) ≡ Some (number_at t xs i)
    unfolding number_at
    named_number i h =
        named_number_of (xs i) ∙ ap (λ (g : Option ℕ). or_else (number_of t (xs i)) (new_number t xs g)) (first_place_of xs i n h) ∙ by (number_of t (xs i))
      where
        by : (f : Option ℕ) → or_else f (Some (names t + fresh_count t xs (first_place xs i))) ≡ Some (number_if f (names t + fresh_count t xs (first_place xs i)))
        by (Some k) = refl
        by None = refl

    -- an id that had a name keeps its number
    pub named_old : (y : Id) (k : ℕ) → number_of t y ≡ Some k → number_of (named t xs n) y ≡ Some k
    named_old y k e = named_number_of y ∙ rw e

    -- an id that is none of the call's keeps its number, or has none as before
    pub named_other : (y : Id) → ((j : ℕ) → j < n → same_id (xs j) y ≡ false) → number_of (named t xs n) y ≡ number_of t y
    named_other y f =
        named_number_of y
        ∙ ap (λ (g : Option ℕ). or_else (number_of t y) (new_number t xs g)) (first_none (λ j. same_id (xs j) y) 0 n (λ (j : ℕ) (h : 0 ≤ j) (k : j < 0 + n). f j (omega arith)))
        ∙ else_nothing (number_of t y)
