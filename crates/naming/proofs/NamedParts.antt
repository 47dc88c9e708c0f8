-- That naming part by part is naming, and that what was located is what is named.
use Rattle.std.specs.Prelude.{ℕ, zero, suc, ◌+◌, ◌<◌, ◌≡◌, refl, Bool, true, false, length}
use Rattle.std.proofs.Common.{sym, ap, ◌∙◌, arith, add-one, length-set}
use Rattle.bitset.specs.Sets.{count_below}
use Rattle.cells.specs.Cells.{Id}
use Rattle.store.specs.Tables.{Store, names, with_name}
use Rattle.naming.specs.Naming.{is_new, fresh_count, name_if, named}
use Rattle.naming.specs.Numbers.{fresh_zero, fresh_old, fresh_new}
use Rattle.naming.specs.Located.{Locates}
use Rattle.naming.specs.Parts.{with_id, list_if, listed, with_row, cleared, list_if_names}
use Rattle.naming.specs.Loops.{flag}
use Rattle.naming.specs.declared.lookup.Located.{Located}

------ both are naming

id_then_row : (t : Store) (x : Id) → with_name t x ≡ with_row (with_id t x) (names t)
unfolding with_name with_id with_row
id_then_row t x = refl

row_then_id : (t : Store) (n : ℕ) (x : Id) → with_id (with_row t n) x ≡ with_row (with_id t x) n
unfolding with_id with_row
row_then_id t n x = refl

rows_then_id : (t : Store) (from k : ℕ) (x : Id) → with_id (cleared t from k) x ≡ cleared (with_id t x) from k
unfolding cleared
rows_then_id t from zero x = refl
rows_then_id t from (suc k) x = row_then_id (cleared t from k) (from + k) x ∙ ap (λ (u : Store). with_row u (from + k)) (rows_then_id t from k x)

cleared_names : (t : Store) (from k : ℕ) → names (cleared t from k) ≡ names t
unfolding cleared with_row
cleared_names t from zero = refl
cleared_names t from (suc k) = cleared_names t from k

listed_length : (t : Store) (xs : ℕ → Id) (new : ℕ → Bool) (n : ℕ) → length (listed t xs new n).head ≡ length t.head
unfolding listed with_id
listed_length t xs new zero = refl
listed_length t xs new (suc n) = by (new n) ∙ listed_length t xs new n
  where
    by : (b : Bool) → length (list_if b (listed t xs new n) (xs n)).head ≡ length (listed t xs new n).head
    by true = simp length-set
    by false = refl

-- each new id is one more name
listed_names : (t : Store) (xs : ℕ → Id) (new : ℕ → Bool) (n : ℕ) → 0 < length t.head → names (listed t xs new n) ≡ names t + count_below new n
unfolding listed count_below
listed_names t xs new zero h = omega arith
listed_names t xs new (suc n) h =
    list_if_names (new n) (listed t xs new n) (xs n) (rw (listed_length t xs new n) h) ∙ omega (arith, listed_names t xs new n h)

parts_by : (t : Store) (xs : ℕ → Id) (n : ℕ) (b : Bool) → is_new t xs n ≡ b → 0 < length t.head
    → named t xs n ≡ cleared (listed t xs (is_new t xs) n) (names t) (fresh_count t xs n)
    → name_if b (named t xs n) (xs n) ≡ cleared (list_if b (listed t xs (is_new t xs) n) (xs n)) (names t) (fresh_count t xs (suc n))
unfolding cleared fresh_count
parts_by t xs n true e h r =
    let c : fresh_count t xs (suc n) ≡ suc (fresh_count t xs n) = fresh_new t xs n e ∙ add-one (fresh_count t xs n) in
    let m : names (cleared (listed t xs (is_new t xs) n) (names t) (fresh_count t xs n)) ≡ names t + fresh_count t xs n =
    cleared_names (listed t xs (is_new t xs) n) (names t) (fresh_count t xs n) ∙ listed_names t xs (is_new t xs) n h in
    ap (λ (v : Store). with_name v (xs n)) r
    ∙ id_then_row (cleared (listed t xs (is_new t xs) n) (names t) (fresh_count t xs n)) (xs n)
    ∙ ap (λ (i : ℕ). with_row (with_id (cleared (listed t xs (is_new t xs) n) (names t) (fresh_count t xs n)) (xs n)) i) m
    ∙ ap (λ (v : Store). with_row v (names t + fresh_count t xs n)) (rows_then_id (listed t xs (is_new t xs) n) (names t) (fresh_count t xs n) (xs n))
    ∙ ap (cleared (with_id (listed t xs (is_new t xs) n) (xs n)) (names t)) (sym c)
parts_by t xs n false e h r = r ∙ ap (cleared (listed t xs (is_new t xs) n) (names t)) (sym (fresh_old t xs n e))

-- the new ids after the last, and the rows of as many names cleared from the first free one on
pub named_parts : (t : Store) (xs : ℕ → Id) (n : ℕ) → 0 < length t.head → named t xs n ≡ cleared (listed t xs (is_new t xs) n) (names t) (fresh_count t xs n)
unfolding named listed cleared
named_parts t xs zero h = ap (cleared t (names t)) (sym (fresh_zero t xs))
named_parts t xs (suc n) h = parts_by t xs n (is_new t xs n) refl h (named_parts t xs n h)

------ what was located is what is named

listed_same : (t : Store) (xs : ℕ → Id) (p q : ℕ → Bool) (n : ℕ) → ((i : ℕ) → i < n → p i ≡ q i) → listed t xs p n ≡ listed t xs q n
unfolding listed
listed_same t xs p q zero f = refl
listed_same t xs p q (suc n) f =
    let r : listed t xs p n ≡ listed t xs q n = listed_same t xs p q n (λ (i : ℕ) (h : i < n). f i (omega arith)) in
    rw (f n (omega arith), r)

module _ (t : Store) (xs : ℕ → Id) (n : ℕ) (r : Located) (l : Locates t xs n r) where
  pub located_named : (u v : Store) (from : ℕ) → 0 < length t.head → from ≡ names t → u ≡ listed t xs (flag r.new) n → v ≡ cleared u from r.fresh → v ≡ named t xs n
  located_named u v from h e f g = rw (g, f, e, listed_same t xs (flag r.new) (is_new t xs) n l.new, l.fresh) (sym (named_parts t xs n h))
