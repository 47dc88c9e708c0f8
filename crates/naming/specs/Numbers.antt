-- Laws of the numbers that a call's ids have once they are named.
use Rattle.std.specs.Prelude.{ℕ, suc, ◌+◌, ◌-◌, ◌≤◌, ◌<◌, ◌≡◌, refl, Bool, true, false, Option, Some, None}
use Rattle.std.proofs.Common.{sym, ap, ◌∙◌, true≢false, ⊎_elim, arith}
use Rattle.bitset.specs.Sets.{count_below}
use Rattle.bitset.specs.Cases.{lt_or_le}
use Rattle.bitset.specs.Counts.{count_le, count_add}
use Rattle.cells.specs.Cells.{Id, same_id, first_where, or_zero, id_at}
use Rattle.cells.specs.First.{Lowest, first_found, first_is, first_none, first_nothing}
use Rattle.cells.specs.Ids.{same_refl, same_right, first_id_same}
use Rattle.store.specs.Limits.{names_at}
use Rattle.store.specs.Tables.{Store, names, number_of}
use Rattle.naming.specs.Naming.{first_place, is_new, fresh_count, number_at}

------ counts

pub fresh_zero : (t : Store) (xs : ℕ → Id) → fresh_count t xs 0 ≡ 0
unfolding fresh_count count_below
fresh_zero t xs = refl

pub fresh_old : (t : Store) (xs : ℕ → Id) (n : ℕ) → is_new t xs n ≡ false → fresh_count t xs (suc n) ≡ fresh_count t xs n
unfolding fresh_count count_below
fresh_old t xs n e = rw e (omega arith)

pub fresh_new : (t : Store) (xs : ℕ → Id) (n : ℕ) → is_new t xs n ≡ true → fresh_count t xs (suc n) ≡ fresh_count t xs n + 1
unfolding fresh_count count_below
fresh_new t xs n e = rw e

pub fresh_most : (t : Store) (xs : ℕ → Id) (n : ℕ) → fresh_count t xs n ≤ n
unfolding fresh_count
fresh_most t xs n = count_le (is_new t xs) n

-- more places have no fewer
pub count_further : (p : ℕ → Bool) (m n : ℕ) → m ≤ n → count_below p m ≤ count_below p n
count_further p m n h =
    let e : n ≡ m + (n - m) = omega arith in
    rw e (omega (arith, count_add p m (n - m)))

pub fresh_mono : (t : Store) (xs : ℕ → Id) (m n : ℕ) → m ≤ n → fresh_count t xs m ≤ fresh_count t xs n
unfolding fresh_count
fresh_mono t xs m n h = count_further (is_new t xs) m n h

------ the first place of an id in the call

module _ (xs : ℕ → Id) (i : ℕ) where
  place_by : (f : Option ℕ) → first_where (λ j. same_id (xs j) (xs i)) 0 (suc i) ≡ f → Lowest (λ j. same_id (xs j) (xs i)) 0 (suc i) (or_zero f)
  place_by (Some k) e = first_found (λ j. same_id (xs j) (xs i)) 0 (suc i) k e
  place_by None e =
      absurd (true≢false (sym (same_refl (xs i)) ∙ first_nothing (λ j. same_id (xs j) (xs i)) 0 (suc i) i e (omega arith) (omega arith)))

  -- it has the id, and none before it has
  pub first_place_lem : Lowest (λ j. same_id (xs j) (xs i)) 0 (suc i) (first_place xs i)
  first_place_lem = place_by (first_where (λ j. same_id (xs j) (xs i)) 0 (suc i)) refl

  -- a place that has the id, with none before it, is the first
  first_place_is : (k : ℕ) → Lowest (λ j. same_id (xs j) (xs i)) 0 (suc i) k → first_place xs i ≡ k
  first_place_is k l = ap or_zero (first_is (λ j. same_id (xs j) (xs i)) 0 (suc i) k l)

  -- among more places it is the same
  pub first_place_of : (n : ℕ) → i < n → first_where (λ j. same_id (xs j) (xs i)) 0 n ≡ Some (first_place xs i)
  first_place_of n h =
      first_is (λ j. same_id (xs j) (xs i)) 0 n (first_place xs i)
      (record { above = first_place_lem.above; below = omega (arith, first_place_lem.below); holds = first_place_lem.holds; alone = first_place_lem.alone })

  pub first_place_self : first_where (λ j. same_id (xs j) (xs i)) 0 i ≡ None → first_place xs i ≡ i
  first_place_self e =
      first_place_is i
      (record {
        above = omega arith;
        below = omega arith;
        holds = same_refl (xs i);
        alone = λ (j : ℕ) (a : 0 ≤ j) (b : j < i). first_nothing (λ j. same_id (xs j) (xs i)) 0 i j e a (omega arith);
      })

-- equal ids have one first place
first_place_same : (xs : ℕ → Id) (i j : ℕ) → same_id (xs i) (xs j) ≡ true → first_place xs j ≡ first_place xs i
first_place_same xs i j e =
    let l = first_place_lem xs i in
    let alike : (m : ℕ) → same_id (xs m) (xs i) ≡ same_id (xs m) (xs j) = λ (m : ℕ). same_right (xs i) (xs j) (xs m) e in
    let reach : first_place xs i < suc j =
    ⊎_elim
    (λ (h : first_place xs i < suc j). h)
    (λ (h : suc j ≤ first_place xs i). absurd (true≢false (sym (same_refl (xs j)) ∙ sym (alike j) ∙ l.alone j (omega arith) h)))
    (lt_or_le (first_place xs i) (suc j)) in
    first_place_is xs j (first_place xs i)
    (record { above = l.above; below = omega arith; holds = sym (alike (first_place xs i)) ∙ l.holds; alone = λ (m : ℕ) (a : 0 ≤ m) (b : m < first_place xs i). sym (alike m) ∙ l.alone m a b })

------ numbers

-- equal ids have one number
pub number_of_same : (t : Store) (x y : Id) → same_id x y ≡ true → number_of t x ≡ number_of t y
number_of_same t x y e = first_id_same t.keys t.rests names_at (names t) x y e

-- a number that an id has is below the count of names
pub number_of_below : (t : Store) (x : Id) (k : ℕ) → number_of t x ≡ Some k → k < names t
number_of_below t x k e = omega (arith, (first_found (λ i. same_id (id_at t.keys t.rests (names_at + i)) x) 0 (names t) k e).below)

module _ (t : Store) (xs : ℕ → Id) where
  -- an id that has a name keeps its number
  pub number_old : (i k : ℕ) → number_of t (xs i) ≡ Some k → number_at t xs i ≡ k
  unfolding number_at
  number_old i k e = rw e

  -- another has the next free number at its first place
  pub number_new : (i : ℕ) → number_of t (xs i) ≡ None → number_at t xs i ≡ names t + fresh_count t xs (first_place xs i)
  unfolding number_at
  number_new i e = rw e

  -- equal ids have one number
  pub number_same : (i j : ℕ) → same_id (xs i) (xs j) ≡ true → number_at t xs i ≡ number_at t xs j
  unfolding number_at
  number_same i j e = rw (number_of_same t (xs i) (xs j) e, first_place_same xs i j e)

  -- an id without a name, at no earlier place, is new
  pub new_is : (i : ℕ) → number_of t (xs i) ≡ None → first_where (λ j. same_id (xs j) (xs i)) 0 i ≡ None → is_new t xs i ≡ true
  unfolding is_new
  new_is i e f = rw (e, f)

  new_first : (i : ℕ) → number_of t (xs i) ≡ None → is_new t xs (first_place xs i) ≡ true
  new_first i e =
      let l = first_place_lem xs i in
      new_is (first_place xs i)
      (number_of_same t (xs (first_place xs i)) (xs i) l.holds ∙ e)
      (first_none (λ j. same_id (xs j) (xs (first_place xs i))) 0 (first_place xs i)
      (λ (j : ℕ) (p : 0 ≤ j) (q : j < 0 + first_place xs i). same_right (xs (first_place xs i)) (xs i) (xs j) l.holds ∙ l.alone j p (omega arith)))

  below_by : (i n : ℕ) (f : Option ℕ) → number_of t (xs i) ≡ f → i < n → number_at t xs i < names t + fresh_count t xs n
  below_by i n (Some k) e h = omega (arith, number_old i k e, number_of_below t (xs i) k e)
  below_by i n None e h =
      omega
      (arith, number_new i e, fresh_new t xs (first_place xs i) (new_first i e), fresh_mono t xs (suc (first_place xs i)) n (omega (arith, (first_place_lem xs i).below)))

  -- each number is below the count of names once n ids are named
  pub number_below : (i n : ℕ) → i < n → number_at t xs i < names t + fresh_count t xs n
  number_below i n h = below_by i n (number_of t (xs i)) refl h
