-- Laws of columns: what a test of n cells of a table, from a place on, says of each, and what of it stays once a cell was set.
use Rattle.std.specs.Prelude.{ℕ, ◌+◌, ◌≤◌, ◌<◌, ◌≡◌, refl, Bool, true, false, cond, List, ◌≢◌, length, get_or, set, eqb, leb, ltb}
use Rattle.std.proofs.Common.{sym, ap, ◌∙◌, arith, get_or-set_same, get_or-set_other, ltb-true, ltb-false, leb-true, lt-ltb, le-leb, eqb-true}
use Rattle.std.proofs.Math.Seq.{set_out}
use Rattle.std.proofs.lemmas.Bool.{eqb-false}
use Rattle.std.specs.Ordering.{is_lt, nat_cmp}
use Rattle.std.specs.declared.cmp.Ordering.TheVariants.{Less, Equal, Greater}
use Rattle.cells.specs.Cells.{every, all_below, all_falling}
use Rattle.cells.specs.Every.{every_step, every_at, every_imp, every_cong}

------ std's order of numbers is theirs

order_by : (b c : Bool) → is_lt (cond b Less (cond c Equal Greater)) ≡ b
order_by true c = refl
order_by false true = refl
order_by false false = refl

pub numbers_ordered : (x y : ℕ) → is_lt (nat_cmp x y) ≡ ltb x y
numbers_ordered x y = order_by (ltb x y) (eqb x y)

------ any test p of a cell's number and of what the cell holds

-- by whether the cell read is the cell set, and whether the table has it
cell_kept : (q : ℕ → Bool) (s : List ℕ) (k v j : ℕ) (here inside : Bool) → eqb j k ≡ here → ltb k (length s) ≡ inside
    → (j ≡ k → q v ≡ true) → q (get_or s j 0) ≡ true → q (get_or (set s k v) j 0) ≡ true
cell_kept q s k v j false inside e d f h = rw (get_or-set_other s k j v 0 (eqb-false j k e)) h
cell_kept q s k v j true true e d f h =
    let w : j ≡ k = eqb-true j k e in
    rw (w, get_or-set_same s k v 0 (ltb-true k (length s) d)) (f w)
cell_kept q s k v j true false e d f h = rw (set_out s k v (ltb-false k (length s) d)) h

module _ (p : ℕ → ℕ → Bool) (s : List ℕ) (from n : ℕ) where
  -- all still pass where one was set, if that one, should it be among them, passes with its new value
  pub every_set : (k v : ℕ) → ((i : ℕ) → i < n → from + i ≡ k → p i v ≡ true)
      → every (λ i. p i (get_or s (from + i) 0)) n ≡ true → every (λ i. p i (get_or (set s k v) (from + i) 0)) n ≡ true
  every_set k v f =
      every_imp (λ i. p i (get_or s (from + i) 0)) (λ i. p i (get_or (set s k v) (from + i) 0)) n
      (λ (i : ℕ) (h : i < n). cell_kept (p i) s k v (from + i) (eqb (from + i) k) (ltb k (length s)) refl refl (f i h))

  -- setting a cell that is none of them changes nothing
  pub every_other : (k v : ℕ) → ((i : ℕ) → i < n → from + i ≢ k)
      → every (λ i. p i (get_or (set s k v) (from + i) 0)) n ≡ every (λ i. p i (get_or s (from + i) 0)) n
  every_other k v f =
      every_cong (λ i. p i (get_or (set s k v) (from + i) 0)) (λ i. p i (get_or s (from + i) 0)) n
      (λ (i : ℕ) (h : i < n). ap (p i) (get_or-set_other s k (from + i) v 0 (f i h)))

  -- the cell after them is set, and is one of them from then on
  pub every_next : (v : ℕ) → from + n < length s → p n v ≡ true
      → every (λ i. p i (get_or s (from + i) 0)) n ≡ true → every (λ i. p i (get_or (set s (from + n) v) (from + i) 0)) (n + 1) ≡ true
  every_next v l h e =
      let old : every (λ i. p i (get_or (set s (from + n) v) (from + i) 0)) n ≡ true =
      every_other (from + n) v (λ (i : ℕ) (w : i < n) (y : from + i ≡ from + n). omega arith) ∙ e in
      let new : p n (get_or (set s (from + n) v) (from + n) 0) ≡ true = rw (get_or-set_same s (from + n) v 0 l) h in
      sym (every_step (λ i. p i (get_or (set s (from + n) v) (from + i) 0)) n true (sym old)) ∙ new

------ cells below a bound

module _ (s : List ℕ) (from n bound : ℕ) (all : all_below s from n bound ≡ true) where
  pub all_below_at : (i : ℕ) → i < n → get_or s (from + i) 0 < bound
  all_below_at i h = ltb-true (get_or s (from + i) 0) bound (every_at (λ i. ltb (get_or s (from + i) 0) bound) n i all h)

  pub all_below_set : (k v : ℕ) → v < bound → all_below (set s k v) from n bound ≡ true
  all_below_set k v h = every_set (λ i c. ltb c bound) s from n k v (λ (i : ℕ) (l : i < n) (e : from + i ≡ k). lt-ltb v bound h) all

  pub all_below_next : (v : ℕ) → from + n < length s → v < bound → all_below (set s (from + n) v) from (n + 1) bound ≡ true
  all_below_next v l h = every_next (λ i c. ltb c bound) s from n v l (lt-ltb v bound h) all

  -- a higher bound
  pub all_below_raise : (b : ℕ) → bound ≤ b → all_below s from n b ≡ true
  all_below_raise b h =
      every_imp (λ i. ltb (get_or s (from + i) 0) bound) (λ i. ltb (get_or s (from + i) 0) b) n
      (λ (i : ℕ) (l : i < n) (e : ltb (get_or s (from + i) 0) bound ≡ true).
      let w : get_or s (from + i) 0 < b = omega (arith, ltb-true (get_or s (from + i) 0) bound e) in
      lt-ltb (get_or s (from + i) 0) b w)
      all

------ cells that are at most their own number

module _ (s : List ℕ) (from n : ℕ) (all : all_falling s from n ≡ true) where
  pub all_falling_at : (i : ℕ) → i < n → get_or s (from + i) 0 ≤ i
  all_falling_at i h = leb-true (get_or s (from + i) 0) i (every_at (λ i. leb (get_or s (from + i) 0) i) n i all h)

  pub all_falling_set : (k v : ℕ) → ((i : ℕ) → i < n → from + i ≡ k → v ≤ i) → all_falling (set s k v) from n ≡ true
  all_falling_set k v f = every_set (λ i c. leb c i) s from n k v (λ (i : ℕ) (l : i < n) (e : from + i ≡ k). le-leb v i (f i l e)) all

  pub all_falling_next : (v : ℕ) → from + n < length s → v ≤ n → all_falling (set s (from + n) v) from (n + 1) ≡ true
  all_falling_next v l h = every_next (λ i c. leb c i) s from n v l (le-leb v n h) all
