-- Laws of `first_where`, for any test: how a loop computes it, what its answer means, and what one place more does.
use Prim.Native.Nat.{ℕ, zero, suc, ◌+◌, ◌-◌, ◌≤◌, ◌<◌}
use Rattle.std.specs.Prelude.{◌≡◌, refl, Bool, true, false, Option, Some, None, ◌||◌, ◌⊎◌}
use Rattle.std.proofs.Common.{sym, ap, ◌∙◌, ⊎_elim, eq-or-lt_of_le}
use native.Mathlib.Omega.{arith}
use Rattle.cells.specs.Cells.{first_where, pick_found, is_at, or_zero, or_else}

------ a loop that goes from i to n and is left where p holds: f is the answer, b the test

pub first_start : (p : ℕ → Bool) (n : ℕ) → first_where p 0 n ≡ first_where p 0 (n - 0)
first_start p n = let e : n - 0 ≡ n = omega arith in rw e

-- a loop over the m places from i on
pub first_part : (p : ℕ → Bool) (i m : ℕ) (f : Option ℕ) → f ≡ first_where p i (i + m - i) → f ≡ first_where p i m
first_part p i m f e = let w : i + m - i ≡ m = omega arith in e ∙ rw w

module _ (p : ℕ → Bool) (n i : ℕ) (f : Option ℕ) (so_far : f ≡ first_where p i (n - i)) where
  pub first_end : n ≤ i → None ≡ f
  unfolding first_where
  first_end h = let e : n - i ≡ 0 = omega arith in rw (so_far, e)

  step : i < n → f ≡ pick_found (p i) (Some i) (first_where p (i + 1) (n - (i + 1)))
  unfolding first_where
  step h = let e : n - i ≡ suc (n - (i + 1)) = omega arith in so_far ∙ rw e

  pub first_hit : (b : Bool) → i < n → b ≡ p i → b ≡ true → Some i ≡ f
  first_hit b h e t = rw (step h, ← e, t)

  pub first_miss : (b : Bool) → i < n → b ≡ p i → b ≡ false → f ≡ first_where p (i + 1) (n - (i + 1))
  first_miss b h e t = step h ∙ rw (← e, t)

  -- g is the answer of another search that goes on from i
  pub first_last : (g : Option ℕ) → g ≡ first_where p i (n - i) → g ≡ f
  first_last g e = e ∙ sym so_far

------ what the answer means

-- k is the lowest of the n places from i on at which p holds
pub record Lowest (p : ℕ → Bool) (i n k : ℕ) : Type 0 where
  pub above : i ≤ k
  pub below : k < i + n
  pub holds : p k ≡ true
  pub alone : (j : ℕ) → i ≤ j → j < k → p j ≡ false

found_by : (p : ℕ → Bool) (i n k : ℕ) (b : Bool) → p i ≡ b → (first_where p (i + 1) n ≡ Some k → Lowest p (i + 1) n k) → pick_found b (Some i) (first_where p (i + 1) n) ≡ Some k → Lowest p i (suc n) k
found_by p i n k true e r q =
    let w : ◌≡◌ {A = ℕ} i k = cc in
    record { above = omega arith; below = omega arith; holds = rw (← w) e; alone = λ (j : ℕ) (a : i ≤ j) (b : j < k). absurd (omega arith) }
found_by p i n k false e r q =
    let f = r q in
    record {
      above = omega (arith, f.above);
      below = omega (arith, f.below);
      holds = f.holds;
      alone = λ (j : ℕ) (a : i ≤ j) (b : j < k).
          ⊎_elim (λ (w : i ≡ j). rw (← w) e) (λ (w : i < j). let l : i + 1 ≤ j = omega arith in f.alone j l b) (eq-or-lt_of_le a);
    }

pub first_found : (p : ℕ → Bool) (i n k : ℕ) → first_where p i n ≡ Some k → Lowest p i n k
unfolding first_where
first_found p i zero k e = let z : ◌≡◌ {A = ℕ} 0 1 = cc in absurd (omega arith)
first_found p i (suc n) k e = found_by p i n k (p i) refl (first_found p (i + 1) n k) e

lowest_by : (p : ℕ → Bool) (i n k : ℕ) (b : Bool) → p i ≡ b → Lowest p i (suc n) k → (Lowest p (i + 1) n k → first_where p (i + 1) n ≡ Some k) → (i ≡ k) ⊎ (i < k) → pick_found b (Some i) (first_where p (i + 1) n) ≡ Some k
lowest_by p i n k true e f r w =
    ⊎_elim (λ (w : i ≡ k). ap Some w) (λ (w : i < k). let z : true ≡ false = sym e ∙ f.alone i (omega arith) w in cc) w
lowest_by p i n k false e f r w =
    ⊎_elim
    (λ (w : i ≡ k). let z : false ≡ true = sym e ∙ rw w f.holds in cc)
    (λ (w : i < k). r (record { above = omega arith; below = omega (arith, f.below); holds = f.holds; alone = λ (j : ℕ) (a : i + 1 ≤ j) (b : j < k). f.alone j (omega arith) b }))
    w

pub first_is : (p : ℕ → Bool) (i n k : ℕ) → Lowest p i n k → first_where p i n ≡ Some k
unfolding first_where
first_is p i zero k f = absurd (omega (arith, f.above, f.below))
first_is p i (suc n) k f = lowest_by p i n k (p i) refl f (first_is p (i + 1) n k) (eq-or-lt_of_le f.above)

pub first_none : (p : ℕ → Bool) (i n : ℕ) → ((j : ℕ) → i ≤ j → j < i + n → p j ≡ false) → first_where p i n ≡ None
unfolding first_where
first_none p i zero f = refl
first_none p i (suc n) f =
    let h : p i ≡ false = f i (omega arith) (omega arith) in
    rw h (first_none p (i + 1) n (λ (j : ℕ) (a : i + 1 ≤ j) (b : j < i + 1 + n). f j (omega arith) (omega arith)))

nothing_by : (p : ℕ → Bool) (i n j : ℕ) (b : Bool) → p i ≡ b → (first_where p (i + 1) n ≡ None → i + 1 ≤ j → p j ≡ false) → pick_found b (Some i) (first_where p (i + 1) n) ≡ None → (i ≡ j) ⊎ (i < j) → p j ≡ false
nothing_by p i n j true e r q w = let z : ◌≡◌ {A = ℕ} 0 1 = cc in absurd (omega arith)
nothing_by p i n j false e r q w = ⊎_elim (λ (w : i ≡ j). rw (← w) e) (λ (w : i < j). r q (omega arith)) w

pub first_nothing : (p : ℕ → Bool) (i n j : ℕ) → first_where p i n ≡ None → i ≤ j → j < i + n → p j ≡ false
unfolding first_where
first_nothing p i zero j e a b = absurd (omega arith)
first_nothing p i (suc n) j e a b = nothing_by p i n j (p i) refl (λ (q : first_where p (i + 1) n ≡ None) (l : i + 1 ≤ j). first_nothing p (i + 1) n j q l (omega arith)) e (eq-or-lt_of_le a)

pub first_cong : (p q : ℕ → Bool) (i n : ℕ) → ((j : ℕ) → i ≤ j → j < i + n → p j ≡ q j) → first_where p i n ≡ first_where q i n
unfolding first_where
first_cong p q i zero f = refl
first_cong p q i (suc n) f =
    let h : p i ≡ q i = f i (omega arith) (omega arith) in
    let r : first_where p (i + 1) n ≡ first_where q (i + 1) n = first_cong p q (i + 1) n (λ (j : ℕ) (a : i + 1 ≤ j) (b : j < i + 1 + n). f j (omega arith) (omega arith)) in
    rw (h, r)

-- the number of what was found, or 0, is a number of one of the places
zero_by : (p : ℕ → Bool) (n m : ℕ) (f : Option ℕ) → f ≡ first_where p 0 n → n ≤ m → 0 < m → or_zero f < m
zero_by p n m (Some k) e h z = omega (arith, (first_found p 0 n k (sym e)).below)
zero_by p n m None e h z = z

pub or_zero_below : (p : ℕ → Bool) (n m : ℕ) → n ≤ m → 0 < m → or_zero (first_where p 0 n) < m
or_zero_below p n m h z = zero_by p n m (first_where p 0 n) refl h z

------ more places

pick_else : (b : Bool) (i : ℕ) (c d : Option ℕ) → pick_found b (Some i) (or_else c d) ≡ or_else (pick_found b (Some i) c) d
pick_else true i c d = refl
pick_else false i c d = refl

-- m places from i on, and the n after them
pub first_split : (p : ℕ → Bool) (i m n : ℕ) → first_where p i (m + n) ≡ or_else (first_where p i m) (first_where p (i + m) n)
unfolding first_where
first_split p i zero n =
    let e : 0 + n ≡ n = omega arith in
    let d : i + 0 ≡ i = omega arith in
    rw (e, d)
first_split p i (suc m) n =
    let e : suc m + n ≡ suc (m + n) = omega arith in
    let d : i + suc m ≡ i + 1 + m = omega arith in
    rw (e, d, first_split p (i + 1) m n) (pick_else (p i) i (first_where p (i + 1) m) (first_where p (i + 1 + m) n))

-- m places passed at once, by a search g of their own, in a loop that goes from i to n
module _ (p : ℕ → Bool) (n i m : ℕ) (f g : Option ℕ) (so_far : f ≡ first_where p i (n - i)) (part : g ≡ first_where p i m) (h : i + m ≤ n) where
  split : f ≡ or_else g (first_where p (i + m) (n - (i + m)))
  split = let e : n - i ≡ m + (n - (i + m)) = omega arith in so_far ∙ rw (e, part) (first_split p i m (n - (i + m)))

  pub first_keep : (k : ℕ) → g ≡ Some k → Some k ≡ f
  first_keep k e = sym (split ∙ rw e)

  pub first_skip : g ≡ None → f ≡ first_where p (i + m) (n - (i + m))
  first_skip e = split ∙ rw e

one_place : (p : ℕ → Bool) (j : ℕ) → first_where p j 1 ≡ pick_found (p j) (Some j) None
unfolding first_where
one_place p j = refl

-- one place more
pub first_suc : (p : ℕ → Bool) (i n : ℕ) → first_where p i (n + 1) ≡ or_else (first_where p i n) (pick_found (p (i + n)) (Some (i + n)) None)
first_suc p i n = first_split p i n 1 ∙ ap (or_else (first_where p i n)) (one_place p (i + n))

pub else_any : (a : Option ℕ) (b : Bool) (k : ℕ) → is_at (or_else a (pick_found b (Some k) None)) ≡ is_at a || b
else_any (Some j) b k = refl
else_any None true k = refl
else_any None false k = refl

pub any_suc : (p : ℕ → Bool) (i n : ℕ) → is_at (first_where p i (n + 1)) ≡ is_at (first_where p i n) || p (i + n)
any_suc p i n = rw (first_suc p i n) (else_any (first_where p i n) (p (i + n)) (i + n))

-- something is found where p holds at one of the places
any_by : (p : ℕ → Bool) (i n k : ℕ) (f : Option ℕ) → first_where p i n ≡ f → i ≤ k → k < i + n → p k ≡ true → is_at f ≡ true
any_by p i n k (Some j) e a b h = refl
any_by p i n k None e a b h = sym (first_nothing p i n k e a b) ∙ h

pub any_of : (p : ℕ → Bool) (i n k : ℕ) → i ≤ k → k < i + n → p k ≡ true → is_at (first_where p i n) ≡ true
any_of p i n k a b h = any_by p i n k (first_where p i n) refl a b h
