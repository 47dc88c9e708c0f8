-- Laws of rows: how a loop puts one, and what stands in the table afterwards.
use Rattle.std.specs.Prelude.{ℕ, zero, suc, ◌+◌, ◌≤◌, ◌<◌, ◌≡◌, refl, List, ◌≢◌, length, get_or, set}
use Rattle.std.proofs.Common.{ap, ◌∙◌, ⊎_elim, add-one, arith, length-set, get_or-set_same, get_or-set_other}
use Rattle.cells.specs.Cells.{row, row_put}
use Rattle.cells.specs.Every.{last_or}

------ a row that is read

pub row_length : (s : List ℕ) (at n : ℕ) → length (row s at n) ≡ n
unfolding row
row_length s at zero = refl
row_length s at (suc n) = ap suc (row_length s (at + 1) n)

pub row_at : (s : List ℕ) (at n i : ℕ) → i < n → get_or (row s at n) i 0 ≡ get_or s (at + i) 0
unfolding row
row_at s at zero i h = absurd (omega arith)
row_at s at (suc n) zero h = let e : at + 0 ≡ at = omega arith in rw e
row_at s at (suc n) (suc i) h =
    let e : at + suc i ≡ at + 1 + i = omega arith in
    rw e (row_at s (at + 1) n i (omega arith))

pub row_cong : (s t : List ℕ) (at n : ℕ) → ((i : ℕ) → i < n → get_or s (at + i) 0 ≡ get_or t (at + i) 0) → row s at n ≡ row t at n
unfolding row
row_cong s t at zero f = refl
row_cong s t at (suc n) f =
    let z : at + 0 ≡ at = omega arith in
    let a : get_or s at 0 ≡ get_or t at 0 = rw z at (f 0 (omega arith)) in
    let r : row s (at + 1) n ≡ row t (at + 1) n =
    row_cong s t (at + 1) n (λ (i : ℕ) (h : i < n). let e : at + suc i ≡ at + 1 + i = omega arith in rw e at (f (suc i) (omega arith))) in
    rw (a, r)

------ a loop that puts a row

pub put_start : {A : Type 0} (s : List A) (at : ℕ) (x : ℕ → A) → s ≡ row_put s at x 0
unfolding row_put
put_start s at x = refl

pub put_step : {A : Type 0} (s d : List A) (at : ℕ) (x : ℕ → A) (n : ℕ) → d ≡ row_put s at x n → set d (at + n) (x n) ≡ row_put s at x (n + 1)
unfolding row_put
put_step s d at x n e = rw (e, add-one)

pub put_end : {A : Type 0} (s d : List A) (at : ℕ) (x : ℕ → A) (n m : ℕ) → n ≤ m → m ≤ n → d ≡ row_put s at x n → d ≡ row_put s at x m
put_end s d at x n m h k e = let q : m ≡ n = omega arith in rw q e

-- what is put counts, and not how it is come by
pub put_cong : {A : Type 0} (s : List A) (at : ℕ) (x y : ℕ → A) (n : ℕ) → ((i : ℕ) → i < n → x i ≡ y i) → row_put s at x n ≡ row_put s at y n
unfolding row_put
put_cong s at x y zero f = refl
put_cong s at x y (suc n) f = rw (f n (omega arith), put_cong s at x y n (λ (i : ℕ) (h : i < n). f i (omega arith)))

------ the table afterwards

pub put_length : {A : Type 0} (s : List A) (at : ℕ) (x : ℕ → A) (n : ℕ) → length (row_put s at x n) ≡ length s
unfolding row_put
put_length s at x zero = refl
put_length s at x (suc n) = simp (length-set, put_length s at x n)

pub put_at : (s : List ℕ) (at : ℕ) (x : ℕ → ℕ) (n i : ℕ) → i < n → at + n ≤ length s → get_or (row_put s at x n) (at + i) 0 ≡ x i
unfolding row_put
put_at s at x zero i h l = absurd (omega arith)
put_at s at x (suc n) i h l =
    let m : at + n < length (row_put s at x n) = rw (put_length s at x n) (omega arith) in
    ⊎_elim
    (λ (w : i ≡ n). rw w (get_or-set_same (row_put s at x n) (at + n) (x n) 0 m))
    (λ (w : i < n).
    get_or-set_other (row_put s at x n) (at + n) (at + i) (x n) 0 (λ (y : at + i ≡ at + n). omega arith) ∙ put_at s at x n i w (omega arith))
    (last_or n i h)

pub put_other : (s : List ℕ) (at : ℕ) (x : ℕ → ℕ) (n j : ℕ) → ((i : ℕ) → i < n → j ≢ at + i) → get_or (row_put s at x n) j 0 ≡ get_or s j 0
unfolding row_put
put_other s at x zero j f = refl
put_other s at x (suc n) j f =
    get_or-set_other (row_put s at x n) (at + n) j (x n) 0 (f n (omega arith)) ∙ put_other s at x n j (λ (i : ℕ) (h : i < n). f i (omega arith))
