-- What holds of each number below n, by one test that is computed.
use Rattle.std.specs.Prelude.{◌≡◌, Bool, true, false, ◌&&◌, ℕ, zero, suc, ◌<◌, T, eqb}
use Rattle.std.proofs.Common.{sym, subst, ⊎_elim, not-suc-le-zero, le_of_suc-le-suc, eq-or-lt_of_le, eqb→eq}

abbrev pub each : ℕ → (ℕ → Bool) → Bool
each zero f = true
each (suc n) f = f n && each n f

left : (p q : Bool) → T (p && q) → T p
left true q t = tt
left false q t = t

right : (p q : Bool) → T (p && q) → T q
right true q t = t
right false q t = absurd t

pub each_at : (n : ℕ) (f : ℕ → Bool) → T (each n f) → (k : ℕ) → k < n → T (f k)
each_at zero f t k h = absurd (not-suc-le-zero h)
each_at (suc n) f t k h =
    ⊎_elim (λ (e : k ≡ n). subst (λ (m : ℕ). T (f m)) (sym e) (left (f n) (each n f) t))
    (λ (l : k < n). each_at n f (right (f n) (each n f) t) k l) (eq-or-lt_of_le (le_of_suc-le-suc h))

-- two functions that agree at each pair of numbers below m and n
pub agree : (m n : ℕ) (f g : ℕ → ℕ → ℕ) → T (each m (λ x. each n (λ y. eqb (f x y) (g x y)))) → (x y : ℕ) → x < m → y < n → f x y ≡ g x y
agree m n f g t x y hx hy =
    eqb→eq (f x y) (g x y) (each_at n (λ y. eqb (f x y) (g x y)) (each_at m (λ x. each n (λ y. eqb (f x y) (g x y))) t x hx) y hy)
