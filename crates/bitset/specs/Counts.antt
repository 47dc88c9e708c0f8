-- Counts of the numbers that have a property, for any property. Assumes nothing.
use Rattle.std.specs.Prelude.{◌≡◌, refl, Bool, true, false, cond, ◌&&◌, ◌||◌, ℕ, zero, suc, ◌+◌, ◌-◌, ◌≤◌, ◌<◌}
use Rattle.std.proofs.Common.{sym, ap, ap₂, ◌∙◌, ⊎_elim, not-suc-le-zero, le_of_suc-le-suc, le_refl, add-zero, add-suc, add_assoc, eq-or-lt_of_le, arith}
use Rattle.std.proofs.lemmas.Bool.{false≢true}
use Rattle.bitset.specs.Cases.{lt_or_le}
use Rattle.bitset.specs.Sets.{count_below}

-- No number from a on and below b has p.
abbrev pub None : (ℕ → Bool) → ℕ → ℕ → Type 0
None p a b = (n : ℕ) → a ≤ n → n < b → p n ≡ false

pub none_here : (p : ℕ → Bool) (a b : ℕ) → b ≤ a → None p a b
none_here p a b h n g l = absurd (omega arith)

pub none_add : (p : ℕ → Bool) (a b c : ℕ) → None p a b → None p b c → None p a c
none_add p a b c f g n h l = ⊎_elim (λ (k : n < b). f n h k) (λ (k : b ≤ n). g n k l) (lt_or_le n b)

-- ── Counts ──

pub count_zero : (p : ℕ → Bool) → count_below p 0 ≡ 0
unfolding count_below
count_zero p = refl

-- equal properties have equal counts
pub count_same : (p q : ℕ → Bool) (m : ℕ) → ((n : ℕ) → n < m → p n ≡ q n) → count_below p m ≡ count_below q m
unfolding count_below
count_same p q zero h = refl
count_same p q (suc m) h =
    ap₂ (λ (a : ℕ) (b : Bool). a + cond b 1 0) (count_same p q m (λ n l. h n (le_suc_of l))) (h m (le_refl (suc m)))
  where
    le_suc_of : {n m : ℕ} → n < m → n < suc m
    le_suc_of l = omega arith

pub count_le : (p : ℕ → Bool) (m : ℕ) → count_below p m ≤ m
unfolding count_below
count_le p zero = le_refl 0
count_le p (suc m) = by (p m) (count_le p m)
  where
    by : (b : Bool) → count_below p m ≤ m → count_below p m + cond b 1 0 ≤ suc m
    by true h = omega arith
    by false h = omega arith

-- the numbers below a, and those of the b numbers after them
pub count_add : (p : ℕ → Bool) (a b : ℕ) → count_below p (a + b) ≡ count_below p a + count_below (λ n. p (a + n)) b
unfolding count_below
count_add p a zero = ap (count_below p) (add-zero a) ∙ sym (add-zero (count_below p a))
count_add p a (suc b) =
    ap (count_below p) (add-suc a b) ∙ ap (λ (n : ℕ). n + cond (p (a + b)) 1 0) (count_add p a b)
    ∙ add_assoc (count_below p a) (count_below (λ n. p (a + n)) b) (cond (p (a + b)) 1 0)

pub count_none : (p : ℕ → Bool) (m : ℕ) → None p 0 m → count_below p m ≡ 0
unfolding count_below
count_none p zero h = refl
count_none p (suc m) h =
    let e : count_below p m ≡ 0 = count_none p m (λ n a b. h n a (omega arith)) in
    let f : p m ≡ false = h m (omega arith) (le_refl (suc m)) in
    rw (e, f)

-- numbers that lack p add nothing
pub count_more : (p : ℕ → Bool) (a b : ℕ) → a ≤ b → None p a b → count_below p b ≡ count_below p a
count_more p a b h none =
    let e : b ≡ a + (b - a) = omega arith in
    ap (count_below p) e ∙ count_add p a (b - a)
    ∙ ap (λ (n : ℕ). count_below p a + n) (count_none (λ n. p (a + n)) (b - a) (λ n l k. none (a + n) (omega arith) (omega arith)))
    ∙ add-zero (count_below p a)

-- where two properties agree between a and b, they gain as much there
pub count_between : (p q : ℕ → Bool) (a b : ℕ) → a ≤ b → ((n : ℕ) → a ≤ n → n < b → p n ≡ q n)
    → count_below p b + count_below q a ≡ count_below q b + count_below p a
count_between p q a b h same =
    let e : b ≡ a + (b - a) = omega arith in
    let gain : count_below (λ n. p (a + n)) (b - a) ≡ count_below (λ n. q (a + n)) (b - a) =
    count_same (λ n. p (a + n)) (λ n. q (a + n)) (b - a) (λ n l. same (a + n) (omega arith) (omega arith)) in
    let p-all : count_below p b ≡ count_below p a + count_below (λ n. p (a + n)) (b - a) = ap (count_below p) e ∙ count_add p a (b - a) in
    let q-all : count_below q b ≡ count_below q a + count_below (λ n. q (a + n)) (b - a) = ap (count_below q) e ∙ count_add q a (b - a) in
    omega arith

pub counted_le : (p : ℕ → Bool) (m t : ℕ) → t ≡ count_below p m → t ≤ m
counted_le p m t e = omega (arith, count_le p m)

pub gained_le : (p : ℕ → Bool) (a b x : ℕ) → count_below p a + x ≡ count_below p b → x ≤ b
gained_le p a b x e = omega (arith, count_le p b)

pub count_mono : (p q : ℕ → Bool) (m : ℕ) → ((n : ℕ) → n < m → p n ≡ true → q n ≡ true) → count_below p m ≤ count_below q m
unfolding count_below
count_mono p q zero h = le_refl 0
count_mono p q (suc m) h = by (p m) (q m) (h m (le_refl (suc m))) (count_mono p q m (λ n l. h n (omega arith)))
  where
    by : (a b : Bool) → (a ≡ true → b ≡ true) → count_below p m ≤ count_below q m → count_below p m + cond a 1 0 ≤ count_below q m + cond b 1 0
    by false b f h = omega arith
    by true true f h = omega arith
    by true false f h = absurd (false≢true (f refl))

-- what either has and what both have, together, are what each has
pub count_either_both : (p q : ℕ → Bool) (m : ℕ)
    → count_below (λ n. p n || q n) m + count_below (λ n. p n && q n) m ≡ count_below p m + count_below q m
unfolding count_below
count_either_both p q zero = refl
count_either_both p q (suc m) = by (p m) (q m) (count_either_both p q m)
  where
    by : (a b : Bool) → count_below (λ n. p n || q n) m + count_below (λ n. p n && q n) m ≡ count_below p m + count_below q m
        → (count_below (λ n. p n || q n) m + cond (a || b) 1 0) + (count_below (λ n. p n && q n) m + cond (a && b) 1 0)
        ≡ (count_below p m + cond a 1 0) + (count_below q m + cond b 1 0)
    by true true h = omega arith
    by true false h = omega arith
    by false true h = omega arith
    by false false h = omega arith

-- one number more has q than p
pub count_new : (p q : ℕ → Bool) (m n : ℕ) → n < m → p n ≡ false → q n ≡ true → ((k : ℕ) → (k ≡ n → ⊥) → q k ≡ p k)
    → count_below q m ≡ suc (count_below p m)
unfolding count_below
count_new p q zero n l f t same = absurd (not-suc-le-zero l)
count_new p q (suc m) n l f t same =
    ⊎_elim
    (λ (e : n ≡ m).
    let rest : count_below q m ≡ count_below p m = count_same q p m (λ k b. same k (λ g. omega arith)) in
    let f' : p m ≡ false = ap p (sym e) ∙ f in
    let t' : q m ≡ true = ap q (sym e) ∙ t in
    rw (rest, f', t') (omega arith))
    (λ (b : n < m).
    let rest : count_below q m ≡ suc (count_below p m) = count_new p q m n b f t same in
    let here : q m ≡ p m = same m (λ g. omega arith) in
    rw (rest, here) (omega arith))
    (eq-or-lt_of_le (le_of_suc-le-suc l))
