-- Ascending lists of the numbers that have a property, and the next such number, for any property. Assumes nothing.
use Rattle.std.specs.Prelude.{◌≡◌, refl, Bool, true, false, cond, List, [], ◌∷◌, ◌++◌, ℕ, zero, suc, ◌+◌, ◌-◌, ◌≤◌, ◌<◌, length, get_or, drop, set}
use Rattle.std.proofs.Common.{sym, ap, ap₂, ◌∙◌, subst, append_assoc, append-nil, ⊎_elim, not-suc-le-zero, le_of_suc-le-suc, le_refl, eq-or-lt_of_le, arith, length-append, drop_of_length-le, drop-cons, take_all}
use Rattle.std.proofs.Math.ListN.{get_or-append}
use Rattle.std.proofs.Math.Seq.{append_snoc, take-nil}
use Rattle.std.proofs.lemmas.List.{get_or_at, set_at, take-append-le}
use Rattle.bitset.specs.Cases.{false_or_true}
use Rattle.bitset.specs.Sets.{count_below, members, next_from, placed}
use Rattle.bitset.specs.Counts.{None}

-- ── Ascending lists ──

pub members_same : (p q : ℕ → Bool) (m : ℕ) → ((n : ℕ) → n < m → p n ≡ q n) → members p m ≡ members q m
unfolding members
members_same p q zero h = refl
members_same p q (suc m) h =
    ap₂ (λ (l : List ℕ) (b : Bool). l ++ cond b (m ∷ []) []) (members_same p q m (λ n l. h n (omega arith))) (h m (le_refl (suc m)))

pub members_length : (p : ℕ → Bool) (m : ℕ) → length (members p m) ≡ count_below p m
unfolding members count_below
members_length p zero = refl
members_length p (suc m) = length-append (members p m) (cond (p m) (m ∷ []) []) ∙ ap₂ (λ (a b : ℕ). a + b) (members_length p m) (by (p m))
  where
    by : (b : Bool) → length (cond b (m ∷ []) []) ≡ cond b 1 0
    by true = refl
    by false = refl

members_none : (p : ℕ → Bool) (m : ℕ) → p m ≡ false → members p (suc m) ≡ members p m
unfolding members
members_none p m e = rw e (append-nil (members p m))

pub members_one : (p : ℕ → Bool) (m : ℕ) → p m ≡ true → members p (suc m) ≡ members p m ++ (m ∷ [])
unfolding members
members_one p m e = rw e

-- the list below a begins the list below b
pub members_begin : (p : ℕ → Bool) (a b : ℕ) → a ≤ b → (l : List ℕ) × (members p b ≡ members p a ++ l)
members_begin p a zero h = let e : a ≡ 0 = omega arith in ([], rw e (sym (append-nil (members p 0))))
members_begin p a (suc b) h =
    ⊎_elim
    (λ (e : a ≡ suc b). ([], rw e (sym (append-nil (members p (suc b))))))
    (λ (l : a < suc b).
    let r = members_begin p a b (le_of_suc-le-suc l) in
    ⊎_elim
    (λ (f : p b ≡ false). (r.0, members_none p b f ∙ r.1))
    (λ (t : p b ≡ true).
    (r.0 ++ (b ∷ []), members_one p b t ∙ ap (λ (l : List ℕ). l ++ (b ∷ [])) r.1 ∙ append_assoc (members p a) r.0 (b ∷ [])))
    (false_or_true (p b)))
    (eq-or-lt_of_le h)

-- numbers that lack p add nothing
pub members_more : (p : ℕ → Bool) (a b : ℕ) → a ≤ b → None p a b → members p b ≡ members p a
members_more p a zero h none = let e : a ≡ 0 = omega arith in rw e
members_more p a (suc b) h none =
    ⊎_elim
    (λ (e : a ≡ suc b). rw e)
    (λ (l : a < suc b).
    members_none p b (none b (le_of_suc-le-suc l) (le_refl (suc b)))
    ∙ members_more p a b (le_of_suc-le-suc l) (λ n g k. none n g (omega arith)))
    (eq-or-lt_of_le h)

-- a number n that has p stands where those below it have been counted
pub members_at : (p : ℕ → Bool) (m n : ℕ) → n < m → p n ≡ true → get_or (members p m) (count_below p n) 0 ≡ n
members_at p m n l t =
    let r = members_begin p (suc n) m l in
    let e : members p m ≡ members p n ++ (n ∷ r.0) =
    r.1 ∙ ap (λ (k : List ℕ). k ++ r.0) (members_one p n t) ∙ append_assoc (members p n) (n ∷ []) r.0 in
    ap (λ (k : List ℕ). get_or k (count_below p n) 0) e ∙ get_or_at (members p n) n r.0 0 (count_below p n) (members_length p n)

-- what stands in the list has p and is below m
pub members_have : (p : ℕ → Bool) (m i : ℕ) → i < length (members p m) → (get_or (members p m) i 0 < m) × (p (get_or (members p m) i 0) ≡ true)
unfolding members
members_have p zero i h = absurd (not-suc-le-zero h)
members_have p (suc m) i h =
    ⊎_elim
    (λ (f : p m ≡ false).
    let e = members_none p m f in
    let r = members_have p m i (subst (λ (l : List ℕ). i < length l) e h) in
    rw e (omega (arith, r.0), r.1))
    (λ (t : p m ≡ true).
    let e = members_one p m t in
    let n = length (members p m) in
    let h' : i < n + 1 = subst (λ (k : ℕ). i < k) (ap length e ∙ length-append (members p m) (m ∷ [])) h in
    ⊎_elim
    (λ (last : i ≡ n).
    let v : get_or (members p (suc m)) i 0 ≡ m = ap (λ (l : List ℕ). get_or l i 0) e ∙ get_or_at (members p m) m [] 0 i (sym last) in
    (omega arith, ap p v ∙ t))
    (λ (l : i < n).
    let r = members_have p m i l in
    let v : get_or (members p (suc m)) i 0 ≡ get_or (members p m) i 0 = ap (λ (k : List ℕ). get_or k i 0) e ∙ get_or-append (members p m) (m ∷ []) 0 i l in
    (omega (arith, r.0), ap p v ∙ r.1))
    (eq-or-lt_of_le (omega arith)))
    (false_or_true (p m))

-- the list ascends
pub members_ascend : (p : ℕ → Bool) (m i j : ℕ) → i < j → j < length (members p m) → get_or (members p m) i 0 < get_or (members p m) j 0
unfolding members
members_ascend p zero i j o h = absurd (not-suc-le-zero h)
members_ascend p (suc m) i j o h =
    ⊎_elim
    (λ (f : p m ≡ false).
    let e = members_none p m f in
    rw e (members_ascend p m i j o (subst (λ (l : List ℕ). j < length l) e h)))
    (λ (t : p m ≡ true).
    let e = members_one p m t in
    let n = length (members p m) in
    let h' : j < n + 1 = subst (λ (k : ℕ). j < k) (ap length e ∙ length-append (members p m) (m ∷ [])) h in
    let i-in : i < n = omega arith in
    let v : get_or (members p (suc m)) i 0 ≡ get_or (members p m) i 0 =
    ap (λ (k : List ℕ). get_or k i 0) e ∙ get_or-append (members p m) (m ∷ []) 0 i i-in in
    ⊎_elim
    (λ (last : j ≡ n).
    let w : get_or (members p (suc m)) j 0 ≡ m = ap (λ (l : List ℕ). get_or l j 0) e ∙ get_or_at (members p m) m [] 0 j (sym last) in
    omega (arith, (members_have p m i i-in).0))
    (λ (l : j < n).
    let w : get_or (members p (suc m)) j 0 ≡ get_or (members p m) j 0 =
    ap (λ (k : List ℕ). get_or k j 0) e ∙ get_or-append (members p m) (m ∷ []) 0 j l in
    omega (arith, members_ascend p m i j o l))
    (eq-or-lt_of_le (omega arith)))
    (false_or_true (p m))

-- ── The next number that has p ──

-- r is the first number from `from` on that has p, or the end where none below the end has.
pub record IsNext (p : ℕ → Bool) (from end r : ℕ) : Type 0 where
  pub start : from ≤ r
  pub stop : r ≤ end
  pub none : None p from r
  pub here : r < end → p r ≡ true

next_one : (p : ℕ → Bool) (k n r : ℕ) → IsNext p n (n + k) r → r ≡ next_from p n k
unfolding next_from
next_one p zero n r i = let a = i.start in let b = i.stop in omega arith
next_one p (suc k) n r i =
    let a = i.start in
    ⊎_elim
    (λ (e : n ≡ r). let t : p n ≡ true = ap p e ∙ i.here (omega arith) in rw t (sym e))
    (λ (l : n < r).
    let f : p n ≡ false = i.none n (le_refl n) l in
    let shift : n + suc k ≡ (n + 1) + k = omega arith in
    rw f
    (next_one p k (n + 1) r record {
      start = omega arith;
      stop = rw (sym shift) i.stop;
      none = λ m g b. i.none m (omega arith) b;
      here = λ g. i.here (omega arith);
    }))
    (eq-or-lt_of_le a)

pub next_is : (p : ℕ → Bool) (from end r : ℕ) → from ≤ end → IsNext p from end r → r ≡ next_from p from (end - from)
next_is p from end r h i = let e : end ≡ from + (end - from) = omega arith in next_one p (end - from) from r (rw (sym e) i)

pub next_past : (p : ℕ → Bool) (from end : ℕ) → end ≤ from → from ≡ next_from p from (end - from)
unfolding next_from
next_past p from end h = let e : end - from ≡ 0 = omega arith in rw e

next_of : (p : ℕ → Bool) (k n : ℕ) → IsNext p n (n + k) (next_from p n k)
unfolding next_from
next_of p zero n = record { start = le_refl n; stop = omega arith; none = λ m g b. absurd (omega arith); here = λ g. absurd (omega arith) }
next_of p (suc k) n =
    ⊎_elim
    (λ (f : p n ≡ false).
    let rest = next_of p k (n + 1) in
    let a = rest.start in
    let b = rest.stop in
    rw f
    record {
      start = omega arith;
      stop = omega arith;
      none = λ m g l. ⊎_elim (λ (e : n ≡ m). ap p (sym e) ∙ f) (λ (h : n < m). rest.none m (omega arith) l) (eq-or-lt_of_le g);
      here = λ g. rest.here (omega arith);
    })
    (λ (t : p n ≡ true). rw t record { start = le_refl n; stop = omega arith; none = λ m g l. absurd (omega arith); here = λ g. t })
    (false_or_true (p n))

pub next_has : (p : ℕ → Bool) (from end : ℕ) → from ≤ end → IsNext p from end (next_from p from (end - from))
next_has p from end h = let e : end ≡ from + (end - from) = omega arith in subst (λ (x : ℕ). IsNext p from x (next_from p from (end - from))) (sym e) (next_of p (end - from) from)

-- ── A list put into another ──

placed_fits : (xs out : List ℕ) → length xs ≤ length out → placed xs out ≡ xs ++ drop (length xs) out
placed_fits xs out h = ap (λ (l : List ℕ). l ++ drop (length xs) out) (take_all (length out) xs h)

pub placed_none : (out : List ℕ) → out ≡ placed [] out
placed_none out = sym (ap (λ (l : List ℕ). l ++ out) (take-nil (length out)))

pub placed_one : (xs out : List ℕ) (v : ℕ) → length xs < length out → set (placed xs out) (length xs) v ≡ placed (xs ++ (v ∷ [])) out
placed_one xs out v h =
    let n = length xs in
    let more : length (xs ++ (v ∷ [])) ≡ suc n = length-append xs (v ∷ []) ∙ omega arith in
    ap (λ (l : List ℕ). set l n v) (placed_fits xs out (omega arith) ∙ ap (λ (l : List ℕ). xs ++ l) (drop-cons out n 0 h))
    ∙ set_at xs (get_or out n 0) (drop (suc n) out) v n refl
    ∙ sym (append_snoc xs v (drop (suc n) out))
    ∙ ap (λ (k : ℕ). (xs ++ (v ∷ [])) ++ drop k out) (sym more)
    ∙ sym (placed_fits (xs ++ (v ∷ [])) out (omega arith))

-- once out is full
pub placed_full : (xs ys out : List ℕ) → length xs ≡ length out → placed (xs ++ ys) out ≡ placed xs out
placed_full xs ys out e =
    ap₂ (λ (a b : List ℕ). a ++ b) (take-append-le (length out) xs ys (omega arith))
    (drop_of_length-le out {i = length (xs ++ ys)} (omega (arith, length-append xs ys)) ∙ sym (drop_of_length-le out {i = length xs} (omega arith)))
