-- The columns of a part stand apart, so a part that fits its columns still fits them after a fitting change of one.
use Prim.Native.Nat.{ℕ, zero, suc, ◌+◌, ◌≤◌, ◌<◌}
use Rattle.std.specs.Prelude.{◌≡◌, refl, ◌≢◌, ◌⊎◌, Bool, true, false, ◌||◌, List, [], ◌∷◌, length, get_or, set, eqb, leb, ltb}
use Rattle.std.proofs.Common.{subst, inl, inr, ⊎_elim, get_or-set_same, get_or-set_other, eqb-true, leb-true, ltb-true, ltb-false}
use native.Mathlib.Omega.{arith}
use Rattle.std.proofs.Math.ListN.{get_or-eq_default}
use Rattle.std.proofs.Math.Seq.{set_out}
use Rattle.std.proofs.lemmas.Bool.{eqb-false}
use Rattle.cells.specs.Cells.{every, row_put}
use Rattle.cells.specs.Every.{every_at}
use Rattle.store.specs.Sound.{Column, nodes_columns, links_columns, Within}
use Rattle.store.specs.Facts.{the, no_column, AllFit}
use Rattle.store.specs.declared.sound.Counts.{Counts}

------ columns stand apart

-- no cell is in two columns
abbrev pub Apart : List Column → Type 0
Apart cs = (k m i j : ℕ) → i < (the cs k).size → j < (the cs m).size → (the cs k).start + i ≡ (the cs m).start + j → k ≡ m

-- a test of it
apart : Column → Column → Bool
apart a b = leb (a.start + a.size) b.start || leb (b.start + b.size) a.start

spread : List Column → ℕ → Bool
spread cs n = every (λ k. every (λ m. eqb k m || apart (the cs k) (the cs m)) n) n

one_of : (a b : Bool) → a || b ≡ true → (a ≡ true) ⊎ (b ≡ true)
one_of true b e = inl refl
one_of false b e = inr e

apart_cells : (a b : Column) (i j : ℕ) → apart a b ≡ true → i < a.size → j < b.size → a.start + i ≢ b.start + j
unfolding apart
apart_cells a b i j e h l q =
    ⊎_elim
    (λ (w : leb (a.start + a.size) b.start ≡ true). omega (arith, leb-true (a.start + a.size) b.start w))
    (λ (w : leb (b.start + b.size) a.start ≡ true). omega (arith, leb-true (b.start + b.size) a.start w))
    (one_of _ _ e)

-- a column that has a cell is one of the list
listed_by : (cs : List Column) (k i : ℕ) (b : Bool) → ltb k (length cs) ≡ b → i < (the cs k).size → k < length cs
listed_by cs k i true e h = ltb-true _ _ e
listed_by cs k i false e h =
    let z : the cs k ≡ no_column = get_or-eq_default cs no_column (ltb-false k (length cs) e) in
    let y : i < 0 = subst (λ (c : Column). i < c.size) z h in
    absurd (omega arith)

spread_apart : (cs : List Column) → spread cs (length cs) ≡ true → Apart cs
unfolding spread
spread_apart cs e k m i j h l q =
    let a = listed_by cs k i _ refl h in
    let b = listed_by cs m j _ refl l in
    let f = every_at _ (length cs) m (every_at _ (length cs) k e a) b in
    ⊎_elim
    (λ (w : eqb k m ≡ true). eqb-true k m w)
    (λ (w : apart (the cs k) (the cs m) ≡ true). absurd (apart_cells (the cs k) (the cs m) i j w h l q))
    (one_of _ _ f)

pub nodes_apart : (u : Counts) → Apart (nodes_columns u)
unfolding nodes_columns spread apart every
nodes_apart u = spread_apart (nodes_columns u) refl

pub links_apart : (u : Counts) → Apart (links_columns u)
unfolding links_columns spread apart every
links_apart u = spread_apart (links_columns u) refl

------ a part still fits its columns

-- by whether the cell read is the cell put, and whether the part has it
below_by : (s : List ℕ) (k v j b : ℕ) (here inside : Bool) → eqb j k ≡ here → ltb k (length s) ≡ inside → (j ≡ k → v < b) → get_or s j 0 < b → get_or (set s k v) j 0 < b
below_by s k v j b false inside e d f h = rw (get_or-set_other s k j v 0 (eqb-false j k e)) h
below_by s k v j b true true e d f h =
    let w : j ≡ k = eqb-true j k e in
    rw (w, get_or-set_same s k v 0 (ltb-true k (length s) d)) (f w)
below_by s k v j b true false e d f h = rw (set_out s k v (ltb-false k (length s) d)) h

module _ (cs : List Column) (a : Apart cs) (inside : (k : ℕ) → (the cs k).in_use ≤ (the cs k).size) (m : ℕ) where
  -- a cell in use that is put at place j of column m
  bounded : (j v : ℕ) → j < (the cs m).size → (j < (the cs m).in_use → v < (the cs m).bound j) → (k i : ℕ) → i < (the cs k).in_use → (the cs k).start + i ≡ (the cs m).start + j → v < (the cs k).bound i
  bounded j v l g k i h e =
      let q : k ≡ m = a k m i j (omega (arith, inside k)) l e in
      let same : i < (the cs m).in_use = rw q at h in
      let p : i ≡ j = omega (arith, rw q at e) in
      rw (q, p) (g (rw p at same))

  pub put_fits : (s : List ℕ) (j v : ℕ) → j < (the cs m).size → (j < (the cs m).in_use → v < (the cs m).bound j) → AllFit s cs → AllFit (set s ((the cs m).start + j) v) cs
  put_fits s j v l g f k i h = below_by s ((the cs m).start + j) v ((the cs k).start + i) ((the cs k).bound i) _ _ refl refl (bounded j v l g k i h) (f k i h)

  pub row_fits : (s : List ℕ) (j : ℕ) (x : ℕ → ℕ) (n : ℕ) → j + n ≤ (the cs m).size → ((i : ℕ) → i < n → j + i < (the cs m).in_use → x i < (the cs m).bound (j + i)) → AllFit s cs → AllFit (row_put s ((the cs m).start + j) x n) cs
  unfolding row_put
  row_fits s j x zero l g f = f
  row_fits s j x (suc n) l g f =
      let e : (the cs m).start + j + n ≡ (the cs m).start + (j + n) = omega arith in
      rw e (put_fits (row_put s ((the cs m).start + j) x n) (j + n) (x n) (omega arith) (g n (omega arith)) (row_fits s j x n (omega arith) (λ (i : ℕ) (h : i < n). g i (omega arith)) f))

------ facts of each column of a list

-- P of each
unfoldable pub Each : (Column → Type 0) → List Column → Type 0
Each P [] = Unit {0}
Each P (c ∷ cs) = P c × Each P cs

pub each : (P : Column → Type 0) (cs : List Column) → P no_column → Each P cs → (k : ℕ) → P (the cs k)
unfolding Each
each P [] z e k = z
each P (c ∷ cs) z e zero = e.0
each P (c ∷ cs) z e (suc k) = each P cs z e.1 k

-- no column is in use past its end
abbrev pub Inside : Column → Type 0
Inside c = c.in_use ≤ c.size

pub nodes_inside : (u : Counts) → Within u → (k : ℕ) → Inside (the (nodes_columns u) k)
unfolding nodes_columns Each
nodes_inside u w = each Inside (nodes_columns u) (omega arith) (omega arith)

pub links_inside : (u : Counts) → Within u → (k : ℕ) → Inside (the (links_columns u) k)
unfolding links_columns Each
links_inside u w = each Inside (links_columns u) (omega arith) (omega arith)
