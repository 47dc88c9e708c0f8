-- What std's slices say of a table's cells: a part of a table, a write to one, `==` of two, and blocks of cells.
use Rattle.std.proofs.Common.{◌≡◌, ℕ, zero, suc, ◌+◌, ◌-◌, ◌*◌, ◌≤◌, ◌<◌, Bool, true, List, [], length, get_or, take, drop, eqb, ltb, ltb-true, ltb-false, refl, false, not, ◌/◌, sym, ap, ◌∙◌, arith, rules, ext_get_or, eqb-true, eq-eqb, length-take, length-drop}
use Rattle.std.proofs.lemmas.List.{places, get_or_default, get_or-take, get_or-drop}
use Rattle.std.proofs.lemmas.Bool.Decides.{Decides-eqb}
use borrow.Rule.Slice.PartMut.{put_mid}
use Rattle.std.proofs.lemmas.Slice.Eq.{slice_eq-Decides}
use Rattle.std.specs.Cmp.{both_ways}
use Rattle.std.specs.Cmp.Lexicographic.{pointwise}
use Rattle.std.specs.Simd.{first_chunks}
use Rattle.cells.specs.Cells.{every, row, row_put}
use Rattle.cells.specs.Every.{every_at, every_all, every_cong}
use Rattle.cells.specs.Rows.{row_length, row_at, put_length, put_at, put_other}

-- a cell of `&s[from..from + n]`
module _ {A : Type 0} (s : List A) (from n : ℕ) where
  pub part_cell : (i : ℕ) (d : A) → i < n → get_or (take (from + n - from) (drop from s)) i d ≡ get_or s (from + i) d
  part_cell i d h =
      let k : i < from + n - from = omega arith in
      get_or-take (from + n - from) (drop from s) i d k ∙ get_or-drop from s i d

  pub part_length : from + n ≤ length s → length (take (from + n - from) (drop from s)) ≡ n
  part_length h = omega (arith, length-take (from + n - from) (drop from s), length-drop from s)

  -- what a loop over the part reads
  pub part_read : (i : ℕ) (x d : A) → from + n ≤ length s → i < length (take (from + n - from) (drop from s)) → x ≡ get_or (take (from + n - from) (drop from s)) i x → x ≡ get_or s (from + i) d
  part_read i x d h k e =
      let m : i < n = omega (arith, part_length h) in
      e ∙ get_or_default (take (from + n - from) (drop from s)) i x d k ∙ part_cell i d m

-- the part is a row
pub part_row : (s : List ℕ) (from n : ℕ) → from + n ≤ length s → take (from + n - from) (drop from s) ≡ row s from n
part_row s from n h =
    let l : length (take (from + n - from) (drop from s)) ≡ n = part_length s from n h in
    ext_get_or 0 (take (from + n - from) (drop from s)) (row s from n) (l ∙ sym (row_length s from n))
    (λ (i : ℕ) (k : i < length (take (from + n - from) (drop from s))).
    let m : i < n = omega arith in
    part_cell s from n i 0 m ∙ sym (row_at s from n i m))

-- a row that is written to `s[at..at + n]`
pub part_put : (s : List ℕ) (at n : ℕ) (ys : List ℕ) (x : ℕ → ℕ) → at + n ≤ length s → length ys ≡ n → ((i : ℕ) → i < n → get_or ys i 0 ≡ x i) → put_mid at (at + n - at) s ys ≡ row_put s at x n
part_put s at n ys x h l f =
    let w : at + n - at ≡ n = omega arith in
    let e : length (put_mid at (at + n - at) s ys) ≡ length (row_put s at x n) = rw (put_length s at x n) (search (rules, places)) in
    ext_get_or 0 (put_mid at (at + n - at) s ys) (row_put s at x n) e
    (λ (i : ℕ) (k : i < length (put_mid at (at + n - at) s ys)). put_cell i (ltb i at) (ltb i (at + n)) refl refl)
  where
    put_cell : (i : ℕ) (b c : Bool) → ltb i at ≡ b → ltb i (at + n) ≡ c → get_or (put_mid at (at + n - at) s ys) i 0 ≡ get_or (row_put s at x n) i 0
    put_cell i true c p q =
        let m : i < at = ltb-true i at p in
        rw (put_other s at x n i (λ (j : ℕ) (l : j < n) (w : i ≡ at + j). omega arith)) (search (rules, places))
    put_cell i false true p q =
        let m : at ≤ i = ltb-false i at p in
        let o : i < at + n = ltb-true i (at + n) q in
        let w : at + (i - at) ≡ i = omega arith in
        let y : get_or (row_put s at x n) (at + (i - at)) 0 ≡ x (i - at) = put_at s at x n (i - at) (omega arith) h in
        let z : get_or ys (i - at) 0 ≡ x (i - at) = f (i - at) (omega arith) in
        let here : get_or (put_mid at (at + n - at) s ys) i 0 ≡ get_or ys (i - at) 0 = search (rules, places) in
        here ∙ z ∙ sym y ∙ rw w
    put_cell i false false p q =
        let m : at + n ≤ i = ltb-false i (at + n) q in
        rw (put_other s at x n i (λ (j : ℕ) (l : j < n) (w : i ≡ at + j). omega arith)) (search (rules, places))

-- `==` of two lists of n numbers
pub equal_cells : (xs ys : List ℕ) (n : ℕ) → length xs ≡ n → length ys ≡ n → (r : Bool) → r ≡ pointwise eqb xs ys → r ≡ every (λ i. eqb (get_or xs i 0) (get_or ys i 0)) n
equal_cells xs ys n a b r e =
    let d = slice_eq-Decides Decides-eqb xs ys r e in
    both_ways r (every (λ i. eqb (get_or xs i 0) (get_or ys i 0)) n)
    (λ (t : r ≡ true). every_all (λ i. eqb (get_or xs i 0) (get_or ys i 0)) n (λ (i : ℕ) (h : i < n). eq-eqb (get_or xs i 0) (get_or ys i 0) (ap (λ (z : List ℕ). get_or z i 0) (d.0 t))))
    (λ (t : every (λ i. eqb (get_or xs i 0) (get_or ys i 0)) n ≡ true).
    d.1 (ext_get_or 0 xs ys (a ∙ sym b) (λ (i : ℕ) (h : i < length xs). let k : i < n = omega arith in eqb-true (get_or xs i 0) (get_or ys i 0) (every_at (λ i. eqb (get_or xs i 0) (get_or ys i 0)) n i t k))))

-- a cell of one of k blocks of 64
pub block_cell : (k : ℕ) (s : List ℕ) (b i : ℕ) → b < k → i < 64 → get_or (get_or (first_chunks 64 k s) b []) i 0 ≡ get_or s (b * 64 + i) 0
block_cell zero s b i h m = absurd (omega arith)
block_cell (suc k) s zero i h m = let w : 0 * 64 + i ≡ i = omega arith in rw w (get_or-take 64 s i 0 m)
block_cell (suc k) s (suc b) i h m =
    let w : suc b * 64 + i ≡ 64 + (b * 64 + i) = omega arith in
    rw w (block_cell k (drop 64 s) b i (omega arith) m ∙ get_or-drop 64 s (b * 64 + i) 0)

-- whether a block of keys lacks one, of the table that the blocks are of
pub block_keys : (ks : List ℕ) (from n b key : ℕ) (blocks : List (List ℕ)) (lacks : Bool) → from + n ≤ length ks
    → blocks ≡ first_chunks 64 (length (take (from + n - from) (drop from ks)) / 64) (take (from + n - from) (drop from ks))
    → b < length (take (from + n - from) (drop from ks)) / 64
    → lacks ≡ every (λ i. not (eqb (get_or (get_or blocks b []) i 0) key)) 64
    → lacks ≡ every (λ i. not (eqb (get_or ks (from + b * 64 + i) 0) key)) 64
block_keys ks from n b key blocks lacks l e h q =
    let part : List ℕ = take (from + n - from) (drop from ks) in
    let long : length (take (from + n - from) (drop from ks)) ≡ n = part_length ks from n l in
    q ∙ every_cong (λ i. not (eqb (get_or (get_or blocks b []) i 0) key)) (λ i. not (eqb (get_or ks (from + b * 64 + i) 0) key)) 64
    (λ (i : ℕ) (k : i < 64).
    let w : from + (b * 64 + i) ≡ from + b * 64 + i = omega arith in
    let m : b * 64 + i < n = omega arith in
    let a : get_or (get_or blocks b []) i 0 ≡ get_or ks (from + b * 64 + i) 0 =
    rw (e, ← w) (block_cell (length (take (from + n - from) (drop from ks)) / 64) (take (from + n - from) (drop from ks)) b i h k ∙ part_cell ks from n (b * 64 + i) 0 m) in
    ap (λ (v : ℕ). not (eqb v key)) a)
