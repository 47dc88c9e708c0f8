-- Laws of ids and of tables of ids: `same_id` is an equivalence, the key and the rest together are the id, and what putting an id changes.
use Prim.Native.Nat.{ℕ, zero, suc, ◌+◌, ◌-◌, ◌*◌, ◌^◌, ◌≤◌, ◌<◌}
use Rattle.std.specs.Prelude.{◌≡◌, refl, Bool, true, false, ◌&&◌, ◌||◌, not, Some, None, List, ◌≢◌, length, set, take, eqb, ltb}
use Rattle.std.proofs.Common.{sym, ap, ◌∙◌, true≢false, zero-add, arith, length-append, get_or-append-add, get_or-take, ext_get_or, eqb-true, eq-eqb, ne_eqb, ltb-true, ltb-false}
use Rattle.std.proofs.Math.ListN.{get_or, length-set, get_or-append, get_or-eq_default}
use Rattle.std.proofs.Math.Seq.{get_or-set_same, get_or-set_other}
use Rattle.std.proofs.lemmas.Nat.{from_le_bytes-to_le_bytes_4}
use Rattle.std.proofs.lemmas.Bool.{eqb-false, not-true}
use Rattle.cells.specs.Cells.{every, first_where, pick_found, or_else, is_at, row, row_put, Id, Bytes, IsId, same_id, key_of, key_bytes, id_at, Places, keys_put, rests_put, same_rest, has_id, first_id}
use Rattle.std.specs.Cmp.{both_ways}
use Rattle.cells.specs.Every.{or_same, every_at, every_all, every_fails, every_cong, every_split}
use Rattle.cells.specs.First.{first_none, first_cong, first_suc, else_any}
use Rattle.cells.specs.Rows.{row_length, row_at, row_cong, put_length, put_at, put_other}

------ the same id

pub same_at : (x y : Id) (i : ℕ) → same_id x y ≡ true → i < 32 → get_or x i 0 ≡ get_or y i 0
unfolding same_id
same_at x y i e h = eqb-true (get_or x i 0) (get_or y i 0) (every_at (λ i. eqb (get_or x i 0) (get_or y i 0)) 32 i e h)

pub same_all : (x y : Id) → ((i : ℕ) → i < 32 → get_or x i 0 ≡ get_or y i 0) → same_id x y ≡ true
unfolding same_id
same_all x y f = every_all (λ i. eqb (get_or x i 0) (get_or y i 0)) 32 (λ (i : ℕ) (h : i < 32). eq-eqb (get_or x i 0) (get_or y i 0) (f i h))

pub differ_at : (x y : Id) (i : ℕ) → i < 32 → get_or x i 0 ≢ get_or y i 0 → same_id x y ≡ false
unfolding same_id
differ_at x y i h f = every_fails (λ i. eqb (get_or x i 0) (get_or y i 0)) 32 i h (ne_eqb (get_or x i 0) (get_or y i 0) f)

pub same_refl : (x : Id) → same_id x x ≡ true
same_refl x = same_all x x (λ (i : ℕ) (h : i < 32). refl)

pub same_trans : (x y z : Id) → same_id x y ≡ true → same_id y z ≡ true → same_id x z ≡ true
same_trans x y z e f = same_all x z (λ (i : ℕ) (h : i < 32). same_at x y i e h ∙ same_at y z i f h)

pub same_sym : (x y : Id) → same_id x y ≡ same_id y x
same_sym x y =
    both_ways (same_id x y) (same_id y x)
    (λ (e : same_id x y ≡ true). same_all y x (λ (i : ℕ) (h : i < 32). sym (same_at x y i e h)))
    (λ (e : same_id y x ≡ true). same_all x y (λ (i : ℕ) (h : i < 32). sym (same_at y x i e h)))

-- equal ids give equal tests, on either side
pub same_left : (x y z : Id) → same_id x y ≡ true → same_id x z ≡ same_id y z
same_left x y z e =
    both_ways (same_id x z) (same_id y z)
    (same_trans y x z (same_sym y x ∙ e))
    (same_trans x y z e)

pub same_right : (x y z : Id) → same_id x y ≡ true → same_id z x ≡ same_id z y
same_right x y z e = same_sym z x ∙ same_left x y z e ∙ same_sym y z

-- ids with the same bytes are one list, and ids that differ are two
pub same_eq : (x y : Id) → IsId x → IsId y → same_id x y ≡ true → x ≡ y
same_eq x y a b e = ext_get_or 0 x y (a.long ∙ sym b.long) (λ (i : ℕ) (h : i < length x). same_at x y i e (omega (arith, a.long)))

pub differs : (x y : Id) → same_id x y ≡ false → x ≢ y
differs x y e w =
    let d : same_id x y ≡ true = rw (← w) (same_refl x) in
    true≢false (sym d ∙ e)

------ the bytes of a key

-- a number by its lowest digits, and what is above them
pub four_digits : (k q1 q2 q3 d0 d1 d2 d3 : ℕ) → q1 * 256 + d0 ≡ k → q2 * 256 + d1 ≡ q1 → q3 * 256 + d2 ≡ q2 → q3 ≡ d3 → k ≡ d0 + d1 * 256 + d2 * 65536 + d3 * 16777216
four_digits k q1 q2 q3 d0 d1 d2 d3 e0 e1 e2 e3 = omega arith

module _ (x : Id) (b : Bytes x) where
  key_byte : (i : ℕ) → i < 4 → get_or (key_bytes (key_of x)) i 0 ≡ get_or x i 0
  unfolding key_of
  key_byte zero h = omega (arith, b 0, b 1, b 2, b 3)
  key_byte (suc zero) h = omega (arith, b 0, b 1, b 2, b 3)
  key_byte (suc (suc zero)) h = omega (arith, b 0, b 1, b 2, b 3)
  key_byte (suc (suc (suc zero))) h = omega (arith, b 0, b 1, b 2, b 3)
  key_byte (suc (suc (suc (suc i)))) h = absurd (omega arith)

  key_of_bytes : (k : ℕ) → k < 2 ^ 32 → ((i : ℕ) → i < 4 → get_or (key_bytes k) i 0 ≡ get_or x i 0) → k ≡ key_of x
  unfolding key_of
  key_of_bytes k l f =
      rw (← f 0 (omega arith), ← f 1 (omega arith), ← f 2 (omega arith), ← f 3 (omega arith)) (sym (from_le_bytes-to_le_bytes_4 k l))

  -- the four bytes are the same where the keys are
  key_same : (k : ℕ) → k < 2 ^ 32 → every (λ i. eqb (get_or (key_bytes k) i 0) (get_or x i 0)) 4 ≡ eqb k (key_of x)
  key_same k l =
      both_ways (every (λ i. eqb (get_or (key_bytes k) i 0) (get_or x i 0)) 4) (eqb k (key_of x))
      (λ (e : every (λ i. eqb (get_or (key_bytes k) i 0) (get_or x i 0)) 4 ≡ true).
      eq-eqb k (key_of x) (key_of_bytes k l (λ (i : ℕ) (h : i < 4). eqb-true (get_or (key_bytes k) i 0) (get_or x i 0) (every_at (λ i. eqb (get_or (key_bytes k) i 0) (get_or x i 0)) 4 i e h))))
      (λ (e : eqb k (key_of x) ≡ true).
      let w : k ≡ key_of x = eqb-true k (key_of x) e in
      every_all (λ i. eqb (get_or (key_bytes k) i 0) (get_or x i 0)) 4 (λ (i : ℕ) (h : i < 4). eq-eqb (get_or (key_bytes k) i 0) (get_or x i 0) (ap (λ (v : ℕ). get_or (key_bytes v) i 0) w ∙ key_byte i h)))

------ an id in its table

pub id_length : (ks rs : List ℕ) (p : ℕ) → length (id_at ks rs p) ≡ 32
unfolding id_at
id_length ks rs p = length-append (key_bytes (get_or ks p 0)) (row rs (p * 28) 28) ∙ rw (row_length rs (p * 28) 28)

id_head : (ks rs : List ℕ) (p i : ℕ) → i < 4 → get_or (id_at ks rs p) i 0 ≡ get_or (key_bytes (get_or ks p 0)) i 0
unfolding id_at
id_head ks rs p i h = get_or-append (key_bytes (get_or ks p 0)) (row rs (p * 28) 28) 0 i h

id_rest : (ks rs : List ℕ) (p i : ℕ) → i < 28 → get_or (id_at ks rs p) (4 + i) 0 ≡ get_or rs (p * 28 + i) 0
unfolding id_at
id_rest ks rs p i h = get_or-append-add (key_bytes (get_or ks p 0)) (row rs (p * 28) 28) i 0 ∙ row_at rs (p * 28) 28 i h

key_small : (k i : ℕ) → get_or (key_bytes k) i 0 < 256
key_small k zero = omega arith
key_small k (suc zero) = omega arith
key_small k (suc (suc zero)) = omega arith
key_small k (suc (suc (suc zero))) = omega arith
key_small k (suc (suc (suc (suc i)))) = omega arith

-- by whether byte i is one of the key's, and whether it is one at all
id_byte : (ks rs : List ℕ) (p i : ℕ) → Bytes rs → (t u : Bool) → ltb i 4 ≡ t → ltb i 32 ≡ u → get_or (id_at ks rs p) i 0 < 256
id_byte ks rs p i b true u e d = rw (id_head ks rs p i (ltb-true i 4 e)) (key_small (get_or ks p 0) i)
id_byte ks rs p i b false true e d =
    let l : 4 ≤ i = ltb-false i 4 e in
    let h : i < 32 = ltb-true i 32 d in
    let w : 4 + (i - 4) ≡ i = omega arith in
    rw (← w, id_rest ks rs p (i - 4) (omega arith)) (b (p * 28 + (i - 4)))
id_byte ks rs p i b false false e d =
    let h : 32 ≤ i = ltb-false i 32 d in
    rw (get_or-eq_default (id_at ks rs p) 0 {n = i} (omega (arith, id_length ks rs p))) (omega arith)

-- what stands in a table of bytes is an id
pub id_is : (ks rs : List ℕ) (p : ℕ) → Bytes rs → IsId (id_at ks rs p)
id_is ks rs p b = record { long = id_length ks rs p; bytes = λ (i : ℕ). id_byte ks rs p i b (ltb i 4) (ltb i 32) refl refl }

-- an id that is put together: four bytes of the key first, then the 28 of the rest
module _ (ks rs : List ℕ) (p : ℕ) (s : List ℕ) (long : length s ≡ 32) (head : take 4 s ≡ key_bytes (get_or ks p 0)) where
  made_byte : (i : ℕ) (b : Bool) → ltb i 4 ≡ b → i < 32 → get_or (row_put s 4 (λ i. get_or rs (p * 28 + i) 0) 28) i 0 ≡ get_or (id_at ks rs p) i 0
  made_byte i true e h =
      let l : i < 4 = ltb-true i 4 e in
      put_other s 4 (λ i. get_or rs (p * 28 + i) 0) 28 i (λ (j : ℕ) (k : j < 28) (w : i ≡ 4 + j). omega arith)
      ∙ sym (get_or-take 4 s i 0 l) ∙ ap (λ (t : List ℕ). get_or t i 0) head ∙ sym (id_head ks rs p i l)
  made_byte i false e h =
      let l : 4 ≤ i = ltb-false i 4 e in
      let w : 4 + (i - 4) ≡ i = omega arith in
      rw (← w) (put_at s 4 (λ i. get_or rs (p * 28 + i) 0) 28 (i - 4) (omega arith) (omega (arith, long)) ∙ sym (id_rest ks rs p (i - 4) (omega arith)))

  pub id_made : row_put s 4 (λ i. get_or rs (p * 28 + i) 0) 28 ≡ id_at ks rs p
  id_made =
      let l : length (row_put s 4 (λ i. get_or rs (p * 28 + i) 0) 28) ≡ 32 = put_length s 4 (λ i. get_or rs (p * 28 + i) 0) 28 ∙ long in
      ext_get_or 0 (row_put s 4 (λ i. get_or rs (p * 28 + i) 0) 28) (id_at ks rs p) (l ∙ sym (id_length ks rs p))
      (λ (i : ℕ) (h : i < length (row_put s 4 (λ i. get_or rs (p * 28 + i) 0) 28)). made_byte i (ltb i 4) refl (omega arith))

------ comparing the key and then the rest is comparing the id

pub id_by_key : (ks rs : List ℕ) (p : ℕ) (x : Id) → get_or ks p 0 < 2 ^ 32 → Bytes x → same_id (id_at ks rs p) x ≡ eqb (get_or ks p 0) (key_of x) && same_rest rs (p * 28) x
unfolding same_id same_rest
id_by_key ks rs p x l b =
    every_split (λ i. eqb (get_or (id_at ks rs p) i 0) (get_or x i 0)) 4 28
    ∙ ap (λ (t : Bool). t && every (λ i. eqb (get_or (id_at ks rs p) (4 + i) 0) (get_or x (4 + i) 0)) 28)
    (every_cong (λ i. eqb (get_or (id_at ks rs p) i 0) (get_or x i 0)) (λ i. eqb (get_or (key_bytes (get_or ks p 0)) i 0) (get_or x i 0)) 4
    (λ (i : ℕ) (h : i < 4). ap (λ (v : ℕ). eqb v (get_or x i 0)) (id_head ks rs p i h))
    ∙ key_same x b (get_or ks p 0) l)
    ∙ ap (λ (t : Bool). eqb (get_or ks p 0) (key_of x) && t)
    (every_cong (λ i. eqb (get_or (id_at ks rs p) (4 + i) 0) (get_or x (4 + i) 0)) (λ i. eqb (get_or rs (p * 28 + i) 0) (get_or x (4 + i) 0)) 28
    (λ (i : ℕ) (h : i < 28). ap (λ (v : ℕ). eqb v (get_or x (4 + i) 0)) (id_rest ks rs p i h)))

-- another key is another id
pub other_key : (ks rs : List ℕ) (p : ℕ) (x : Id) → get_or ks p 0 < 2 ^ 32 → Bytes x → get_or ks p 0 ≢ key_of x → same_id (id_at ks rs p) x ≡ false
other_key ks rs p x l b f = id_by_key ks rs p x l b ∙ rw (ne_eqb (get_or ks p 0) (key_of x) f)

-- with the same key the rest decides
pub same_key : (ks rs : List ℕ) (p : ℕ) (x : Id) → get_or ks p 0 < 2 ^ 32 → Bytes x → get_or ks p 0 ≡ key_of x → same_id (id_at ks rs p) x ≡ same_rest rs (p * 28) x
same_key ks rs p x l b f = id_by_key ks rs p x l b ∙ rw (eq-eqb (get_or ks p 0) (key_of x) f)

-- a block without the key has the id nowhere
pub block_without : (ks rs : List ℕ) (from start n key : ℕ) (x : Id) (lacks : Bool)
    → ((i : ℕ) → get_or ks i 0 < 2 ^ 32) → Bytes x → key ≡ key_of x
    → lacks ≡ every (λ i. not (eqb (get_or ks (from + start + i) 0) key)) n → lacks ≡ true
    → None ≡ first_where (has_id ks rs from x) start n
block_without ks rs from start n key x lacks l b q e t =
    sym
    (first_none (has_id ks rs from x) start n
    (λ (j : ℕ) (h : start ≤ j) (k : j < start + n).
    let w : from + start + (j - start) ≡ from + j = omega arith in
    let d : not (eqb (get_or ks (from + start + (j - start)) 0) key) ≡ true = every_at (λ i. not (eqb (get_or ks (from + start + i) 0) key)) n (j - start) (sym e ∙ t) (omega arith) in
    let f : eqb (get_or ks (from + j) 0) (key_of x) ≡ false = rw (← q, ← w) (not-true (eqb (get_or ks (from + start + (j - start)) 0) key) d) in
    other_key ks rs (from + j) x (l (from + j)) b (eqb-false (get_or ks (from + j) 0) (key_of x) f)))

------ a table after an id was put

pub places_less : (ks rs : List ℕ) (n m : ℕ) → m ≤ n → Places ks rs n → Places ks rs m
places_less ks rs n m l h = record { keys_long = omega (arith, h.keys_long); rests_long = omega (arith, h.rests_long) }

module _ (ks rs : List ℕ) (p : ℕ) (x : Id) where
  pub keys_put_length : length (keys_put ks p x) ≡ length ks
  unfolding keys_put
  keys_put_length = length-set ks p (key_of x)

  pub rests_put_length : length (rests_put rs p x) ≡ length rs
  unfolding rests_put
  rests_put_length = put_length rs (p * 28) (λ i. get_or x (4 + i) 0) 28

  pub places_put : (n : ℕ) → Places ks rs n → Places (keys_put ks p x) (rests_put rs p x) n
  places_put n h = record { keys_long = rw keys_put_length h.keys_long; rests_long = rw rests_put_length h.rests_long }

  -- any other place has the id that it had
  pub put_id_other : (q : ℕ) → q ≢ p → id_at (keys_put ks p x) (rests_put rs p x) q ≡ id_at ks rs q
  unfolding id_at keys_put rests_put
  put_id_other q f =
      let a : get_or (set ks p (key_of x)) q 0 ≡ get_or ks q 0 = get_or-set_other ks p q (key_of x) 0 f in
      let b : row (row_put rs (p * 28) (λ i. get_or x (4 + i) 0) 28) (q * 28) 28 ≡ row rs (q * 28) 28 =
      row_cong (row_put rs (p * 28) (λ i. get_or x (4 + i) 0) 28) rs (q * 28) 28
      (λ (i : ℕ) (h : i < 28).
      put_other rs (p * 28) (λ i. get_or x (4 + i) 0) 28 (q * 28 + i)
      (λ (j : ℕ) (k : j < 28) (e : q * 28 + i ≡ p * 28 + j). f (omega arith))) in
      rw (a, b)

  -- place p has x
  module _ (h : Places ks rs (p + 1)) (b : Bytes x) where
    put_rest : (i : ℕ) → i < 28 → get_or (rests_put rs p x) (p * 28 + i) 0 ≡ get_or x (4 + i) 0
    unfolding rests_put
    put_rest i k = put_at rs (p * 28) (λ i. get_or x (4 + i) 0) 28 i k (omega (arith, h.rests_long))

    put_key : get_or (keys_put ks p x) p 0 ≡ key_of x
    unfolding keys_put
    put_key = get_or-set_same ks p (key_of x) 0 (omega (arith, h.keys_long))

    -- by whether byte i is one of the key's
    put_by : (i : ℕ) (t : Bool) → ltb i 4 ≡ t → i < 32 → get_or (id_at (keys_put ks p x) (rests_put rs p x) p) i 0 ≡ get_or x i 0
    put_by i true e k =
        let l : i < 4 = ltb-true i 4 e in
        id_head (keys_put ks p x) (rests_put rs p x) p i l ∙ ap (λ (v : ℕ). get_or (key_bytes v) i 0) put_key ∙ key_byte x b i l
    put_by i false e k =
        let l : 4 ≤ i = ltb-false i 4 e in
        let w : 4 + (i - 4) ≡ i = omega arith in
        rw (← w) (id_rest (keys_put ks p x) (rests_put rs p x) p (i - 4) (omega arith) ∙ put_rest (i - 4) (omega arith))

    pub put_id_byte : (i : ℕ) → i < 32 → get_or (id_at (keys_put ks p x) (rests_put rs p x) p) i 0 ≡ get_or x i 0
    put_id_byte i k = put_by i (ltb i 4) refl k

    pub put_id_same : same_id (id_at (keys_put ks p x) (rests_put rs p x) p) x ≡ true
    put_id_same = same_all (id_at (keys_put ks p x) (rests_put rs p x) p) x put_id_byte

    -- asking for any id y at place p is comparing x with y
    pub put_id_asks : (y : Id) → same_id (id_at (keys_put ks p x) (rests_put rs p x) p) y ≡ same_id x y
    put_id_asks y = same_left (id_at (keys_put ks p x) (rests_put rs p x) p) x y put_id_same

    pub put_id_here : length x ≡ 32 → id_at (keys_put ks p x) (rests_put rs p x) p ≡ x
    put_id_here l =
        let long : length (id_at (keys_put ks p x) (rests_put rs p x) p) ≡ 32 = id_length (keys_put ks p x) (rests_put rs p x) p in
        ext_get_or 0 (id_at (keys_put ks p x) (rests_put rs p x) p) x (long ∙ sym l)
        (λ (i : ℕ) (k : i < length (id_at (keys_put ks p x) (rests_put rs p x) p)). put_id_byte i (omega arith))

------ the lowest place of an id

-- a table that is searched from its first place on
pub first_id_all : (ks rs : List ℕ) (n : ℕ) (x : Id) → first_id ks rs 0 n x ≡ first_where (λ i. same_id (id_at ks rs i) x) 0 n
first_id_all ks rs n x =
    first_cong (has_id ks rs 0 x) (λ i. same_id (id_at ks rs i) x) 0 n
    (λ (j : ℕ) (a : 0 ≤ j) (b : j < 0 + n). ap (λ (q : ℕ). same_id (id_at ks rs q) x) (zero-add j))

-- the same id is found at the same place
pub first_id_same : (ks rs : List ℕ) (from n : ℕ) (x y : Id) → same_id x y ≡ true → first_id ks rs from n x ≡ first_id ks rs from n y
first_id_same ks rs from n x y e =
    first_cong (has_id ks rs from x) (has_id ks rs from y) 0 n
    (λ (j : ℕ) (a : 0 ≤ j) (b : j < 0 + n). same_right x y (id_at ks rs (from + j)) e)

module _ (ks rs : List ℕ) (from n : ℕ) (x y : Id) where
  -- putting an id at none of the places changes no answer
  pub first_id_other : (p : ℕ) → ((i : ℕ) → i < n → from + i ≢ p) → first_id (keys_put ks p x) (rests_put rs p x) from n y ≡ first_id ks rs from n y
  first_id_other p f =
      first_cong (has_id (keys_put ks p x) (rests_put rs p x) from y) (has_id ks rs from y) 0 n
      (λ (j : ℕ) (a : 0 ≤ j) (b : j < 0 + n). ap (λ (z : Id). same_id z y) (put_id_other ks rs p x (from + j) (f j (omega arith))))

  -- putting x at the place after them: y is where it was, else it is there if it is x
  module _ (h : Places ks rs (from + n + 1)) (b : Bytes x) where
    pub first_id_more : first_id (keys_put ks (from + n) x) (rests_put rs (from + n) x) from (n + 1) y ≡ or_else (first_id ks rs from n y) (pick_found (same_id x y) (Some n) None)
    first_id_more =
        let old : first_id (keys_put ks (from + n) x) (rests_put rs (from + n) x) from n y ≡ first_id ks rs from n y =
        first_id_other (from + n) (λ (i : ℕ) (k : i < n) (e : from + i ≡ from + n). omega arith) in
        let new : same_id (id_at (keys_put ks (from + n) x) (rests_put rs (from + n) x) (from + n)) y ≡ same_id x y =
        put_id_asks ks rs (from + n) x h b y in
        first_suc (has_id (keys_put ks (from + n) x) (rests_put rs (from + n) x) from y) 0 n ∙ rw (zero-add n, old, new)

    -- the ids in the table are those that were there, and x
    pub known_more : is_at (first_id (keys_put ks (from + n) x) (rests_put rs (from + n) x) from (n + 1) y) ≡ is_at (first_id ks rs from n y) || same_id x y
    known_more = ap is_at first_id_more ∙ else_any (first_id ks rs from n y) (same_id x y) n

-- an id that is in the table already adds none
pub known_already : (ks rs : List ℕ) (from n : ℕ) (x y : Id) → is_at (first_id ks rs from n x) ≡ true → is_at (first_id ks rs from n y) ≡ is_at (first_id ks rs from n y) || same_id x y
known_already ks rs from n x y e =
    or_same (is_at (first_id ks rs from n y)) (same_id x y)
    (λ (w : same_id x y ≡ true). sym (ap is_at (first_id_same ks rs from n x y w)) ∙ e)
