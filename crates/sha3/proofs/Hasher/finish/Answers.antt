-- The array from `at` on is the padding, and `update` takes it in.
use mathlib.Core.Path.{◌≡◌, refl, sym, ap, ap₂, ◌∙◌}
use mathlib.Core.List.{List, [], ◌∷◌, ◌++◌}
use Prim.Native.Nat.{ℕ, zero, suc, ◌+◌, ◌-◌, ◌%◌}
use native.Mathlib.Nat.{zero-add, suc-add, add-zero}
use native.Mathlib.Omega.{arith}
use lib.Bits.{bit_or}
use lib.ListN.{get_or, set, take, drop, replicate, length-set, length-replicate, get_or-replicate}
use lib.Seq.{take_all, get_or-drop, drop-set-add}
use Rattle.keccak.specs.Fips202.{bits_of}
use Rattle.sha3.specs.declared.Hasher.{Hasher}
use Rattle.sha3.specs.Hash.{taken, padding, output, digest}
use Rattle.sha3.specs.Sponge.{digest_after}
use Rattle.sha3.specs.Laws.{sha3_bits}
use Rattle.sha3.proofs.Hasher.finish.Goals as goal

abbrev zeros : ℕ → List ℕ
zeros n = replicate n 0

drop_zeros : (p n : ℕ) → drop p (zeros (p + n)) ≡ zeros n
drop_zeros zero n = ap (λ (k : ℕ). zeros k) (zero-add n)
drop_zeros (suc p) n = ap (λ (k : ℕ). drop (suc p) (zeros k)) (suc-add p n) ∙ drop_zeros p n

set_last : (i v : ℕ) → set (zeros (suc i)) i v ≡ zeros i ++ v ∷ []
set_last zero v = refl
set_last (suc i) v = ap (λ (l : List ℕ). 0 ∷ l) (set_last i v)

-- the array's part from `at` on
ended : (j : ℕ) → set (6 ∷ zeros j) j (bit_or (get_or (6 ∷ zeros j) j 0) 128) ≡ padding j
unfolding padding
ended zero = refl
ended (suc i) =
    ap (λ (v : ℕ). 6 ∷ set (zeros (suc i)) i (bit_or v 128)) (get_or-replicate (suc i) i 0 0 (omega arith)) ∙ ap (λ (l : List ℕ). 6 ∷ l) (set_last i 128)

begun : (p j : ℕ) → drop p (set (zeros (p + suc j)) p 6) ≡ 6 ∷ zeros j
begun p j =
    ap (λ (k : ℕ). drop p (set (zeros (p + suc j)) k 6)) (sym (add-zero p)) ∙ drop-set-add p (zeros (p + suc j)) 0 6
    ∙ ap (λ (l : List ℕ). set l 0 6) (drop_zeros p (suc j))

filled : (p j n z e : ℕ) → z ≡ p + suc j → e ≡ p + j → n ≡ suc j
    → take n (drop p (set (set (zeros z) p 6) e (bit_or (get_or (set (zeros z) p 6) e 0) 128))) ≡ padding j
filled p j n z e ez ee en =
    let a : List ℕ = set (zeros (p + suc j)) p 6 in
    let t : List ℕ = 6 ∷ zeros j in
    let v : bit_or (get_or a (p + j) 0) 128 ≡ bit_or (get_or t j 0) 128 =
    ap (λ (x : ℕ). bit_or x 128) (sym (get_or-drop p a j 0) ∙ ap (λ (l : List ℕ). get_or l j 0) (begun p j))
    in
    (λ i. take (en i) (drop p (set (set (zeros (ez i)) p 6) (ee i) (bit_or (get_or (set (zeros (ez i)) p 6) (ee i) 0) 128))))
    ∙ ap (take (suc j)) (drop-set-add p a j (bit_or (get_or a (p + j) 0) 128) ∙ ap₂ (λ (l : List ℕ) (x : ℕ). set l j x) (begun p j) v)
    ∙ take_all (suc j) (set t j (bit_or (get_or t j 0) 128)) (omega (arith, length-set t j (bit_or (get_or t j 0) 128), length-replicate {A = ℕ} j 0))
    ∙ ended j

whole : (h u : Hasher) (m r : List ℕ) → u ≡ taken h m → m ≡ padding (135 - h.at % 136) → r ≡ output u.lanes → r ≡ digest h
unfolding digest
whole h u m r eu em er = er ∙ ap (λ (x : Hasher). output x.lanes) (eu ∙ ap (taken h) em)

pub returns : goal.returns
returns c =
    let at = c.args.self.at % 136 in
    let pad = filled at (135 - at) (136 - at) 136 135 (omega arith) (omega arith) (omega arith) in
    let e = whole c.args.self _ _ _ c.update.ensures.value pad c.squeeze.ensures in
    record {
      value = e;
      of_message = λ m h. e ∙ digest_after _ m h;
      of_bits = λ m h. ap bits_of (e ∙ digest_after _ m h) ∙ sha3_bits m;
    }
