use mathlib.Core.Path.{◌≡◌, sym, ap, ap₂, ◌∙◌}
use mathlib.Core.List.{List, [], ◌∷◌, ◌++◌}
use Prim.Native.Nat.{ℕ, zero, suc, ◌+◌, ◌*◌, ◌/◌, ◌%◌, ◌^◌, ◌<◌}
use native.Mathlib.Nat.{zero-add, suc-add, add-zero}
use native.Mathlib.Omega.{arith}
use borrow.Rule.Slice.PartMut.{put_mid, same_len_mid}
use lib.Dec.{lit<}
use lib.ListN.{length, take, get_or}
use lib.Seq.{take_all, get_or-take, length-take-le}
use Rattle.std.specs.Int.{to_le_bytes, w64}
use Rattle.std.proofs.lemmas.Slice.{take-put_mid}
use Rattle.keccak.specs.Fips202.{listed}
use Rattle.keccak.specs.Lanes.{lane}
use Rattle.sha3.specs.Hash.{byte_of, output}
use Rattle.sha3.proofs.block.squeeze.Goals as goal

listed_append : (a b p : ℕ) (f : ℕ → ℕ) → listed (a + b) p f ≡ listed a p f ++ listed b (p + a) f
listed_append zero b p f = λ i. listed (zero-add b i) (sym (add-zero p) i) f
listed_append (suc a) b p f =
    let e : suc p + a ≡ p + suc a = omega arith in
    ap (λ (n : ℕ). listed n p f) (suc-add a b) ∙ ap (λ (l : List ℕ). f p ∷ l) (listed_append a b (suc p) f)
    ∙ ap (λ (q : ℕ). f p ∷ (listed a (suc p) f ++ listed b q f)) e

byte_at : (s : List ℕ) (i j q : ℕ) → q ≡ 8 * i + j → j < 8 → lane s i / 2 ^ (8 * j) % 2 ^ 8 ≡ byte_of s q
unfolding byte_of
byte_at s i j q e h =
    let d : i ≡ q / 8 = omega arith in
    let r : j ≡ q % 8 = omega arith in
    λ k. lane s (d k) / 2 ^ (8 * r k) % 2 ^ 8

bytes_of : (s : List ℕ) (i : ℕ) → to_le_bytes w64 (lane s i) ≡ listed 8 (8 * i) (byte_of s)
bytes_of s i =
    let b = λ (j q : ℕ) (e : q ≡ 8 * i + j) (h : j < 8). byte_at s i j q e h in
    let b0 : lane s i % 256 ≡ lane s i / 2 ^ (8 * 0) % 2 ^ 8 = omega arith in
    let b1 = b 1 (suc (8 * i)) (omega arith) (lit< tt) in
    let b2 = b 2 (suc (suc (8 * i))) (omega arith) (lit< tt) in
    let b3 = b 3 (suc (suc (suc (8 * i)))) (omega arith) (lit< tt) in
    let b4 = b 4 (suc (suc (suc (suc (8 * i))))) (omega arith) (lit< tt) in
    let b5 = b 5 (suc (suc (suc (suc (suc (8 * i)))))) (omega arith) (lit< tt) in
    let b6 = b 6 (suc (suc (suc (suc (suc (suc (8 * i))))))) (omega arith) (lit< tt) in
    let b7 = b 7 (suc (suc (suc (suc (suc (suc (suc (8 * i)))))))) (omega arith) (lit< tt) in
    ap (λ (x : ℕ). x ∷ lane s i / 2 ^ 8 % 256 ∷ lane s i / 2 ^ 16 % 256 ∷ lane s i / 2 ^ 24 % 256 ∷ lane s i / 2 ^ 32 % 256 ∷ lane s i / 2 ^ 40 % 256 ∷ lane s i / 2 ^ 48 % 256 ∷ lane s i / 2 ^ 56 % 256 ∷ []) (b0 ∙ b 0 (8 * i) (omega arith) (lit< tt))
    ∙ (λ k. byte_of s (8 * i) ∷ b1 k ∷ b2 k ∷ b3 k ∷ b4 k ∷ b5 k ∷ b6 k ∷ b7 k ∷ [])

one_more : (s bytes ys : List ℕ) (i k : ℕ) → length bytes ≡ 32 → i < 4 → take (8 * i) bytes ≡ listed (8 * i) 0 (byte_of s)
    → ys ≡ to_le_bytes w64 (get_or (take 4 s) i 0) → take (8 * (i + 1)) (put_mid (8 * i) k bytes ys) ≡ listed (8 * (i + 1)) 0 (byte_of s)
one_more s bytes ys i k l h e ey =
    let q : ys ≡ listed 8 (8 * i) (byte_of s) = ey ∙ ap (to_le_bytes w64) (get_or-take 4 s i 0 h) ∙ bytes_of s i in
    let n : 8 * (i + 1) ≡ 8 * i + length ys = omega (arith, ap length q) in
    let m : 8 * i + 8 ≡ 8 * (i + 1) = omega arith in
    take-put_mid (8 * i) k bytes ys (8 * (i + 1)) n (omega arith)
    ∙ ap₂ ◌++◌ e (q ∙ ap (λ (p : ℕ). listed 8 p (byte_of s)) (sym (zero-add (8 * i))))
    ∙ sym (listed_append (8 * i) 8 0 (byte_of s))
    ∙ ap (λ (p : ℕ). listed p 0 (byte_of s)) m

pub loop-i-preserved : goal.loop-i-preserved
loop-i-preserved c =
    let below : c.loop-i.i < 4 = omega (arith, length-take-le {A = ℕ}) in
    let long = same_len_mid (8 * c.loop-i.i) _ c.loop-i.bytes _ c.copy_from_slice.ensures.len ∙ c.loop-i.invariant.0 in
    (long, one_more _ _ _ c.loop-i.i _ c.loop-i.invariant.0 below c.loop-i.invariant.1 (c.copy_from_slice.ensures.after ∙ c.to_le_bytes.ensures))

pub returns : goal.returns
unfolding output
returns c =
    let i = c.loop-i.i in
    let four : length (take 4 c.args.lanes) ≡ 4 = length-take-le 4 c.args.lanes (omega arith) in
    let end : 8 * i ≡ 32 = omega arith in
    sym (take_all (8 * i) c.loop-i.bytes (omega (arith, c.loop-i.invariant.0))) ∙ c.loop-i.invariant.1 ∙ ap (λ (n : ℕ). listed n 0 (byte_of c.args.lanes)) end
