-- The constants by pairs are those of two rounds that follow one another.
use mathlib.Core.Path.{◌≡◌, refl, ap, ap₂, ◌∙◌}
use mathlib.Core.List.{List, []}
use Prim.Native.Nat.{ℕ, zero, suc, ◌+◌, ◌*◌, ◌/◌, ◌<◌}
use native.Mathlib.Omega.{arith}
use lib.Dec.{lit<}
use lib.ListN.{length, get_or, drop}
use Rattle.std.proofs.lemmas.List.{get_or-take, get_or-drop}
use Rattle.std.specs.Simd.{first_chunks}
use Rattle.keccak.specs.Fips202.{listed}
use Rattle.keccak.specs.Lanes.{constant_of, round_of, rounds_of, permuted}
use Rattle.keccak.proofs.Row.{entry}
use Rattle.keccak.proofs.permute.Goals as goal

in_pair : (m k j : ℕ) (l : List ℕ) → k < m → j < 2 → get_or (get_or (first_chunks 2 m l) k []) j 0 ≡ get_or l (2 * k + j) 0
in_pair zero k j l h i = absurd (omega arith)
in_pair (suc m) zero j l h i = get_or-take 2 l j 0 i ∙ ap (λ (n : ℕ). get_or l n 0) (omega arith)
in_pair (suc m) (suc k) j l h i =
    in_pair m k j (drop 2 l) (omega arith) i ∙ get_or-drop 2 l (2 * k + j) 0 ∙ ap (λ (n : ℕ). get_or l n 0) (omega arith)

constant_at : (n : List ℕ) (p : List (List ℕ)) (k j i : ℕ) → n ≡ listed 24 0 constant_of → p ≡ first_chunks 2 (length n / 2) n → k < 12 → j < 2
    → 2 * k + j ≡ i → get_or (get_or p k []) j 0 ≡ constant_of i
constant_at n p k j i e f hk hj at =
    let half : length n / 2 ≡ 12 = ap (λ (l : List ℕ). length l / 2) e in
    ap (λ (q : List (List ℕ)). get_or (get_or q k []) j 0) (f ∙ ap (λ (m : ℕ). first_chunks 2 m n) half) ∙ in_pair 12 k j n hk hj
    ∙ ap (λ (x : ℕ). get_or n x 0) at ∙ entry 24 i n constant_of e (omega arith)

one_more : (a s t : List ℕ) (i k : ℕ) → s ≡ rounds_of i a → k ≡ constant_of i → t ≡ round_of k s → t ≡ rounds_of (suc i) a
unfolding rounds_of
one_more a s t i k es ek et = et ∙ ap₂ round_of ek es

pub loop-pair-init : goal.loop-pair-init
unfolding rounds_of
loop-pair-init c = refl

pub loop-pair-preserved : goal.loop-pair-preserved
loop-pair-preserved c =
    let k = c.loop-pair.pair-index in
    let v = c.veil-s.result in
    let at : (j i : ℕ) → j < 2 → 2 * k + j ≡ i → get_or (get_or c.as_chunks.result.0.now k []) j 0 ≡ constant_of i = λ j i.
    constant_at c.round_constants-constants.result c.as_chunks.result.0.now k j i c.round_constants-constants.ensures c.as_chunks.ensures.front (omega arith)
    in
    let first = one_more v _ _ (2 * k) _ c.loop-pair.invariant (at 0 (2 * k) (lit< tt) (omega arith)) c.round.ensures in
    let second = one_more v _ _ (suc (2 * k)) _ first (at 1 (suc (2 * k)) (lit< tt) (omega arith)) c.round-in-loop-pair.ensures in
    let e : suc (suc (2 * k)) ≡ 2 * (k + 1) = omega arith in
    second ∙ ap (λ (n : ℕ). rounds_of n v) e

pub returns : goal.returns
unfolding permuted
returns c = let e : 2 * c.loop-pair.pair-index ≡ 24 = omega arith in cc
