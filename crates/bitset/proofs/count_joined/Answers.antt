-- The words that both sets have, then those that the longer one has alone.
use Rattle.std.proofs.Common.{◌≡◌, ◌+◌, ◌*◌, refl, ◌<◌, ◌≤◌, ◌⊎◌, length, get_or, inl, inr, rules, arith}
use Rattle.std.specs.Prelude.{bit_or}
use Rattle.bitset.specs.Sets.{in_either}
use Rattle.bitset.specs.Words.{either_at}
use Rattle.bitset.proofs.Tallies.{longer_at, joined_counted}
use Rattle.bitset.proofs.count_joined.Goals as goal
use Rattle.bitset.proofs.count_joined.Goals.{then-a-b, else-a-b}

pub returns : goal.returns
returns c =
    let a = c.args.a.now in
    let b = c.args.b.now in
    let longer = c.if-a-b.longer.now in
    let u = c.min-both.result in
    let is : ((length a < length b) × (longer ≡ b)) ⊎ ((length b ≤ length a) × (longer ≡ a)) =
    elim c.if-a-b.branch [ then-a-b w ↦ inl (search rules) | else-a-b w ↦ inr (search rules) ] in
    joined_counted a b longer is _ u _ _ _ _ c.min.ensures c.min-both.ensures c.min-2.ensures refl
    (c.count_ones.ensures.counted (in_either a b)
    (λ i x h e. let v : x ≡ bit_or (get_or a i 0) (get_or b i 0) = search rules in rw v (either_at a b i)))
    (c.count_ones-2.ensures.counted (λ k. in_either a b (u * 64 + k))
    (λ i x h e. let v : x ≡ get_or longer (u + i) 0 = search rules in rw v (longer_at a b longer is u i (omega arith))))
