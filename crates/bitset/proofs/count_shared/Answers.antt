-- The words that both sets have are counted, and past the end of either there is none that both have.
use Rattle.std.proofs.Common.{◌≡◌, get_or, rules}
use Rattle.std.specs.Prelude.{bit_and}
use Rattle.bitset.specs.Sets.{in_both}
use Rattle.bitset.specs.Words.{both_at}
use Rattle.bitset.proofs.Tallies.{shared_counted}
use Rattle.bitset.proofs.count_shared.Goals as goal

pub returns : goal.returns
returns c =
    let a = c.args.a.now in
    let b = c.args.b.now in
    shared_counted a b _ _ _ c.min.ensures c.min-2.ensures
    (c.count_ones.ensures.counted (in_both a b)
    (λ i x h e. let v : x ≡ bit_and (get_or a i 0) (get_or b i 0) = search rules in rw v (both_at a b i)))
