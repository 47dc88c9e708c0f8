-- The words that the set has are counted, and past its end there is no member.
use Rattle.std.proofs.Common.{◌≡◌, get_or, rules}
use Rattle.bitset.specs.Sets.{member}
use Rattle.bitset.specs.Words.{member_at}
use Rattle.bitset.proofs.Tallies.{set_counted}
use Rattle.bitset.proofs.count.Goals as goal

pub returns : goal.returns
returns c =
    let set = c.args.set.now in
    set_counted set _ _ c.min.ensures
    (c.count_ones.ensures.counted (member set)
    (λ i x h e. let v : x ≡ get_or set i 0 = search rules in rw v (member_at set i)))
