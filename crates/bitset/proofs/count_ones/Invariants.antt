-- The first i words are counted.
use Rattle.std.proofs.Common.{◌≡◌, ℕ, Bool, ◌*◌, ◌≤◌, ◌<◌}
use Rattle.bitset.specs.Sets.{IsWord, count_below}
use Rattle.bitset.proofs.count_ones.Given as goal

abbrev pub invariant-loop-i : goal.invariant-loop-i
invariant-loop-i g l =
    (l.total ≤ l.i * 64)
    × ((p : ℕ → Bool) → ((i x : ℕ) → i < l.n → goal.F-post g l.word i x → IsWord p i x) → l.total ≡ count_below p (l.i * 64))
