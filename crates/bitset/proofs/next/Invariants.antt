-- No member stands from `from` up to bit low of word i; the first word with a one from there on has the next member as its lowest one.
use Rattle.std.proofs.Common.{◌+◌, ◌*◌, ◌≤◌, ◌<◌}
use Rattle.bitset.specs.Sets.{member}
use Rattle.bitset.specs.Counts.{None}
use Rattle.bitset.proofs.next.Given as goal

abbrev pub invariant-loop-i : goal.invariant-loop-i
invariant-loop-i l = (l.low < 64) × (l.from ≤ l.i * 64 + l.low) × None (member l.set) l.from (l.i * 64 + l.low)
