-- The members below n are put into out, and n is the next one, until none is left below the end or out is full.
use Rattle.std.proofs.Common.{◌≤◌}
use Rattle.bitset.specs.Sets.{member, numbers}
use Rattle.bitset.proofs.Walks.{Listing}
use Rattle.bitset.proofs.list.Given as goal

abbrev pub invariant-loop-put : goal.invariant-loop-put
invariant-loop-put l = (l.end ≤ numbers) × Listing (member l.set) l.end l.initial.out l.out l.n l.put
