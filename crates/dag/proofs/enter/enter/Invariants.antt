-- The walk from the start is the walk from the i-th parent on over the parts as they are there; each turn takes one step of it.
use Rattle.std.proofs.Common.{◌≡◌, ◌+◌, ◌-◌, ◌≤◌, length, get_or}
use Rattle.store.specs.Limits.{head_length, child_limit}
use Rattle.store.specs.Tables.{entries}
use Rattle.store.specs.Parts.{store_in, SameSlices}
use Rattle.dag.specs.Rules.{entered}
use Rattle.dag.proofs.enter.enter.Given as goal

abbrev pub invariant-loop-i : goal.invariant-loop-i
invariant-loop-i l =
    (length l.parts.head.now ≡ head_length)
    × (entries (store_in l.parts) + (length l.names.parents.now - l.i) ≤ child_limit)
    × SameSlices l.initial.parts l.parts
    × (entered (store_in l.initial.parts) l.names.child (λ j. get_or l.names.parents.now j 0) 0 (length l.names.parents.now) ≡ entered (store_in l.parts) l.names.child (λ j. get_or l.names.parents.now j 0) l.i (length l.names.parents.now - l.i))
