-- After i turns the first i parents are entered where they are held.
use Rattle.std.proofs.Common.{◌≡◌, ◌+◌, ◌-◌, ◌≤◌, length, get_or}
use Rattle.store.specs.Limits.{head_length, child_limit}
use Rattle.store.specs.Tables.{entries}
use Rattle.store.specs.Parts.{store_in, SameSlices}
use Rattle.dag.specs.Rules.{held_entered}
use Rattle.dag.proofs.enter.enter_held.Given as goal

abbrev pub invariant-loop-parent : goal.invariant-loop-parent
invariant-loop-parent l =
    (length l.parts.head.now ≡ head_length)
    × (entries (store_in l.parts) + (length l.names.parents.now - l.parent-index) ≤ child_limit)
    × SameSlices l.initial.parts l.parts
    × (store_in l.parts ≡ held_entered (store_in l.initial.parts) l.names.child (λ j. get_or l.names.parents.now j 0) l.parent-index)
