-- Before each parent the hasher has taken in the key and the parents so far; each turn takes in one more.
use mathlib.Core.Path.{ap, ◌∙◌}
use mathlib.Core.List.{append_assoc, ◌++◌, List}
use Prim.Native.Nat.{ℕ}
use lib.ListN.{take}
use Rattle.sha3.specs.Hash.{after}
use Rattle.ident.specs.Ident.{joined}
use Rattle.ident.specs.Parts.{joined_none, joined_more}
use Rattle.ident.proofs.work_hash.Goals as goal

pub loop-parent-init : goal.loop-parent-init
loop-parent-init c = c.update-hasher.ensures.of_message _ c.new.ensures ∙ ap after (joined_none c.args.key.now)

pub loop-parent-preserved : goal.loop-parent-preserved
loop-parent-preserved c =
    let i = c.loop-parent.parent-index in
    let ps = c.args.parents.now in
    let key = c.args.key.now in
    c.update-hasher-in-loop-parent.ensures.of_message _ c.loop-parent.invariant
    ∙ ap after (append_assoc key (joined (take i ps)) _ ∙ ap (λ (m : List ℕ). key ++ m) (joined_more ps i c.loop-parent-test.true))
