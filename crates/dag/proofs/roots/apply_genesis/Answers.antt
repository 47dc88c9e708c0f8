-- The steps follow the rule one by one: the ids named, the mark cleared, the held parents entered; then by whether the nullifier is
-- there.
use Rattle.std.proofs.Common.{refl, sym, ap, ◌∙◌, subst, rules}
use Rattle.store.specs.Tables.{Store, place_of}
use Rattle.dag.specs.Begun.{NullsRight}
use Rattle.dag.proofs.Begun.{enterable, genesis_parts, genesis_record, genesis_keepable}
use Rattle.dag.proofs.Entering.{names_made, genesis_known, genesis_new}
use Rattle.dag.proofs.roots.apply_genesis.Goals as goal

pub enter_held-requires : goal.enter_held-requires
enter_held-requires c =
    let names = names_made _ _ _ c.args.at c.requires.1 (search rules) c.requires.0.short _ _ c.of-names.ensures.child c.of-names.ensures.parents in
    enterable _ _ _ _ c.requires.0 _ _ _ names _ c.begin.ensures.left

pub place_of-requires : goal.place_of-requires
place_of-requires c =
    let names = names_made _ _ _ c.args.at c.requires.1 (search rules) c.requires.0.short _ _ c.of-names.ensures.child c.of-names.ensures.parents in
    subst NullsRight (sym c.view.ensures) (genesis_parts _ _ _ _ c.requires.0 _ _ _ names _ c.begin.ensures.left _ c.enter_held.ensures.left)

pub keep_record-requires : goal.keep_record-requires
keep_record-requires c =
    let names = names_made _ _ _ c.args.at c.requires.1 (search rules) c.requires.0.short _ _ c.of-names.ensures.child c.of-names.ensures.parents in
    genesis_record _ _ _ _ c.requires.0 _ _ _ names _ c.begin.ensures.left _ c.enter_held.ensures.left c.args.tx.now.nullifier.0 _ _ (c.place_of.ensures ∙ ap (λ (t : Store). place_of t c.args.tx.now.nullifier.0) c.view.ensures) c.in-Some.is

pub keep_new-requires : goal.keep_new-requires
keep_new-requires c =
    let names = names_made _ _ _ c.args.at c.requires.1 (search rules) c.requires.0.short _ _ c.of-names.ensures.child c.of-names.ensures.parents in
    genesis_keepable _ _ _ _ c.requires.0 _ _ _ names _ c.begin.ensures.left _ c.enter_held.ensures.left c.args.tx.now.nullifier.0 _ refl (c.place_of.ensures ∙ ap (λ (t : Store). place_of t c.args.tx.now.nullifier.0) c.view.ensures) c.in-None.is

pub returns-in-Some-clause-left : goal.returns-in-Some-clause-left
returns-in-Some-clause-left c =
    let names = names_made _ _ _ c.args.at c.requires.1 (search rules) c.requires.0.short _ _ c.of-names.ensures.child c.of-names.ensures.parents in
    genesis_known _ _ c.args.tx.now.nullifier.0 _ _ _ _ _ c.begin.ensures.left names _ _ _ _ c.enter_held.ensures.left (c.place_of.ensures ∙ ap (λ (t : Store). place_of t c.args.tx.now.nullifier.0) c.view.ensures) c.in-Some.is c.keep_record.ensures.left

pub returns-in-None-clause-left : goal.returns-in-None-clause-left
returns-in-None-clause-left c =
    let names = names_made _ _ _ c.args.at c.requires.1 (search rules) c.requires.0.short _ _ c.of-names.ensures.child c.of-names.ensures.parents in
    genesis_new _ _ c.args.tx.now.nullifier.0 _ _ _ _ _ c.begin.ensures.left names _ _ _ c.enter_held.ensures.left (c.place_of.ensures ∙ ap (λ (t : Store). place_of t c.args.tx.now.nullifier.0) c.view.ensures) c.in-None.is c.keep_new.ensures.left
