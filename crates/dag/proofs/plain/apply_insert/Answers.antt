-- The steps follow the rule one by one: the ids named, the mark cleared, the parents entered; then by how far those came.
use Rattle.std.proofs.Common.{rules, arith}
use Rattle.dag.proofs.Begun.{enterable, insert_keepable}
use Rattle.dag.proofs.Entering.{IsMissing, names_made, passed_on, missing_at, none_missing, tried_stopped, tried_passed}
use Rattle.dag.proofs.plain.apply_insert.Goals as goal

pub enter-requires : goal.enter-requires
enter-requires c =
    let names = names_made _ _ _ c.args.at c.requires.1 (search rules) c.requires.0.short _ _ c.of-names.ensures.child c.of-names.ensures.parents in
    enterable _ _ _ 1 c.requires.0 _ _ _ names _ c.begin.ensures.left

pub returns-in_err-map_err-clause-left : goal.returns-in_err-map_err-clause-left
returns-in_err-map_err-clause-left c =
    let names = names_made _ _ _ c.args.at c.requires.1 (search rules) c.requires.0.short _ _ c.of-names.ensures.child c.of-names.ensures.parents in
    let missing : IsMissing c.enter.result c.map_err.result = c.map_err.ensures.cases in
    let m = missing_at c.enter.result c.map_err.result _ missing c.in_err-map_err.was in
    rw (passed_on _ _ c.from_residual.ensures.1, m.2)
    (tried_stopped _ _ c.args.tx.now.nullifier.0 _ _ _ _ _ c.begin.ensures.left names c.enter.result _ m.0 m.1 c.enter.ensures.left)

pub keep_new-requires : goal.keep_new-requires
keep_new-requires c =
    let names = names_made _ _ _ c.args.at c.requires.1 (search rules) c.requires.0.short _ _ c.of-names.ensures.child c.of-names.ensures.parents in
    insert_keepable _ _ _ 1 c.requires.0 _ _ _ names _ c.begin.ensures.left _ _ c.enter.ensures.left (omega (arith, c.requires.0.null_room))

pub returns-clause-left : goal.returns-clause-left
returns-clause-left c =
    let names = names_made _ _ _ c.args.at c.requires.1 (search rules) c.requires.0.short _ _ c.of-names.ensures.child c.of-names.ensures.parents in
    let missing : IsMissing c.enter.result c.map_err.result = c.map_err.ensures.cases in
    let passed = none_missing c.enter.result c.map_err.result _ missing c.in_ok-map_err.was in
    tried_passed _ _ c.args.tx.now.nullifier.0 _ _ _ _ _ c.begin.ensures.left names c.enter.result _ _ passed c.enter.ensures.left c.keep_new.ensures.left
