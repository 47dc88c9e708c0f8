-- `weights_line::line::parse` meets its contract: the places of the first two spaces part the line's words.
use Rattle.std.proofs.Common.{rules, tests, ◌∙◌, refl, ◌+◌, ℕ, eqb}
use Rattle.std.proofs.lemmas.Iterator.{YieldsList-from_slice}
use Rattle.std.proofs.lemmas.Iterator.Search.{position_from_yields_List}
use Rattle.text.specs.Pieces.{space}
use Rattle.text.specs.PieceLaws.{from_on}
use Rattle.weights_line.specs.LineLaws.{too_long, no_shared, no_joined, no_depth}
use Rattle.weights_line.proofs.Places.{without_space, with_one_space, with_two_spaces}
use Rattle.weights_line.proofs.line.parse.Goals as goal

pub returns-then-line-gt-MOST_BYTES : goal.returns-then-line-gt-MOST_BYTES
returns-then-line-gt-MOST_BYTES c = too_long _ c.if-line-gt-MOST_BYTES.true

pub returns-in_err-first : goal.returns-in_err-first
returns-in_err-first c =
    let line = c.args.line.now in
    let first = position_from_yields_List (λ (b : ℕ). eqb b space) _ _ c.position.result c.position.ensures.ran (YieldsList-from_slice line c.iter.ensures.rest) (λ x r q k. search (rules, tests)) in
    c.from_residual.ensures ∙ without_space line c.if-line-gt-MOST_BYTES.false first c.in_err-first.was

pub returns-in_err-second : goal.returns-in_err-second
returns-in_err-second c =
    let line = c.args.line.now in
    let first = position_from_yields_List (λ (b : ℕ). eqb b space) _ _ c.position.result c.position.ensures.ran (YieldsList-from_slice line c.iter.ensures.rest) (λ x r q k. search (rules, tests)) in
    let second = position_from_yields_List (λ (b : ℕ). eqb b space) _ _ c.position-2.result c.position-2.ensures.ran (YieldsList-from_slice _ c.iter-2.ensures.rest) (λ x r q k. search (rules, tests)) in
    c.from_residual-in_err-second.ensures
    ∙ with_one_space line c.if-line-gt-MOST_BYTES.false first c.in_ok-first.was (from_on (c.in_ok-first.first + 1) line) second c.in_err-second.was

pub returns-in_err-shared : goal.returns-in_err-shared
returns-in_err-shared c =
    let line = c.args.line.now in
    let first = position_from_yields_List (λ (b : ℕ). eqb b space) _ _ c.position.result c.position.ensures.ran (YieldsList-from_slice line c.iter.ensures.rest) (λ x r q k. search (rules, tests)) in
    let second = position_from_yields_List (λ (b : ℕ). eqb b space) _ _ c.position-2.result c.position-2.ensures.ran (YieldsList-from_slice _ c.iter-2.ensures.rest) (λ x r q k. search (rules, tests)) in
    c.from_residual-in_err-shared.ensures
    ∙ no_shared _ _
    ∙ with_two_spaces line c.if-line-gt-MOST_BYTES.false first c.in_ok-first.was (from_on (c.in_ok-first.first + 1) line) second c.in_ok-second.was (from_on (c.in_ok-second.second + 1) _) c.in_err-shared.ensures refl refl

pub returns-in_err-joined : goal.returns-in_err-joined
returns-in_err-joined c =
    let line = c.args.line.now in
    let first = position_from_yields_List (λ (b : ℕ). eqb b space) _ _ c.position.result c.position.ensures.ran (YieldsList-from_slice line c.iter.ensures.rest) (λ x r q k. search (rules, tests)) in
    let second = position_from_yields_List (λ (b : ℕ). eqb b space) _ _ c.position-2.result c.position-2.ensures.ran (YieldsList-from_slice _ c.iter-2.ensures.rest) (λ x r q k. search (rules, tests)) in
    c.from_residual-in_err-joined.ensures
    ∙ no_joined _ _
    ∙ with_two_spaces line c.if-line-gt-MOST_BYTES.false first c.in_ok-first.was (from_on (c.in_ok-first.first + 1) line) second c.in_ok-second.was (from_on (c.in_ok-second.second + 1) _) c.in_ok-shared.ensures c.in_err-joined.ensures refl

pub returns-in_err-depth : goal.returns-in_err-depth
returns-in_err-depth c =
    let line = c.args.line.now in
    let first = position_from_yields_List (λ (b : ℕ). eqb b space) _ _ c.position.result c.position.ensures.ran (YieldsList-from_slice line c.iter.ensures.rest) (λ x r q k. search (rules, tests)) in
    let second = position_from_yields_List (λ (b : ℕ). eqb b space) _ _ c.position-2.result c.position-2.ensures.ran (YieldsList-from_slice _ c.iter-2.ensures.rest) (λ x r q k. search (rules, tests)) in
    c.from_residual-in_err-depth.ensures
    ∙ no_depth _ _
    ∙ with_two_spaces line c.if-line-gt-MOST_BYTES.false first c.in_ok-first.was (from_on (c.in_ok-first.first + 1) line) second c.in_ok-second.was (from_on (c.in_ok-second.second + 1) _) c.in_ok-shared.ensures c.in_ok-joined.ensures c.in_err-depth.ensures

pub returns : goal.returns
returns c =
    let line = c.args.line.now in
    let first = position_from_yields_List (λ (b : ℕ). eqb b space) _ _ c.position.result c.position.ensures.ran (YieldsList-from_slice line c.iter.ensures.rest) (λ x r q k. search (rules, tests)) in
    let second = position_from_yields_List (λ (b : ℕ). eqb b space) _ _ c.position-2.result c.position-2.ensures.ran (YieldsList-from_slice _ c.iter-2.ensures.rest) (λ x r q k. search (rules, tests)) in
    c.checked.ensures
    ∙ with_two_spaces line c.if-line-gt-MOST_BYTES.false first c.in_ok-first.was (from_on (c.in_ok-first.first + 1) line) second c.in_ok-second.was (from_on (c.in_ok-second.second + 1) _) c.in_ok-shared.ensures c.in_ok-joined.ensures c.in_ok-depth.ensures
