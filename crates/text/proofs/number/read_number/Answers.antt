use Rattle.std.proofs.Common.{◌≤◌, length, arith, rules, sym, ◌∙◌, lit<}
use Rattle.std.proofs.lemmas.Bool.Decides.{nat_tests}
use Rattle.text.specs.Reading.{reads, read_bad, read_end, read_more, too_short, too_long}
use Rattle.text.proofs.number.read_number.Goals as goal
use Rattle.text.proofs.number.read_number.Goals.{then-is_empty-via-then-is_empty, then-is_empty-via-else-is_empty+then-s-gt-MOST_DIGITS}

pub returns-then-is_empty : goal.returns-then-is_empty
returns-then-is_empty c =
    elim c.then-is_empty.branch [
      | then-is_empty-via-then-is_empty w ↦ too_short _ (search rules)
      | then-is_empty-via-else-is_empty+then-s-gt-MOST_DIGITS w ↦ too_long _ (omega arith)
    ]

pub loop-byte-init : goal.loop-byte-init
loop-byte-init c =
    let some : 1 ≤ length c.args.s.now = grind (arith, nat_tests, c.if-is_empty.ensures) in
    (lit< tt, sym (reads _ some (omega arith)))

pub returns-in_err-value : goal.returns-in_err-value
returns-in_err-value c =
    let bad = read_bad c.args.s.now c.loop-byte.byte-index c.loop-byte.value (omega arith) c.in_err-value.ensures in
    c.from_residual.ensures ∙ sym (c.loop-byte.invariant.1 ∙ bad)

pub loop-byte-preserved : goal.loop-byte-preserved
loop-byte-preserved c =
    (search rules, c.loop-byte.invariant.1 ∙ read_more c.args.s.now c.loop-byte.byte-index c.loop-byte.value _ (omega arith) c.in_ok-value.ensures)

pub returns : goal.returns
returns c = sym (c.loop-byte.invariant.1 ∙ read_end c.args.s.now c.loop-byte.byte-index c.loop-byte.value (omega arith))
