use Rattle.std.proofs.Common.{arith}
use Rattle.text.specs.Cases.{either}
use Rattle.text.specs.Reading.{digit_low, digit_high, digit_checked}
use Rattle.text.proofs.number.with_digit.Goals as goal

pub returns-then-not-is_ascii_digit : goal.returns-then-not-is_ascii_digit
returns-then-not-is_ascii_digit c =
    let other = c.if-not-is_ascii_digit.ensures.cases in
    either 48 c.args.byte (λ low. digit_high _ _ (omega (arith, other))) (λ h. digit_low _ _ h)

pub returns : goal.returns
returns c =
    let digit = c.if-not-is_ascii_digit.ensures.cases in
    digit_checked c.args.value c.args.byte _ (omega (arith, digit)) (omega (arith, digit)) (rw (c.in_ok-tens.ensures.1, c.from.ensures) at c.checked_add.ensures)
