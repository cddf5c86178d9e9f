-- `decimal::next_read` meets its contract. Assumes nothing.
use Rattle.std.proofs.Common.{◌+◌, Some, refl, sym, ◌∙◌, arith}
use Rattle.decimal.specs.Numbers.{next_read}
use Rattle.decimal.proofs.Reading.{too_large, digit_added}
use Rattle.decimal.proofs.next_read.Goals as goal

pub returns-in_err-tens : goal.returns-in_err-tens
returns-in_err-tens c = c.from_residual.ensures ∙ sym (too_large c.args.sofar c.args.byte (omega (arith, c.in_err-tens.ensures)))

pub returns-then-digit-tens : goal.returns-then-digit-tens
returns-then-digit-tens c =
    let m = c.in_ok-tens.tens + c.from-digit.result in
    digit_added c.args.sofar c.args.byte m (Some m) (rw c.is_ascii_digit.ensures.value at c.if-is_ascii_digit.true) (omega (arith, c.in_ok-tens.ensures, c.from-digit.ensures)) (omega arith, refl)

pub returns-else-digit-tens : goal.returns-else-digit-tens
returns-else-digit-tens c = sym (too_large c.args.sofar c.args.byte (omega (arith, c.in_ok-tens.ensures, c.from-digit.ensures)))

pub returns-else-is_ascii_digit : goal.returns-else-is_ascii_digit
unfolding next_read
returns-else-is_ascii_digit c = rw (rw c.is_ascii_digit.ensures.value at c.if-is_ascii_digit.false)
