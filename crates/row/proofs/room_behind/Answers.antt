-- `row::room_behind` meets its contract. What is left, less the rest of the row, is the room less the whole row. Assumes nothing.
use Rattle.std.proofs.Common.{length, get_or, ap, arith}
use Rattle.digits.proofs.Written.{digits_short}
use Rattle.row.proofs.Printing.{fields_longer, fields_end}
use Rattle.row.proofs.room_behind.Goals as goal

pub overflow_add-digit_count : goal.overflow_add-digit_count
overflow_add-digit_count c =
    let n = get_or c.args.numbers.now c.loop-number.number-index 0 in
    omega (arith, c.digit_count.ensures, digits_short n (omega (arith, c.type_inv.numbers c.loop-number.number-index)))

pub loop-number-preserved : goal.loop-number-preserved
loop-number-preserved c =
    (omega arith, omega (arith, c.saturating_sub-left.ensures, c.digit_count.ensures, c.loop-number.invariant.1, fields_longer c.args.numbers.now c.loop-number.number-index (omega arith)))

pub returns : goal.returns
returns c =
    omega (arith, c.saturating_sub.ensures, c.loop-number.invariant.1, ap length (fields_end c.args.numbers.now c.loop-number.number-index (omega arith)))
