-- `digits::digit_count` meets its contract: one digit more than the power of ten that the number reaches. Assumes nothing.
use Rattle.std.proofs.Common.{arith}
use Rattle.digits.proofs.Written.{one_digit, count_of_digits}
use Rattle.digits.proofs.digit_count.Goals as goal
use Rattle.digits.proofs.digit_count.Goals.{then-n-lt10, else-n-lt10}

pub returns : goal.returns
returns c =
    elim c.if-n-lt10.branch [
      | then-n-lt10 w ↦ rw w.result-is (omega (arith, one_digit c.args.n (omega arith)))
      | else-n-lt10 w ↦
          let e = w.ilog10.ensures in
          rw w.result-is (omega (arith, count_of_digits c.args.n w.ilog10.result (omega arith) (omega (arith, e.power_le)) (omega (arith, e.next_power_gt))))
    ]
