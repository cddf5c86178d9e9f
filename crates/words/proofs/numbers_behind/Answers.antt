-- `words::numbers_behind` meets its contract. Assumes nothing.
use Rattle.std.proofs.Common.{length, arith, le-leb}
use Rattle.words.proofs.Splits.{words_from, words_none}
use Rattle.words.proofs.numbers_behind.Goals as goal

pub returns-then-end-line : goal.returns-then-end-line
returns-then-end-line c =
    let e = words_from c.args.line.now c.args.end c.if-end-line.true in
    record { answer_is = rw (← e) c.numbers_of.ensures.answer_is; numbers_are = rw (← e) c.numbers_of.ensures.numbers_are }

pub returns-else-end-line : goal.returns-else-end-line
returns-else-end-line c =
    let e = words_none c.args.line.now c.args.end (omega (arith, c.if-end-line.false)) in
    record { answer_is = rw (e, le-leb 0 (length c.args.out.now) (omega arith)); numbers_are = rw e }
