-- `decimal::read` meets its contract. Assumes nothing.
use Rattle.std.proofs.Common.{sym, ◌∙◌, arith}
use Rattle.decimal.proofs.Reading.{read_stops, read_goes, read_ends}
use Rattle.decimal.proofs.read.Goals as goal

pub returns-in_err-sofar : goal.returns-in_err-sofar
returns-in_err-sofar c =
    let s = c.loop-byte in
    c.from_residual.ensures ∙ sym (read_stops c.args.word.now s.byte-index s.sofar c.loop-byte-test.true (sym c.next_read.ensures ∙ c.in_err-sofar.was)) ∙ s.invariant.2

pub loop-byte-preserved : goal.loop-byte-preserved
loop-byte-preserved c =
    let s = c.loop-byte in
    let g = read_goes c.args.word.now s.byte-index s.sofar c.in_ok-sofar.sofar c.loop-byte-test.true (sym c.next_read.ensures ∙ c.in_ok-sofar.was) in
    (omega arith, g.0, sym g.1 ∙ s.invariant.2)

pub returns : goal.returns
returns c =
    let s = c.loop-byte in
    sym (read_ends c.args.word.now s.byte-index s.sofar (omega arith) s.invariant.1) ∙ s.invariant.2
