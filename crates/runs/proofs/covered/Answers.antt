-- `runs::covered` meets its contract, by the laws of `Storing`.
-- Assumes nothing.
use Rattle.std.proofs.Common.{arith}
use Rattle.runs.proofs.Storing.{counting_first, counting_next, counting_no, counting_done}
use Rattle.runs.proofs.covered.Goals as goal

pub loop-p-init : goal.loop-p-init
loop-p-init c = counting_first _ _

pub returns-else-p-left : goal.returns-else-p-left
returns-else-p-left c = counting_no c.loop-p.invariant (omega arith) c.if-p-left.false

pub loop-p-preserved : goal.loop-p-preserved
loop-p-preserved c = counting_next c.loop-p.invariant (omega arith) c.if-p-left.true

pub returns : goal.returns
returns c = counting_done c.loop-p.invariant (omega arith)
