-- `RxQueue::lent_ok` meets its contract: twice the size fits once the record is accepted.
-- Assumes nothing.
use Rattle.std.proofs.Common.{arith, sym, ◌∙◌}
use Rattle.receive.proofs.Laws.{kept}
use Rattle.receive.specs.Queue.{lent_ok}
use Rattle.receive.proofs.RxQueue.lent_ok.Goals as goal

pub overflow_mul-result : goal.overflow_mul-result
overflow_mul-result c = let h = kept _ (sym c.record_ok.ensures ∙ c.if-record_ok.true) in omega arith

pub returns-then-record_ok : goal.returns-then-record_ok
unfolding lent_ok
returns-then-record_ok c = rw (sym c.record_ok.ensures, c.if-record_ok.true)

pub returns-else-record_ok : goal.returns-else-record_ok
unfolding lent_ok
returns-else-record_ok c = rw (sym c.record_ok.ensures, c.if-record_ok.false)
