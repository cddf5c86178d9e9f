-- `TxQueue::lent_ok` meets its contract.
-- Assumes nothing.
use Rattle.std.proofs.Common.{sym, ◌∙◌, arith}
use Rattle.transmit.proofs.Laws.{kept}
use Rattle.transmit.proofs.TxQueue.lent_ok.Goals as goal

pub overflow_mul-result : goal.overflow_mul-result
overflow_mul-result c = let h = kept _ (sym c.record_ok.ensures ∙ c.if-record_ok.true) in omega arith
