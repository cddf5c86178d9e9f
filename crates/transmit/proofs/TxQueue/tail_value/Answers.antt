-- `TxQueue::tail_value` meets its contract: the record's test is the judgement.
-- Assumes nothing.
use Rattle.std.proofs.Common.{sym, ◌∙◌}
use Rattle.transmit.proofs.Laws.{kept}
use Rattle.transmit.proofs.TxQueue.tail_value.Goals as goal

pub tail_value-requires : goal.tail_value-requires
tail_value-requires c = λ e. (kept _ (sym c.record_ok.ensures ∙ e)).shared_is
