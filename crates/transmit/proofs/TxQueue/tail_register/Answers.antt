-- `TxQueue::tail_register` meets its contract: the record's test is the judgement.
-- Assumes nothing.
use Rattle.std.proofs.Common.{sym, ◌∙◌}
use Rattle.transmit.proofs.Laws.{kept}
use Rattle.transmit.proofs.TxQueue.tail_register.Goals as goal

pub tail_register-requires : goal.tail_register-requires
tail_register-requires c = λ e. (kept _ (sym c.record_ok.ensures ∙ e)).shared_is
