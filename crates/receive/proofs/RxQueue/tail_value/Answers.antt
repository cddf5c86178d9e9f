-- `RxQueue::tail_value` meets its contract: the record's test is the judgement that the shared part asks for.
-- Assumes nothing.
use Rattle.std.proofs.Common.{sym, ◌∙◌}
use Rattle.receive.proofs.Laws.{kept}
use Rattle.receive.proofs.RxQueue.tail_value.Goals as goal

pub tail_value-requires : goal.tail_value-requires
tail_value-requires c = λ e. kept _ (sym c.record_ok.ensures ∙ e)
