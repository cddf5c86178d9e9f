-- `RxQueue::tail_register` meets its contract: the record's test is the judgement that the shared part asks for.
-- Assumes nothing.
use Rattle.std.proofs.Common.{sym, ◌∙◌}
use Rattle.receive.proofs.Laws.{kept}
use Rattle.receive.proofs.RxQueue.tail_register.Goals as goal

pub tail_register-requires : goal.tail_register-requires
tail_register-requires c = λ e. kept _ (sym c.record_ok.ensures ∙ e)
