-- `TxQueue::reclaim_answer` meets its contract: 1 where the record or a slice is wrong, else the answer by the packet at head.
-- Assumes nothing.
use Rattle.std.proofs.Common.{sym, ◌∙◌}
use Rattle.transmit.proofs.Laws.{lent}
use Rattle.transmit.proofs.TxQueue.reclaim_answer.Goals as goal

pub answer-requires : goal.answer-requires
answer-requires c =
    let l = lent _ _ _ _ (sym c.lent_ok.ensures ∙ c.if-not-lent_ok.false) in
    record { reads = record { is = l.is.shared_is; ring_long = l.ring_long }; list_long = l.counts_long }
