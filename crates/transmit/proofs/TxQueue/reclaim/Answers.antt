-- `TxQueue::reclaim` meets its contract.
-- Assumes nothing.
use Rattle.std.proofs.Common.{arith}
use Rattle.transmit.proofs.Laws.{reclaimable_by}
use Rattle.transmit.proofs.TxQueue.reclaim.Goals as goal

pub offset_bounds-counts-head : goal.offset_bounds-counts-head
offset_bounds-counts-head c = let h = reclaimable_by _ _ _ _ c.reclaim_answer-answer.ensures c.is_err.ensures.negation c.if-is_err.false in omega arith

pub bounds-counts-head : goal.bounds-counts-head
bounds-counts-head c = let h = reclaimable_by _ _ _ _ c.reclaim_answer-answer.ensures c.is_err.ensures.negation c.if-is_err.false in omega arith

pub advanced-requires : goal.advanced-requires
advanced-requires c = let h = reclaimable_by _ _ _ _ c.reclaim_answer-answer.ensures c.is_err.ensures.negation c.if-is_err.false in record { is = h.lent_is.is.shared_is; posted_all = h.count_is.most }

pub offset_bounds-tokens-head : goal.offset_bounds-tokens-head
offset_bounds-tokens-head c = let h = reclaimable_by _ _ _ _ c.reclaim_answer-answer.ensures c.is_err.ensures.negation c.if-is_err.false in omega arith

pub bounds-tokens-head : goal.bounds-tokens-head
bounds-tokens-head c = let h = reclaimable_by _ _ _ _ c.reclaim_answer-answer.ensures c.is_err.ensures.negation c.if-is_err.false in omega arith
