-- `TxQueue::send` meets its contract.
-- Assumes nothing.
use Rattle.std.proofs.Common.{arith}
use Rattle.transmit.proofs.Laws.{sendable_by}
use Rattle.transmit.proofs.TxQueue.send.Goals as goal

pub tail-tail-requires : goal.tail-tail-requires
tail-tail-requires c = (sendable_by _ _ _ _ _ _ _ c.send_answer-answer.ensures c.is_err.ensures.negation c.if-is_err.false).lent_is.is.shared_is

pub slots_of-slots-requires : goal.slots_of-slots-requires
slots_of-slots-requires c = (sendable_by _ _ _ _ _ _ _ c.send_answer-answer.ensures c.is_err.ensures.negation c.if-is_err.false).own.few

pub put_descriptors-requires : goal.put_descriptors-requires
put_descriptors-requires c =
    let r = sendable_by _ _ _ _ _ _ _ c.send_answer-answer.ensures c.is_err.ensures.negation c.if-is_err.false in
    record {
      ring_long = r.lent_is.ring_long;
      size_high = omega (arith, r.lent_is.is.shared_is);
      start_below = c.tail-tail.ensures.below;
      paired = r.own.paired;
      some = r.own.some;
      fewer = omega (arith, r.grow.room);
      short = λ i l. omega (arith, r.own.each i l);
    }

pub bounds-tokens-tail : goal.bounds-tokens-tail
bounds-tokens-tail c = let h = (sendable_by _ _ _ _ _ _ _ c.send_answer-answer.ensures c.is_err.ensures.negation c.if-is_err.false).lent_is in omega (arith, h.tokens_long, c.tail-tail.ensures.below)

pub overflow_cast-counts : goal.overflow_cast-counts
overflow_cast-counts c =
    let r = sendable_by _ _ _ _ _ _ _ c.send_answer-answer.ensures c.is_err.ensures.negation c.if-is_err.false in
    omega (arith, c.slots_of-slots.ensures, r.grow.room, r.lent_is.is.shared_is)

pub bounds-counts-tail : goal.bounds-counts-tail
bounds-counts-tail c = let h = (sendable_by _ _ _ _ _ _ _ c.send_answer-answer.ensures c.is_err.ensures.negation c.if-is_err.false).lent_is in omega (arith, h.counts_long, c.tail-tail.ensures.below)

pub grown-requires : goal.grown-requires
grown-requires c = rw c.slots_of-slots.ensures (sendable_by _ _ _ _ _ _ _ c.send_answer-answer.ensures c.is_err.ensures.negation c.if-is_err.false).grow
