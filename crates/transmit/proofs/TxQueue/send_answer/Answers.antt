-- `TxQueue::send_answer` meets its contract: each answer by the tests on the way.
-- Assumes nothing.
use Rattle.std.proofs.Common.{sym, ◌∙◌}
use Rattle.packet.proofs.Accepted.{accepted}
use Rattle.transmit.proofs.Laws.{lent}
use Rattle.transmit.proofs.TxQueue.send_answer.Goals as goal

pub no_room-requires : goal.no_room-requires
no_room-requires c = (lent _ _ _ _ (sym c.lent_ok.ensures ∙ c.if-not-lent_ok.false)).is.shared_is

pub slots_of-requires : goal.slots_of-requires
slots_of-requires c = (accepted _ _ _ _ (sym c.judge.ensures ∙ c.in_ok-judge.was)).few
