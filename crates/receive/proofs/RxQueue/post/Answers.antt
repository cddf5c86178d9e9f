-- `RxQueue::post` meets its contract: a refusal leaves everything, and an acceptance gives what `put` and `one_more` ask.
-- Assumes nothing.
use Rattle.std.proofs.Common.{sym, ◌∙◌}
use Rattle.receive.proofs.Laws.{done_lent, done_grows}
use Rattle.receive.proofs.RxQueue.post.Goals as goal

pub one_more-queue-requires : goal.one_more-queue-requires
one_more-queue-requires c = done_grows _ _ _ _ (sym c.post_answer.ensures ∙ c.in_default.is)

pub put-requires : goal.put-requires
put-requires c = done_lent _ _ _ _ (sym c.post_answer.ensures ∙ c.in_default.is)
