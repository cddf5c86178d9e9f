-- `SendRing::shutdown` meets its contract: a refusal leaves everything, and an acceptance gives what `put` asks.
-- Assumes nothing.
use Rattle.std.proofs.Common.{sym, ◌∙◌}
use Rattle.mail_send.proofs.Laws.{shutdown_room}
use Rattle.mail_send.proofs.SendRing.shutdown.Goals as goal

pub put-shared-requires : goal.put-shared-requires
put-shared-requires c = shutdown_room _ _ _ (sym c.shutdown_answer.ensures ∙ c.in_default.is)
