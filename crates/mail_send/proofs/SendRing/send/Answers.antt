-- `SendRing::send` meets its contract: a refusal leaves everything, and an acceptance gives what `put` asks.
-- Assumes nothing.
use Rattle.std.proofs.Common.{sym, ◌∙◌}
use Rattle.mail_send.proofs.Laws.{send_room, send_short}
use Rattle.mail_send.proofs.SendRing.send.Goals as goal

pub send_element-e-requires : goal.send_element-e-requires
send_element-e-requires c = send_short _ _ _ _ _ (sym c.send_answer.ensures ∙ c.in_default.is)

pub put-shared-requires : goal.put-shared-requires
put-shared-requires c = send_room _ _ _ _ _ (sym c.send_answer.ensures ∙ c.in_default.is)
