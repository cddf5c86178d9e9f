-- `ReceiveRing::post` meets its contract: a refusal leaves everything, and an acceptance gives what `put` asks.
-- Assumes nothing.
use Rattle.std.proofs.Common.{sym, ◌∙◌}
use Rattle.mail_receive.proofs.Laws.{post_room, post_short}
use Rattle.mail_receive.proofs.ReceiveRing.post.Goals as goal

pub room_element-e-requires : goal.room_element-e-requires
room_element-e-requires c = post_short _ _ _ _ _ (sym c.post_answer.ensures ∙ c.in_default.is)

pub put-shared-requires : goal.put-shared-requires
put-shared-requires c = post_room _ _ _ _ _ (sym c.post_answer.ensures ∙ c.in_default.is)
