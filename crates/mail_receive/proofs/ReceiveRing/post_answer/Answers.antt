-- `ReceiveRing::post_answer` meets its contract: each way through the code is one check of the list.
-- Assumes nothing.
use Rattle.std.proofs.Common.{sym, ◌∙◌}
use Rattle.mail_ring.proofs.Record.{lent}
use Rattle.mail_receive.specs.Receiving.{post_answer}
use Rattle.mail_receive.proofs.ReceiveRing.post_answer.Goals as goal

pub returns-then-not-lent_ok : goal.returns-then-not-lent_ok
unfolding post_answer
returns-then-not-lent_ok c = rw (sym c.lent_ok.ensures ∙ c.if-not-lent_ok.true)

pub returns-then-room-length_wrong : goal.returns-then-room-length_wrong
unfolding post_answer
returns-then-room-length_wrong c = rw (sym c.lent_ok.ensures ∙ c.if-not-lent_ok.false, ← c.length_wrong.ensures, c.if-room-length_wrong.true)

pub returns-then-address_wrong : goal.returns-then-address_wrong
unfolding post_answer
returns-then-address_wrong c = rw (sym c.lent_ok.ensures ∙ c.if-not-lent_ok.false, ← c.length_wrong.ensures, c.if-room-length_wrong.false, ← c.address_wrong.ensures, c.if-address_wrong.true)

pub full-requires : goal.full-requires
full-requires c = (lent _ _ _ (sym c.lent_ok.ensures ∙ c.if-not-lent_ok.false)).is

pub returns-then-full : goal.returns-then-full
unfolding post_answer
returns-then-full c = rw (sym c.lent_ok.ensures ∙ c.if-not-lent_ok.false, ← c.length_wrong.ensures, c.if-room-length_wrong.false, ← c.address_wrong.ensures, c.if-address_wrong.false, ← c.full.ensures, c.if-full.true)

pub returns : goal.returns
unfolding post_answer
returns c = rw (sym c.lent_ok.ensures ∙ c.if-not-lent_ok.false, ← c.length_wrong.ensures, c.if-room-length_wrong.false, ← c.address_wrong.ensures, c.if-address_wrong.false, ← c.full.ensures, c.if-full.false)
