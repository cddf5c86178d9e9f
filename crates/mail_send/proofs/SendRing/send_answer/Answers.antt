-- `SendRing::send_answer` meets its contract: each way through the code is one check of the list.
-- Assumes nothing.
use Rattle.std.proofs.Common.{sym, ◌∙◌}
use Rattle.mail_ring.proofs.Record.{lent}
use Rattle.mail_send.specs.Sending.{send_answer}
use Rattle.mail_send.proofs.SendRing.send_answer.Goals as goal

pub returns-then-not-lent_ok : goal.returns-then-not-lent_ok
unfolding send_answer
returns-then-not-lent_ok c = rw (sym c.lent_ok.ensures ∙ c.if-not-lent_ok.true)

pub returns-then-self : goal.returns-then-self
unfolding send_answer
returns-then-self c = rw (sym c.lent_ok.ensures ∙ c.if-not-lent_ok.false, c.if-self.true)

pub returns-then-length_wrong : goal.returns-then-length_wrong
unfolding send_answer
returns-then-length_wrong c = rw (sym c.lent_ok.ensures ∙ c.if-not-lent_ok.false, c.if-self.false, ← c.length_wrong.ensures, c.if-length_wrong.true)

pub returns-then-message-address_wrong : goal.returns-then-message-address_wrong
unfolding send_answer
returns-then-message-address_wrong c = rw (sym c.lent_ok.ensures ∙ c.if-not-lent_ok.false, c.if-self.false, ← c.length_wrong.ensures, c.if-length_wrong.false, ← c.address_wrong.ensures, c.if-message-address_wrong.true)

pub full-requires : goal.full-requires
full-requires c = (lent _ _ _ (sym c.lent_ok.ensures ∙ c.if-not-lent_ok.false)).is

pub returns-then-full : goal.returns-then-full
unfolding send_answer
returns-then-full c = rw (sym c.lent_ok.ensures ∙ c.if-not-lent_ok.false, c.if-self.false, ← c.length_wrong.ensures, c.if-length_wrong.false, ← c.address_wrong.ensures, c.if-message-address_wrong.false, ← c.full.ensures, c.if-full.true)

pub returns : goal.returns
unfolding send_answer
returns c = rw (sym c.lent_ok.ensures ∙ c.if-not-lent_ok.false, c.if-self.false, ← c.length_wrong.ensures, c.if-length_wrong.false, ← c.address_wrong.ensures, c.if-message-address_wrong.false, ← c.full.ensures, c.if-full.false)
