-- `SendRing::shutdown_answer` meets its contract: each way through the code is one check of the list.
-- Assumes nothing.
use Rattle.std.proofs.Common.{sym, ◌∙◌}
use Rattle.mail_ring.proofs.Record.{lent}
use Rattle.mail_send.specs.Sending.{shutdown_answer}
use Rattle.mail_send.proofs.SendRing.shutdown_answer.Goals as goal

pub returns-then-not-lent_ok : goal.returns-then-not-lent_ok
unfolding shutdown_answer
returns-then-not-lent_ok c = rw (sym c.lent_ok.ensures ∙ c.if-not-lent_ok.true)

pub returns-then-self : goal.returns-then-self
unfolding shutdown_answer
returns-then-self c = rw (sym c.lent_ok.ensures ∙ c.if-not-lent_ok.false, c.if-self.true)

pub full-requires : goal.full-requires
full-requires c = (lent _ _ _ (sym c.lent_ok.ensures ∙ c.if-not-lent_ok.false)).is

pub returns-then-full : goal.returns-then-full
unfolding shutdown_answer
returns-then-full c = rw (sym c.lent_ok.ensures ∙ c.if-not-lent_ok.false, c.if-self.false, ← c.full.ensures, c.if-full.true)

pub returns : goal.returns
unfolding shutdown_answer
returns c = rw (sym c.lent_ok.ensures ∙ c.if-not-lent_ok.false, c.if-self.false, ← c.full.ensures, c.if-full.false)
