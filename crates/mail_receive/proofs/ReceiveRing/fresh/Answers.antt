-- `ReceiveRing::fresh` meets its contract: the record's test decides.
-- Assumes nothing.
use Rattle.mail_receive.specs.Receiving.{fresh_of}
use Rattle.mail_receive.proofs.ReceiveRing.fresh.Goals as goal

pub returns-then-ok : goal.returns-then-ok
unfolding fresh_of
returns-then-ok c = rw (← c.empty-shared.ensures, ← c.ok.ensures, c.if-ok.true)

pub returns-else-ok : goal.returns-else-ok
unfolding fresh_of
returns-else-ok c = rw (← c.empty-shared.ensures, ← c.ok.ensures, c.if-ok.false, c.empty.ensures)
