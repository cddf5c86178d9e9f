-- `Ring::tail_register` meets its contract: the record's test decides.
-- Assumes nothing.
use Rattle.ring.specs.Queue.{asked_of}
use Rattle.mail_ring.proofs.Ring.tail_register.Goals as goal

pub returns-then-ok : goal.returns-then-ok
unfolding asked_of
returns-then-ok c = rw (← c.ok.ensures, c.if-ok.true)

pub returns-else-ok : goal.returns-else-ok
unfolding asked_of
returns-else-ok c = rw (← c.ok.ensures, c.if-ok.false)
