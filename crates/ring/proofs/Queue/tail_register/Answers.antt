-- `Queue::tail_register` meets its contract: the judgement decides, and an accepted queue number is small.
-- Assumes nothing.
use Rattle.ring.specs.Queue.{asked_of}
use Rattle.ring.proofs.Queue.tail_register.Goals as goal

pub returns-then-ok : goal.returns-then-ok
unfolding asked_of
returns-then-ok c = rw c.if-ok.true

pub returns-else-ok : goal.returns-else-ok
unfolding asked_of
returns-else-ok c = rw c.if-ok.false
