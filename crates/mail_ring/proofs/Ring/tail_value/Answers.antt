-- `Ring::tail_value` meets its contract: the record's test decides.
-- Assumes nothing.
use Rattle.std.proofs.Common.{sym, ◌∙◌}
use Rattle.ring.specs.Queue.{asked_of}
use Rattle.mail_ring.proofs.Record.{placed, tail_step}
use Rattle.mail_ring.proofs.Ring.tail_value.Goals as goal

pub slot-requires : goal.slot-requires
slot-requires c = tail_step (placed _ (sym c.ok.ensures ∙ c.if-ok.true))

pub returns-then-ok : goal.returns-then-ok
unfolding asked_of
returns-then-ok c = rw (← c.ok.ensures, c.if-ok.true, c.slot.ensures.is)

pub returns-else-ok : goal.returns-else-ok
unfolding asked_of
returns-else-ok c = rw (← c.ok.ensures, c.if-ok.false)
