-- `Ring::lent_ok` meets its contract: 32 times the size fits once the record is accepted.
-- Assumes nothing.
use Rattle.std.proofs.Common.{sym, ◌∙◌, arith}
use Rattle.mail_ring.specs.Ring.{lent_ok}
use Rattle.mail_ring.proofs.Record.{placed}
use Rattle.mail_ring.proofs.Ring.lent_ok.Goals as goal

pub overflow_mul-result : goal.overflow_mul-result
overflow_mul-result c = let p = placed _ (sym c.ok.ensures ∙ c.if-ok.true) in omega (arith, p.size_high)

pub returns-then-ok : goal.returns-then-ok
unfolding lent_ok
returns-then-ok c = rw (← c.ok.ensures, c.if-ok.true)

pub returns-else-ok : goal.returns-else-ok
unfolding lent_ok
returns-else-ok c = rw (← c.ok.ensures, c.if-ok.false)
