-- `RxQueue::seen` meets its contract: 1 where the record or a slice is wrong, else what the scan gives.
-- Assumes nothing.
use Rattle.std.proofs.Common.{sym, ◌∙◌}
use Rattle.scan.specs.Told.{seen_by}
use Rattle.receive.specs.Take.{look}
use Rattle.receive.proofs.Laws.{lent}
use Rattle.receive.proofs.RxQueue.seen.Goals as goal

pub posted-requires : goal.posted-requires
posted-requires c = lent _ _ _ (sym c.lent_ok.ensures ∙ c.if-lent_ok.true)

pub returns-then-lent_ok : goal.returns-then-lent_ok
unfolding look
returns-then-lent_ok c = rw (← c.lent_ok.ensures, c.if-lent_ok.true) c.posted.ensures

pub returns-else-lent_ok : goal.returns-else-lent_ok
unfolding look seen_by
returns-else-lent_ok c = rw (← c.lent_ok.ensures, c.if-lent_ok.false) c.refused.ensures
