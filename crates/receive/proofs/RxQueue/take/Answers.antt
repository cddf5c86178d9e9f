-- `RxQueue::take` meets its contract: what is seen, as take gives it.
-- Assumes nothing.
use Rattle.std.proofs.Common.{◌∙◌}
use Rattle.receive.specs.Take.{take_of}
use Rattle.receive.proofs.Takes.{as_taken}
use Rattle.receive.proofs.RxQueue.take.Goals as goal

pub returns : goal.returns
unfolding take_of
returns c = c.taken.ensures ∙ rw c.seen-seen.ensures (as_taken _ _)
