-- `RxQueue::record_ok` meets its contract: the shared lines and that of the buffer size, joined.
-- Assumes nothing.
use Rattle.receive.specs.Queue.{record_ok}
use Rattle.receive.proofs.RxQueue.record_ok.Goals as goal

pub returns : goal.returns
unfolding record_ok
returns c = rw c.ok.ensures
