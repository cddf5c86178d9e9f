-- `slot_ok` meets its contract: below the sixth slot, and in it.
-- Assumes nothing.
use Rattle.std.proofs.Common.{lt-ltb, le-ltb}
use Rattle.scan.specs.Scan.{allowed}
use Rattle.scan.proofs.slot_ok.Goals as goal

pub returns-then-k-lt-DATA_SLOTS : goal.returns-then-k-lt-DATA_SLOTS
unfolding allowed
returns-then-k-lt-DATA_SLOTS c = rw (lt-ltb _ _ c.if-k-lt-DATA_SLOTS.true, c.length-length.ensures, c.eop-last.ensures)

pub returns-else-k-lt-DATA_SLOTS : goal.returns-else-k-lt-DATA_SLOTS
unfolding allowed
returns-else-k-lt-DATA_SLOTS c = rw (le-ltb _ _ c.if-k-lt-DATA_SLOTS.false, c.length-length.ensures, c.eop-last.ensures)
