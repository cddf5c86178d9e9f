-- `slots::slot` meets its contract: the sum fits, and it is the slot at that distance, or that slot and a lap.
-- Assumes nothing.
use Rattle.slots.proofs.Steps.{sum_is, lap_is}
use Rattle.slots.proofs.slot.Goals as goal

pub returns-then-at-size : goal.returns-then-at-size
returns-then-at-size c = sum_is c.requires c.if-at-size.true

pub returns-else-at-size : goal.returns-else-at-size
returns-else-at-size c = lap_is c.requires c.if-at-size.false
