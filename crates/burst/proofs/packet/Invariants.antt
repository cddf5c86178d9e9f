-- `packet` meets its contract. The loop's invariant: k slots are passed, none the last of its packet (`Walking`); each way out is one law of it.
-- Assumes nothing.
use Rattle.burst.proofs.Walk.{Walking}
use Rattle.burst.proofs.packet.Given as goal

abbrev pub invariant-loop-k : goal.invariant-loop-k
invariant-loop-k l = Walking l.queue l.buffer l.ring l.at l.total l.k
