-- `packets` meets its contract. The loop's invariant: so many packets are found and told (`Polling`); each way out is one law of it.
-- Assumes nothing.
use Rattle.burst.proofs.Polling.{Polling}
use Rattle.burst.proofs.packets.Given as goal

abbrev pub invariant-loop-packets : goal.invariant-loop-packets
invariant-loop-packets l = Polling l.initial.queue l.buffer l.ring l.initial.out l.limit l.out l.queue l.packets l.examined
