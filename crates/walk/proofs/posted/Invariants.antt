-- `posted` meets its contract. The loop's invariant: k slots are seen, none the last of its packet (`Walked`); each way out is one law of it.
-- Assumes nothing.
use Rattle.scan.proofs.Walk.{Walked, Placed}
use Rattle.walk.proofs.posted.Given as goal

abbrev pub invariant-loop-k : goal.invariant-loop-k
invariant-loop-k l = Walked l.queue l.buffer l.ring l.list l.total l.k × Placed l.queue l.buffer l.ring l.list l.addresses l.lengths l.k
