-- `runs::covered` meets its contract, by the laws of `Storing`.
-- Assumes nothing.
use Rattle.runs.proofs.Storing.{Counting}
use Rattle.runs.proofs.covered.Given as goal

abbrev pub invariant-loop-p : goal.invariant-loop-p
invariant-loop-p l = Counting l.n l.plan l.left l.p-index
