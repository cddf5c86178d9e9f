-- `runs::fill` meets its contract, by the laws of `Filling`.
-- Assumes nothing.
use Rattle.std.proofs.Common.{◌+◌}
use Rattle.runs.proofs.Filling.{Filling}
use Rattle.runs.proofs.fill.Given as goal

abbrev pub invariant-loop-l : goal.invariant-loop-l
invariant-loop-l l = Filling l.by l.lengths l.cap l.initial.runs l.runs l.count l.held l.bytes (l.l-index + 1)
