-- `runs::join_lengths` meets its contract, by the laws of `Storing`.
-- Assumes nothing.
use Rattle.std.proofs.Common.{length}
use Rattle.runs.specs.Runs.{joined, noted}
use Rattle.runs.proofs.Storing.{Storing}
use Rattle.runs.proofs.join_lengths.Given as goal

abbrev pub invariant-loop-r : goal.invariant-loop-r
invariant-loop-r l = Storing (length l.lengths) l.plan (noted (joined l.lengths l.plan)) l.sizes l.at l.r
