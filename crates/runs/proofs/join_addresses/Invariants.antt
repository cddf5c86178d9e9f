-- `runs::join_addresses` meets its contract, by the laws of `Storing`.
-- Assumes nothing.
use Rattle.std.proofs.Common.{length}
use Rattle.runs.specs.Runs.{joined_addresses, valid}
use Rattle.runs.proofs.Storing.{Storing}
use Rattle.runs.proofs.join_addresses.Given as goal

abbrev pub invariant-loop-r : goal.invariant-loop-r
invariant-loop-r l = Storing (length l.addresses) l.plan (joined_addresses l.addresses l.plan valid) l.places l.at l.r
