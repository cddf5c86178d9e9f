-- `runs::place_copies` meets its contract, by the laws of `Storing`.
-- Assumes nothing.
use Rattle.runs.proofs.Storing.{Placing}
use Rattle.runs.proofs.place_copies.Given as goal

abbrev pub invariant-loop-r : goal.invariant-loop-r
invariant-loop-r l = Placing l.plan l.joined l.initial.places l.places l.r
