-- `pieces::walk` meets its contract: the invariant is what holds of the pieces passed.
-- Assumes nothing.
use Rattle.std.proofs.Common.{length}
use Rattle.pieces.proofs.Passed.{Passed}
use Rattle.pieces.proofs.walk.Given as goal

abbrev pub invariant-loop-address : goal.invariant-loop-address
invariant-loop-address l = Passed l.addresses l.lengths l.addresses_ok l.total (length l.yielded)
