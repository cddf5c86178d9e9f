-- `fill::put_leading` meets its contract. The loop's invariant: the ring has the pieces passed, and `at` is the slot behind them.
-- Assumes nothing.
use Rattle.std.proofs.Common.{length}
use Rattle.fill.specs.Steps.{Filled, leading_numbers}
use Rattle.fill.proofs.put_leading.Given as goal

abbrev pub invariant-loop-address : goal.invariant-loop-address
invariant-loop-address l =
    Filled l.initial.ring l.ring (leading_numbers l.alike l.addresses l.lengths) l.size l.start (length l.yielded) l.at
