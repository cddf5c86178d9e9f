-- `sum::sum_of` meets its contract. The sum so far, taken on over the rest, is the whole (`Sofar`). Assumes nothing.
use Rattle.std.proofs.Common.{map}
use Rattle.sum.proofs.Sofar.{Sofar}
use Rattle.sum.proofs.sum_of.Given as goal

abbrev pub invariant-loop-x : goal.invariant-loop-x
invariant-loop-x g l = Sofar (map g.T.Summand.value l.part) l.h l.x-index
