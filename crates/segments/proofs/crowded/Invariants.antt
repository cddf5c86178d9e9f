-- `segments::crowded` meets its contract, by the laws of `Sweep`. Assumes nothing.
use Rattle.std.proofs.Common.{◌+◌, length}
use Rattle.segments.proofs.Sweep.{Swept}
use Rattle.segments.proofs.crowded.Given as goal

abbrev pub invariant-loop-last : goal.invariant-loop-last
invariant-loop-last l = Swept l.lengths l.header l.mss l.tlen l.head (l.head + length l.yielded) l.end l.start
