-- `segments::header_pieces` meets its contract: `s` is the bytes of the first `i` pieces, each of which begins within the header. Assumes nothing.
use Rattle.std.proofs.Common.{ℕ, ◌<◌, ◌≡◌, length}
use Rattle.segments.specs.Touch.{start_of}
use Rattle.segments.proofs.header_pieces.Given as goal

abbrev pub invariant-loop-i : goal.invariant-loop-i
invariant-loop-i l = (l.s ≡ start_of l.lengths (length l.yielded)) × ((k : ℕ) → k < length l.yielded → start_of l.lengths k < l.header)
