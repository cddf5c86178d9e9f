-- `runs::run_bytes` meets its contract: `bytes` is the bytes of the pieces passed, from `from` on.
-- Assumes nothing.
use Rattle.std.proofs.Common.{◌+◌, ◌≤◌, ◌≡◌}
use Rattle.segments.specs.Touch.{start_of}
use Rattle.request.specs.Sound.{most_length}
use Rattle.runs.proofs.run_bytes.Given as goal

abbrev pub invariant-loop-l : goal.invariant-loop-l
invariant-loop-l l = (l.from + l.l-index ≤ l.upto) × (start_of l.lengths l.from + l.bytes ≡ start_of l.lengths (l.from + l.l-index)) × (l.bytes ≤ most_length)
