-- `little::put` meets its contract. The loop's invariant: with the bytes that are left stored, the whole number is.
-- Assumes nothing.
use Rattle.std.proofs.Common.{◌≡◌, ◌+◌, ◌-◌}
use Rattle.slots.specs.Memory.{store_from}
use Rattle.little.specs.Little.{bytes_of}
use Rattle.little.proofs.put.Given as goal

abbrev pub invariant-loop-i : goal.invariant-loop-i
invariant-loop-i l = store_from l.out (l.at + l.i) (bytes_of (l.n - l.i) l.rest) ≡ store_from l.initial.out l.at (bytes_of l.n l.x)
