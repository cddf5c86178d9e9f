-- `little::copy` meets its contract. The loop's invariant: with the bytes that are left stored, all are.
-- Assumes nothing.
use Rattle.std.proofs.Common.{◌+◌, ◌≡◌, length, drop}
use Rattle.slots.specs.Memory.{store_from}
use Rattle.little.proofs.copy.Given as goal

abbrev pub invariant-loop-i : goal.invariant-loop-i
invariant-loop-i l = (length l.out ≡ length l.initial.out) × (store_from l.out (l.at + l.i) (drop l.i l.bytes) ≡ store_from l.initial.out l.at l.bytes)
