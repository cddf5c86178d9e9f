-- `digits::spell` meets its contract. The last digits of the rest, put before those that are written, give the whole, and the rest has no more digits than
-- are left. Assumes nothing.
use Rattle.std.proofs.Common.{◌≡◌, ◌≤◌, ◌<◌, ◌^◌, length}
use lib.Seq.{sets}
use Rattle.digits.specs.Digits.{digits_of}
use Rattle.digits.proofs.Written.{lasts}
use Rattle.digits.proofs.spell.Given as goal

abbrev pub invariant-loop-left : goal.invariant-loop-left
invariant-loop-left l =
    (length l.out ≡ length l.initial.out) × (sets l.out l.at (lasts l.left l.rest) ≡ sets l.initial.out l.at (digits_of l.n)) × (1 ≤ l.left) × (l.rest < 10 ^ l.left)
