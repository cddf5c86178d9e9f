-- `little::copy` meets its contract. The loop's invariant: with the bytes that are left stored, all are.
-- Assumes nothing.
use Rattle.std.proofs.Common.{arith, length-set}
use Rattle.slots.proofs.Pieces.{store_one}
use Rattle.little.proofs.copy.Goals as goal

pub loop-i-preserved : goal.loop-i-preserved
loop-i-preserved c =
    let a = c.args in
    let l = c.loop-i in
    (simp length-set l.invariant.0, store_one l.out a.at a.bytes.now l.i _ (omega arith) l.invariant.1)
