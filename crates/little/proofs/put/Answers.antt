-- `little::put` meets its contract: each turn stores the lowest byte of what is left.
-- Assumes nothing.
use Rattle.little.proofs.Steps.{put_one}
use Rattle.little.proofs.put.Goals as goal

pub loop-i-preserved : goal.loop-i-preserved
loop-i-preserved c =
    let a = c.args in
    let l = c.loop-i in
    put_one l.out a.at a.n l.i l.rest _ c.loop-i-test.true l.invariant
