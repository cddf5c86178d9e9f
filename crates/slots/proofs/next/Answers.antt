-- `slots::next` meets its contract: a sum that reaches the size is the size, and less a lap it is 0.
-- Assumes nothing.
use Rattle.std.proofs.Common.{◌+◌, ◌-◌, ◌≡◌, arith}
use Rattle.slots.proofs.Steps.{sum_is, lap_is}
use Rattle.slots.proofs.next.Goals as goal

pub returns-then-next-size : goal.returns-then-next-size
returns-then-next-size c = sum_is c.requires c.if-next-size.true

pub returns-else-next-size : goal.returns-else-next-size
returns-else-next-size c =
    let none : c.args.at + 1 - c.args.size ≡ 0 = omega (arith, c.requires.head_below) in
    rw none at (lap_is c.requires c.if-next-size.false)
