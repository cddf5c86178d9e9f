-- `RxQueue::burst` meets its contract: a refusal leaves everything, and an acceptance gives what the walk of `burst::packets` asks.
-- Assumes nothing.
use Rattle.std.proofs.Common.{sym, ◌∙◌, refl}
use Rattle.rules.proofs.Answers.{refused_is}
use Rattle.receive.proofs.Bursts.{refused_as, asks, as_burst}
use Rattle.receive.proofs.RxQueue.burst.Goals as goal

pub returns-in-Err : goal.returns-in-Err
returns-in-Err c = refused_as _ _ _ _ _ _ (sym c.in-Err.is ∙ c.burst_refusal.ensures) (refused_is _ refl)

pub packets-polled-requires : goal.packets-polled-requires
packets-polled-requires c =
    let a = c.args in
    asks a.self a.ring.now a.list.now a.out.now a.limit c.burst_refusal.ensures c.in_default.is

pub returns : goal.returns
returns c =
    let a = c.args in
    as_burst a.self a.ring.now a.list.now a.out.now a.limit c.burst_refusal.ensures c.in_default.is _ _ c.packets-polled.ensures
