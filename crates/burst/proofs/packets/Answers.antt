-- `packets` meets its contract. The loop's invariant: so many packets are found and told (`Polling`); each way out is one law of it.
-- Assumes nothing.
use Rattle.std.proofs.Common.{◌≡◌, sym, ◌∙◌, arith}
use Rattle.rules.proofs.Answers.{is_err-refused, not_err-done}
use Rattle.burst.proofs.Polling.{begins, out_long, at_limit, at_stop, goes_on, found_keeps}
use Rattle.burst.proofs.packets.Goals as goal

pub loop-packets-init : goal.loop-packets-init
loop-packets-init c = begins _ _ _ _ _ c.requires

pub overflow_add-examined : goal.overflow_add-examined
overflow_add-examined c =
    let asked = c.requires in
    omega (arith, c.loop-packets.invariant.few, c.loop-packets.invariant.within, asked.limit_high, (found_keeps _ _ _ _ c.packet-found.ensures _ c.loop-packets.invariant.reads).1)

pub returns-then-is_err : goal.returns-then-is_err
returns-then-is_err c =
    at_stop _ _ _ _ _ c.requires _ _ _ _ c.loop-packets.invariant (omega arith) _ c.packet-found.ensures (is_err-refused _ (sym c.is_err.ensures.value ∙ c.if-is_err.true))

pub loop-packets-preserved : goal.loop-packets-preserved
loop-packets-preserved c =
    goes_on _ _ _ _ _ c.requires _ _ _ _ c.loop-packets.invariant (omega arith) _ c.packet-found.ensures (not_err-done _ (sym c.is_err.ensures.value ∙ c.if-is_err.false)) _ c.tell.ensures

pub returns : goal.returns
returns c =
    let e : c.loop-packets.packets ≡ c.args.limit = omega (arith, c.loop-packets.invariant.within) in
    rw e at (at_limit _ _ _ _ _ c.requires _ _ _ _ c.loop-packets.invariant (omega arith))

pub shape_of-out : goal.shape_of-out
shape_of-out c = out_long _ _ _ _ _ c.requires _ _ _ _ c.loop-packets.invariant

pub tell-requires : goal.tell-requires
tell-requires c =
    omega (arith, out_long _ _ _ _ _ c.requires _ _ _ _ c.loop-packets.invariant, c.requires.limit_high, c.requires.out_long)
