-- `packet` meets its contract. The loop's invariant: k slots are passed, none the last of its packet (`Walking`); each way out is one law of it.
-- Assumes nothing.
use Rattle.std.proofs.Common.{◌≡◌, sym, ◌∙◌, [], arith}
use Rattle.slots.proofs.Steps.{on_is}
use Rattle.burst.proofs.Walk.{begins, end_found, clear_found, wrong_found, whole_found, goes_on}
use Rattle.burst.proofs.packet.Goals as goal

pub loop-k-init : goal.loop-k-init
loop-k-init c = begins _ _ _ c.requires.is

pub returns-then-not-dd : goal.returns-then-not-dd
returns-then-not-dd c =
    let d = sym c.dd.ensures ∙ c.if-not-dd.true in
    clear_found _ _ _ _ _ _ c.loop-k.invariant (omega arith) d _ c.refused.ensures

pub overflow_add-total : goal.overflow_add-total
overflow_add-total c =
    let w = c.loop-k.invariant.walked [] in
    omega (arith, w.total_small, w.few, c.length-total.ensures)

pub moved_to-requires-clause-head_value : goal.moved_to-requires-clause-head_value
moved_to-requires-clause-head_value c = (on_is c.loop-k.invariant.behind c.next-at.ensures).is

pub returns-then-eop : goal.returns-then-eop
returns-then-eop c =
    let d = sym c.dd.ensures ∙ c.if-not-dd.false in
    let a = sym c.slot_ok.ensures ∙ c.if-slot_ok.true in
    let e = sym c.eop.ensures ∙ c.if-eop.true in
    let f = whole_found _ _ _ _ _ _ c.loop-k.invariant (omega arith) d a e in
    λ list. rw (c.moved_to.ensures, c.length-total.ensures) (f list)

pub loop-k-preserved : goal.loop-k-preserved
loop-k-preserved c =
    let d = sym c.dd.ensures ∙ c.if-not-dd.false in
    let a = sym c.slot_ok.ensures ∙ c.if-slot_ok.true in
    let e = sym c.eop.ensures ∙ c.if-eop.false in
    rw c.length-total.ensures (goes_on _ _ _ _ _ _ c.loop-k.invariant (omega arith) d a e c.next-at.ensures)

pub returns-else-slot_ok : goal.returns-else-slot_ok
returns-else-slot_ok c =
    let d = sym c.dd.ensures ∙ c.if-not-dd.false in
    let a = sym c.slot_ok.ensures ∙ c.if-slot_ok.false in
    wrong_found _ _ _ _ _ _ c.loop-k.invariant (omega arith) d a _ c.refused-else-slot_ok.ensures

pub returns : goal.returns
returns c =
    let e : c.loop-k.k ≡ c.args.queue.posted = omega (arith, (c.loop-k.invariant.walked []).within) in
    end_found _ _ _ _ _ _ c.loop-k.invariant (omega arith) _ (rw e c.refused-2.ensures)
