-- `posted` meets its contract. The loop's invariant: k slots are seen, none the last of its packet (`Walked`); each way out is one law of it.
-- Assumes nothing.
use Rattle.std.proofs.Common.{sym, ◌∙◌, arith}
use Rattle.scan.specs.Told.{padded, seen_by}
use Rattle.scan.proofs.Walk.{first, none_placed, at_end, at_clear, at_wrong, next, next_placed, told}
use Rattle.walk.proofs.posted.Goals as goal

pub loop-k-init : goal.loop-k-init
unfolding padded
loop-k-init c = (first _ _ _ _, none_placed _ _ _ _)

pub returns-then-not-dd : goal.returns-then-not-dd
unfolding seen_by
returns-then-not-dd c =
    let d = sym c.dd.ensures ∙ c.if-not-dd.true in
    rw (at_clear _ _ _ _ _ _ c.loop-k.invariant.0 (omega arith) _ c.slot-at.ensures.is d) c.refused.ensures

pub returns-then-eop : goal.returns-then-eop
returns-then-eop c =
    let d = sym c.dd.ensures ∙ c.if-not-dd.false in
    let a = sym c.slot_ok.ensures ∙ c.if-slot_ok.true in
    let e = sym c.eop.ensures ∙ c.if-eop.true in
    let inv = c.loop-k.invariant in
    rw (c.advanced.ensures, c.length-length.ensures)
    (sym (told _ _ _ _ _ _ inv.0 (omega arith) _ c.slot-at.ensures.is _ _ inv.1 d a e))

pub loop-k-preserved : goal.loop-k-preserved
loop-k-preserved c =
    let d = sym c.dd.ensures ∙ c.if-not-dd.false in
    let a = sym c.slot_ok.ensures ∙ c.if-slot_ok.true in
    let e = sym c.eop.ensures ∙ c.if-eop.false in
    let inv = c.loop-k.invariant in
    let at = c.slot-at.ensures.is in
    rw c.length-length.ensures (next _ _ _ _ _ _ inv.0 (omega arith) _ at d a e, next_placed _ _ _ _ _ _ inv.0 (omega arith) _ at _ _ inv.1)

pub returns-else-slot_ok : goal.returns-else-slot_ok
unfolding seen_by
returns-else-slot_ok c =
    let d = sym c.dd.ensures ∙ c.if-not-dd.false in
    let a = sym c.slot_ok.ensures ∙ c.if-slot_ok.false in
    rw (at_wrong _ _ _ _ _ _ c.loop-k.invariant.0 (omega arith) _ c.slot-at.ensures.is d a) c.refused-else-slot_ok.ensures

pub returns : goal.returns
unfolding seen_by
returns c = rw (at_end _ _ _ _ _ _ c.loop-k.invariant.0 (omega arith)) c.refused-2.ensures
