-- `runs::fill` meets its contract, by the laws of `Filling`.
-- Assumes nothing.
use Rattle.std.proofs.Common.{sym, ◌∙◌, ◌+◌, ◌-◌, ◌<◌, drop, true≢false, le-leb, length, get_or, length-take, length-drop, ap, arith}
use Rattle.rules.proofs.Tests.{and_both, within_is}
use Rattle.runs.proofs.Parts.{part_at}
use Rattle.runs.proofs.Filling.{filling_first, filling_join, filling_cut, filling_done, filling_none}
use Rattle.runs.proofs.fill.Goals as goal
use Rattle.runs.proofs.fill.Goals.{then-stays, else-stays}

-- some pieces, and a place for each
pub loop-l-init : goal.loop-l-init
loop-l-init c =
    let room = within_is 1 (length c.args.runs.now) (length c.args.lengths.now) c.if-n-runs.true in
    filling_first _ _ _ _ room.0 room.1

pub loop-l-preserved : goal.loop-l-preserved
loop-l-preserved c =
    let v = c.loop-l.invariant in
    let ls = c.args.lengths.now in
    let k = c.loop-l.l-index in
    let p = part_at ls 1 (length ls) k c.loop-l-test.true in
    let more : k + 1 < length ls = omega (arith, p.0) in
    let read = p.1 ∙ ap (λ i. get_or ls i 0) {x = 1 + k} {y = k + 1} (omega arith) in
    elim c.if-stays.branch [
      | then-stays w ↦ rw (w.runs-is, w.count-is, w.held-is, w.bytes-is, read) (filling_join v more (rw read at (sym c.stays.ensures ∙ w.if-stays.true)))
      | else-stays w ↦ rw (w.runs-is, w.count-is, w.held-is, w.bytes-is, read) (filling_cut v more (rw read at (sym c.stays.ensures ∙ w.if-stays.false)) w.told.ensures)
    ]

pub returns-after-loop-l : goal.returns-after-loop-l
returns-after-loop-l c = filling_done c.loop-l.invariant (let ls = c.args.lengths.now in omega (arith, length-take (length ls - 1) (drop 1 ls), length-drop 1 ls)) c.told-then-n-runs.ensures

pub returns-else-n-runs : goal.returns-else-n-runs
returns-else-n-runs c = filling_none _ _ _ _ (λ s r. true≢false (sym (and_both (le-leb _ _ s) (le-leb _ _ r)) ∙ c.if-n-runs.false))
