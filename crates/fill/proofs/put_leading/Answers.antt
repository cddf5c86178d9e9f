-- `fill::put_leading` meets its contract. The loop's invariant: the ring has the pieces passed, and `at` is the slot behind them.
-- Assumes nothing.
use Rattle.std.proofs.Common.{ℕ, ◌≡◌, ◌-◌, ◌<◌, length, length-append, length-take, get_or, get_or-take, take, sym, ◌∙◌, arith}
use Rattle.std.proofs.lemmas.Slice.Zip.{zip_turn}
use Rattle.slots.proofs.Steps.{here_is, on_is}
use Rattle.slots.proofs.Rows.{row_none}
use Rattle.fill.proofs.Pieces.{put_next}
use Rattle.fill.proofs.put_leading.Goals as goal

pub loop-address-init : goal.loop-address-init
loop-address-init c =
    let room = c.requires in
    record { stored = sym (row_none 2 _ _ _ _); behind = here_is room.start_below room.size_high }

pub loop-address-preserved : goal.loop-address-preserved
loop-address-preserved c =
    let l = c.loop-address in
    let i = length l.yielded in
    let addresses = c.args.addresses.now in
    let lengths = c.args.lengths.now in
    let n : ℕ = length lengths - 1 in
    let t = zip_turn addresses (take n lengths) l.yielded c.into_iter-address-iterator.result l.address-iterator c.next.new.self c.next.result (cc) (cc) l.yielded_by (c.in-Some.field-0-0, c.in-Some.field-0-1) c.in-Some.is c.next.ensures.steps in
    let before : i < n = omega (arith, t.1, length-take n lengths) in
    let read : c.in-Some.field-0-1.now ≡ get_or lengths i 0 = t.3 0 ∙ get_or-take n lengths i 0 before in
    let stored = put_next c.args.alike addresses lengths c.args.size c.args.start c.args.ring.now i l.invariant.stored l.invariant.behind.is (c.requires.short i (omega arith)) (rw (t.2 0, read) at c.put_slot.ensures) in
    rw length-append (record { stored = stored; behind = on_is l.invariant.behind c.next-at.ensures })
