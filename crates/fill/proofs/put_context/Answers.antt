-- `fill::put_context` meets its contract.
-- Assumes nothing.
use Rattle.std.proofs.Common.{ℕ, ap, [], ◌∷◌}
use Rattle.slots.proofs.Steps.{here_is}
use Rattle.fill.proofs.Pieces.{put_context, put_none}
use Rattle.fill.proofs.put_context.Goals as goal

pub returns-then-request : goal.returns-then-request
returns-then-request c =
    let t = c.if-request.true in
    let context = ap (λ (w : ℕ). 0 ∷ w ∷ []) c.segmentation_word-word.ensures in
    let stored = put_context c.args.request c.args.size c.args.tail c.args.ring.now t c.requires.step.head_below context c.put_slot.ensures in
    record { stored = stored; behind = rw t c.next.ensures }

pub returns-else-request : goal.returns-else-request
returns-else-request c =
    let t = c.if-request.false in
    record { stored = put_none c.args.request c.args.size c.args.tail c.args.ring.now t; behind = rw t (here_is c.requires.step.head_below c.requires.step.size_high) }
