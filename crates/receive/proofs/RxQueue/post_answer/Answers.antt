-- `RxQueue::post_answer` meets its contract: each way through the code is one check of the list.
-- Assumes nothing.
use Rattle.receive.specs.Post.{post_answer}
use Rattle.std.proofs.Common.{arith, sym, ◌∙◌}
use Rattle.receive.proofs.Laws.{lent, lent_buffer}
use Rattle.receive.proofs.RxQueue.post_answer.Goals as goal

pub address_wrong-requires : goal.address_wrong-requires
address_wrong-requires c =
    let b = lent_buffer c.args.self _ _ (sym c.lent_ok.ensures ∙ c.if-not-lent_ok.false) in omega arith

pub no_room-requires : goal.no_room-requires
no_room-requires c = (lent _ _ _ (sym c.lent_ok.ensures ∙ c.if-not-lent_ok.false)).reads.is

pub returns-then-not-lent_ok : goal.returns-then-not-lent_ok
unfolding post_answer
returns-then-not-lent_ok c = rw (← c.lent_ok.ensures, c.if-not-lent_ok.true)

pub returns-then-address_wrong : goal.returns-then-address_wrong
unfolding post_answer
returns-then-address_wrong c = rw (← c.lent_ok.ensures, c.if-not-lent_ok.false, ← c.address_wrong.ensures, c.if-address_wrong.true)

pub returns-then-no_room : goal.returns-then-no_room
unfolding post_answer
returns-then-no_room c =
    rw (← c.lent_ok.ensures, c.if-not-lent_ok.false, ← c.address_wrong.ensures, c.if-address_wrong.false, ← c.no_room.ensures, c.if-no_room.true)

pub returns : goal.returns
unfolding post_answer
returns c =
    rw (← c.lent_ok.ensures, c.if-not-lent_ok.false, ← c.address_wrong.ensures, c.if-address_wrong.false, ← c.no_room.ensures, c.if-no_room.false)
