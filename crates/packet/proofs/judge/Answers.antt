-- `packet::judge` meets its contract: each answer by the tests on the way.
-- Assumes nothing.
use Rattle.std.proofs.Common.{sym, ◌∙◌, arith}
use borrow.Author.Tests.{not-false}
use Rattle.pieces.proofs.Laws.{found_is, none_is, pieces_are}
use Rattle.packet.proofs.Laws.{segmentable}
use Rattle.packet.proofs.judge.Goals as goal

pub request_ok-requires : goal.request_ok-requires
request_ok-requires c =
    let f = found_is _ _ _ _ (sym c.look.ensures ∙ c.in-Some.is) in
    let k = pieces_are _ _ _ _ (sym f.pieces_is ∙ not-false _ c.if-not-found.false) in
    record { is = f.total_is; small = omega arith }

pub crowds-requires : goal.crowds-requires
crowds-requires c = segmentable _ _ _ _ (sym (found_is _ _ _ _ (sym c.look.ensures ∙ c.in-Some.is)).pieces_is ∙ not-false _ c.if-not-found.false) (sym c.request_ok.ensures ∙ c.if-not-request_ok.false)

pub returns-in_default : goal.returns-in_default
returns-in_default c = rw (none_is _ _ _ _ (sym c.look.ensures ∙ c.in_default.is))

pub returns-then-not-found : goal.returns-then-not-found
returns-then-not-found c =
    let f = found_is _ _ _ _ (sym c.look.ensures ∙ c.in-Some.is) in
    rw (← f.pieces_is, c.if-not-found.true)

pub returns-then-not-found-2 : goal.returns-then-not-found-2
returns-then-not-found-2 c =
    let f = found_is _ _ _ _ (sym c.look.ensures ∙ c.in-Some.is) in
    rw (← f.pieces_is, c.if-not-found.false, ← f.addresses_is, c.if-not-found-2.true)

pub returns-then-not-request_ok : goal.returns-then-not-request_ok
returns-then-not-request_ok c =
    let f = found_is _ _ _ _ (sym c.look.ensures ∙ c.in-Some.is) in
    rw (← f.pieces_is, c.if-not-found.false, ← f.addresses_is, c.if-not-found-2.false, ← c.request_ok.ensures, c.if-not-request_ok.true)

pub returns-then-crowds : goal.returns-then-crowds
returns-then-crowds c =
    let f = found_is _ _ _ _ (sym c.look.ensures ∙ c.in-Some.is) in
    rw (← f.pieces_is, c.if-not-found.false, ← f.addresses_is, c.if-not-found-2.false, ← c.request_ok.ensures, c.if-not-request_ok.false, ← c.crowds.ensures, c.if-crowds.true)

pub returns : goal.returns
returns c =
    let f = found_is _ _ _ _ (sym c.look.ensures ∙ c.in-Some.is) in
    rw (← f.pieces_is, c.if-not-found.false, ← f.addresses_is, c.if-not-found-2.false, ← c.request_ok.ensures, c.if-not-request_ok.false, ← c.crowds.ensures, c.if-crowds.false)
