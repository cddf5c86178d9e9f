-- `ReceiveRing::message` meets its contract: what was seen is the element at head.
-- Assumes nothing.
use Rattle.std.proofs.Common.{length, refl, sym, ◌∙◌, arith}
use Rattle.rules.proofs.Answers.{refused_is}
use Rattle.mail_reading.specs.Reading.{message_wrong}
use Rattle.mail_reading.proofs.Answers.{read_as_answer}
use Rattle.mail_receive.specs.Receiving.{message_answer}
use Rattle.mail_receive.proofs.Laws.{message_refused, message_given, message_seen, message_waiting}
use Rattle.mail_receive.proofs.ReceiveRing.message.Goals as goal

pub returns-in-Err : goal.returns-in-Err
unfolding message_answer
returns-in-Err c =
    let is = read_as_answer message_wrong _ _ _ _ c.look-seen.ensures c.message_wrong-wrong.ensures c.answer.ensures in
    rw c.no_reading.ensures (message_refused _ _ _ _ (sym c.in-Err.is ∙ is) (refused_is _ refl))

pub reading_of-reading-requires : goal.reading_of-reading-requires
unfolding message_answer
reading_of-reading-requires c =
    let is = read_as_answer message_wrong _ _ _ _ c.look-seen.ensures c.message_wrong-wrong.ensures c.answer.ensures in
    let p = (message_waiting _ _ _ _ (sym is ∙ c.in_default.is)).is in
    omega (arith, p.head_below, p.size_high)

pub advanced-requires : goal.advanced-requires
unfolding message_answer
advanced-requires c =
    let is = read_as_answer message_wrong _ _ _ _ c.look-seen.ensures c.message_wrong-wrong.ensures c.answer.ensures in
    message_waiting _ _ _ _ (sym is ∙ c.in_default.is)

pub returns : goal.returns
unfolding message_answer
returns c =
    let a = c.args in
    let is = read_as_answer message_wrong _ _ _ _ c.look-seen.ensures c.message_wrong-wrong.ensures c.answer.ensures in
    let z = sym is ∙ c.in_default.is in
    rw (
      c.reading_of-reading.ensures,
      c.look-seen.ensures,
      message_seen a.self a.ring.now a.list.now (length a.buffer.now) z,
      c.advanced.ensures,
    )
    (sym (message_given a.self a.ring.now a.list.now (length a.buffer.now) z))
