-- `SendRing::completion` meets its contract: what was seen is the element at head.
-- Assumes nothing.
use Rattle.std.proofs.Common.{length, refl, sym, ◌∙◌, arith}
use Rattle.rules.proofs.Answers.{refused_is}
use Rattle.mail_reading.specs.Reading.{completion_wrong}
use Rattle.mail_reading.proofs.Answers.{read_as_answer}
use Rattle.mail_send.specs.Sending.{completion_answer}
use Rattle.mail_send.proofs.Laws.{completion_refused, completion_given, completion_seen, completion_waiting}
use Rattle.mail_send.proofs.SendRing.completion.Goals as goal

pub returns-in-Err : goal.returns-in-Err
unfolding completion_answer
returns-in-Err c =
    let is = read_as_answer completion_wrong _ _ _ _ c.look-seen.ensures c.completion_wrong-wrong.ensures c.answer.ensures in
    rw c.no_reading.ensures (completion_refused _ _ _ _ (sym c.in-Err.is ∙ is) (refused_is _ refl))

pub reading_of-reading-requires : goal.reading_of-reading-requires
unfolding completion_answer
reading_of-reading-requires c =
    let is = read_as_answer completion_wrong _ _ _ _ c.look-seen.ensures c.completion_wrong-wrong.ensures c.answer.ensures in
    let p = (completion_waiting c.args.self _ _ _ (sym is ∙ c.in_default.is)).is in
    omega (arith, p.head_below, p.size_high)

pub advanced-requires : goal.advanced-requires
unfolding completion_answer
advanced-requires c =
    let is = read_as_answer completion_wrong _ _ _ _ c.look-seen.ensures c.completion_wrong-wrong.ensures c.answer.ensures in
    completion_waiting c.args.self _ _ _ (sym is ∙ c.in_default.is)

pub returns : goal.returns
unfolding completion_answer
returns c =
    let a = c.args in
    let is = read_as_answer completion_wrong _ _ _ _ c.look-seen.ensures c.completion_wrong-wrong.ensures c.answer.ensures in
    let z = sym is ∙ c.in_default.is in
    rw (
      c.reading_of-reading.ensures,
      c.look-seen.ensures,
      completion_seen a.self a.ring.now a.list.now (length a.buffer.now) z,
      c.advanced.ensures,
    )
    (sym (completion_given a.self a.ring.now a.list.now (length a.buffer.now) z))
