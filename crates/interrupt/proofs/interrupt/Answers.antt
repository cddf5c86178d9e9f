-- `interrupt::interrupt` meets its contract: a request that is not wrong has a vector that `offset` takes.
-- Assumes nothing.
use Rattle.std.proofs.Common.{◌≡◌, sym, ◌∙◌, Bool, cond}
use Rattle.rules.specs.Rules.{any_of, done, answer_at}
use Rattle.rules.proofs.Checks.{each_answer}
use Rattle.interrupt.specs.declared.Request.{Request}
use Rattle.interrupt.specs.Interrupt.{wrongs, interrupt_answer, interrupt_of}
use Rattle.interrupt.proofs.interrupt.Goals as goal

-- what the code's test says of the answer
said : {r b : Bool} (q : Request) → r ≡ any_of (wrongs q) → r ≡ b → interrupt_answer q ≡ cond b (answer_at 9) done
said q e t = each_answer 9 (wrongs q) ∙ rw (sym e ∙ t)

pub returns-then-wrong : goal.returns-then-wrong
unfolding interrupt_of
returns-then-wrong c = rw (said _ c.wrong.ensures c.if-wrong.true)

pub returns : goal.returns
unfolding interrupt_of
returns c =
    rw (said _ c.wrong.ensures c.if-wrong.false, c.offset.ensures, c.word.ensures)
