-- The calls' statements fix their outcomes: any two that meet one are equal.
-- Assumes nothing.
use Rattle.std.proofs.Common.{ℕ, ◌≡◌}
use Rattle.rules.proofs.Outcomes.{alike, equation}
use Rattle.interrupt.specs.declared.Request.{Request}
use Rattle.interrupt.specs.declared.Answer.{Answer}
use Rattle.interrupt.specs.declared.Fields.{Fields}
use Rattle.interrupt.specs.Interrupt.{interrupt_of, fields_of}

pub interrupt_alike : (q : Request) (a b : Answer) → a ≡ interrupt_of q → b ≡ interrupt_of q → a ≡ b
interrupt_alike q = alike (equation (interrupt_of q))

pub read_alike : (w : ℕ) (a b : Fields) → a ≡ fields_of w → b ≡ fields_of w → a ≡ b
read_alike w = alike (equation (fields_of w))
