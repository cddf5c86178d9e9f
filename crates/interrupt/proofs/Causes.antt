-- Exact causes: 9 is answered exactly if one of its causes holds (`Answers` of rules, both ways), and zeros come with it.
-- Assumes nothing.
use Rattle.rules.proofs.Answers.{refused-is_ok}
use Rattle.std.proofs.Common.{ℕ, ◌≡◌, ◌≢◌}
use Rattle.rules.specs.Rules.{Answers, done, Answer}
use Rattle.rules.proofs.Checks.{has_cause, is_answered}
use Rattle.interrupt.specs.declared.Request.{Request}
use Rattle.interrupt.specs.Interrupt.{interrupt_checks, interrupt_of}

module _ (q : Request) where
  pub interrupt_cause : (n : Answer) → (interrupt_of q).answer ≡ n → n ≢ done → (i : ℕ) × Answers (interrupt_checks q) n i
  unfolding interrupt_of
  interrupt_cause n e ne = has_cause (interrupt_checks q) n e ne

  pub interrupt_answered : (n : Answer) (i : ℕ) → Answers (interrupt_checks q) n i → (interrupt_of q).answer ≡ n
  unfolding interrupt_of
  interrupt_answered n i a = is_answered (interrupt_checks q) n i a

  pub interrupt_refused : (interrupt_of q).answer ≢ done → ((interrupt_of q).offset ≡ 0) × ((interrupt_of q).word ≡ 0)
  unfolding interrupt_of
  interrupt_refused ne = (rw (refused-is_ok _ ne), rw (refused-is_ok _ ne))
