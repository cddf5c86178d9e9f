-- Where the message of a completion lies: nowhere beside a refusal, else in the buffer or in the element.
-- Assumes nothing.
use Rattle.rules.specs.Rules.{done}
use Rattle.std.proofs.Common.{ℕ, ◌≡◌, ◌≢◌, true, false, List, [], length}
use denote.Ref.{Bor}
use Rattle.mail_reading.specs.Reading.{completion_wrong, has_buffer}
use Rattle.mail_reading.specs.Part.{PartIs, InBuffer, InElement}
use Rattle.mail_reading.proofs.Parts.{none_read, in_buffer, in_element}
use Rattle.mail_reading.proofs.Answers.{read_inside, read_long}
use Rattle.mail_send.specs.declared.SendRing.{SendRing}
use Rattle.mail_send.specs.Sending.{completed, completion_answer, completion_of}
use Rattle.mail_send.proofs.Laws.{completion_given}
use Rattle.mail_send.proofs.Keeps.{completion_refuses}

module _ (q : SendRing) (ring buffer p : Bor (List ℕ)) (list : List ℕ) where
  abbrev lent : ℕ
  lent = length buffer.now

  module _ (is : PartIs ring buffer (completion_of q ring.now list lent).reading p) where
    pub refused_empty : completion_answer q ring.now list lent ≢ done → p.now ≡ []
    refused_empty ne = none_read ring buffer p (rw (completion_refuses q ring.now list lent ne) at is)

    module _ (z : completion_answer q ring.now list lent ≡ done) where
      -- with BUF the first bytes of the buffer
      pub from_buffer : has_buffer (completed q ring.now list lent) ≡ true → InBuffer buffer (completed q ring.now list lent).length p
      unfolding completion_answer
      from_buffer b = in_buffer ring buffer p q.shared.head (completed q ring.now list lent) (rw (completion_given q ring.now list lent z) at is) b (read_long completion_wrong q.shared ring.now list lent z)

      -- without it the 8 cookie bytes of the element
      pub from_element : has_buffer (completed q ring.now list lent) ≡ false → InElement ring q.shared.head p
      unfolding completion_answer
      from_element b = in_element ring buffer p q.shared.head (completed q ring.now list lent) (rw (completion_given q ring.now list lent z) at is) b (read_inside completion_wrong q.shared ring.now list lent z)
