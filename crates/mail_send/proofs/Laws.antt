-- What an accepted call was lent and had room for; and what a completion gives, refused or not.
-- Assumes nothing.
use Rattle.rules.proofs.Answers.{done-is_ok, refused-is_ok}
use Rattle.rules.specs.Rules.{done, Answer}
use Rattle.std.proofs.Common.{ℕ, ◌≤◌, ◌≡◌, sym, ◌≢◌, List, eq-eqb, ne_eqb}
use borrow.Author.Tests.{not-false}
use Rattle.rules.proofs.Checks.{passed}
use Rattle.mail_ring.specs.Ring.{advanced}
use Rattle.mail_ring.specs.Look.{look_of}
use Rattle.mail_ring.specs.Steps.{Room, Waiting}
use Rattle.mail_ring.proofs.Record.{has_room}
use Rattle.mail_ring.proofs.Looks.{seen, seen_waiting}
use Rattle.mail_request.specs.declared.Message.{Message}
use Rattle.mail_request.specs.Request.{most_length}
use Rattle.mail_request.proofs.Lengths.{short}
use Rattle.mail_reading.specs.Reading.{completion_wrong, reading_of, no_reading}
use Rattle.mail_reading.proofs.Answers.{read_looked}
use Rattle.mail_send.specs.declared.SendRing.{SendRing}
use Rattle.mail_send.specs.Sending.{send_checks, send_answer, shutdown_checks, shutdown_answer, completed, completion_answer, completion_of}

-- ---- posting

module _ (q : SendRing) (ring_length list_length lent : ℕ) (m : Message) (z : send_answer q ring_length list_length lent m ≡ done) where
  pub send_room : Room q.shared ring_length list_length
  unfolding send_answer
  send_room = let n = passed (send_checks q ring_length list_length lent m) tt z in has_room q.shared ring_length list_length (not-false _ (n 0)) (n 4)

  pub send_short : m.length ≤ most_length
  unfolding send_answer
  send_short = short m.buf m.length lent (passed (send_checks q ring_length list_length lent m) tt z 2)

pub shutdown_room : (q : SendRing) (ring_length list_length : ℕ) → shutdown_answer q ring_length list_length ≡ done → Room q.shared ring_length list_length
unfolding shutdown_answer
shutdown_room q ring_length list_length z =
    let n = passed (shutdown_checks q ring_length list_length) tt z in has_room q.shared ring_length list_length (not-false _ (n 0)) (n 2)

-- ---- completions

module _ (q : SendRing) (ring list : List ℕ) (lent : ℕ) where
  pub completion_refused : {a : Answer} → a ≡ completion_answer q ring list lent → a ≢ done → record { answer = a; queue = q; opcode = 0; reading = no_reading } ≡ completion_of q ring list lent
  unfolding completion_of
  completion_refused {a} e ne = rw (sym e, refused-is_ok a ne)

  module _ (z : completion_answer q ring list lent ≡ done) where
    pub completion_given : completion_of q ring list lent ≡ record { answer = done; queue = record { shared = advanced q.shared; shut = q.shut }; opcode = (completed q ring list lent).opcode; reading = reading_of q.shared.head (completed q ring list lent) }
    unfolding completion_of
    completion_given = rw (done-is_ok _ z)

    pub completion_seen : (look_of q.shared ring list).element ≡ completed q ring list lent
    unfolding completion_answer
    completion_seen = rw (seen q.shared ring list (read_looked completion_wrong q.shared ring list lent z))

    pub completion_waiting : Waiting q.shared
    unfolding completion_answer
    completion_waiting = seen_waiting q.shared ring list (read_looked completion_wrong q.shared ring list lent z)
