-- What an accepted post was lent and had room for; and what a message gives, refused or not.
-- Assumes nothing.
use Rattle.rules.proofs.Answers.{done-is_ok, refused-is_ok}
use Rattle.rules.specs.Rules.{done, Answer}
use Rattle.std.proofs.Common.{ℕ, ◌≤◌, ◌≡◌, sym, ◌≢◌, true, List, eq-eqb, ne_eqb, eqb}
use borrow.Author.Tests.{not-false}
use Rattle.rules.proofs.Tests.{neither}
use Rattle.rules.proofs.Checks.{passed}
use Rattle.mail_ring.specs.Ring.{advanced}
use Rattle.mail_ring.specs.Look.{look_of}
use Rattle.mail_ring.specs.Steps.{Room, Waiting}
use Rattle.mail_ring.proofs.Record.{has_room}
use Rattle.mail_ring.proofs.Looks.{seen, seen_waiting}
use Rattle.mail_request.specs.declared.Room.{Room as Asked}
use Rattle.mail_request.specs.Request.{most_length, length_wrong}
use Rattle.mail_request.proofs.Lengths.{short}
use Rattle.mail_reading.specs.Reading.{message_wrong, reading_of, no_reading}
use Rattle.mail_reading.proofs.Answers.{read_looked}
use Rattle.mail_receive.specs.declared.ReceiveRing.{ReceiveRing}
use Rattle.mail_receive.specs.Receiving.{post_checks, post_answer, received, message_answer, message_of}

-- ---- posting

module _ (q : ReceiveRing) (ring_length list_length lent : ℕ) (room : Asked) (z : post_answer q ring_length list_length lent room ≡ done) where
  pub post_room : Room q.shared ring_length list_length
  unfolding post_answer
  post_room = let n = passed (post_checks q ring_length list_length lent room) tt z in has_room q.shared ring_length list_length (not-false _ (n 0)) (n 3)

  pub post_short : room.length ≤ most_length
  unfolding post_answer
  post_short =
      let n = neither (eqb room.length 0) (length_wrong true room.length lent) (passed (post_checks q ring_length list_length lent room) tt z 1) in
      short true room.length lent n.1

-- ---- messages

module _ (q : ReceiveRing) (ring list : List ℕ) (lent : ℕ) where
  pub message_refused : {a : Answer} → a ≡ message_answer q ring list lent → a ≢ done → record { answer = a; queue = q; reading = no_reading } ≡ message_of q ring list lent
  unfolding message_of
  message_refused {a} e ne = rw (sym e, refused-is_ok a ne)

  module _ (z : message_answer q ring list lent ≡ done) where
    pub message_given : message_of q ring list lent ≡ record { answer = done; queue = record { shared = advanced q.shared }; reading = reading_of q.shared.head (received q ring list lent) }
    unfolding message_of
    message_given = rw (done-is_ok _ z)

    pub message_seen : (look_of q.shared ring list).element ≡ received q ring list lent
    unfolding message_answer
    message_seen = rw (seen q.shared ring list (read_looked message_wrong q.shared ring list lent z))

    pub message_waiting : Waiting q.shared
    unfolding message_answer
    message_waiting = seen_waiting q.shared ring list (read_looked message_wrong q.shared ring list lent z)
