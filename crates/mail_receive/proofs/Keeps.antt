-- A record given back is accepted again; a refused call gives back what came.
-- Assumes nothing.
use Rattle.rules.proofs.Answers.{done_is, refused_is}
use Rattle.std.proofs.Common.{is_ok, ℕ, ◌≡◌, refl, sym, ◌∙◌, ◌≢◌, Bool, true, false, not, List, [], ◌∷◌, eqb-true, eqb, length}
use borrow.Author.Tests.{not-false, eqb-false}
use Rattle.rules.specs.Rules.{◌when◌, done}
use Rattle.rules.proofs.Checks.{passed}
use Rattle.mail_ring.specs.Ring.{ring_ok, empty_ring, advanced}
use Rattle.mail_ring.specs.Posting.{Unchanged}
use Rattle.mail_ring.proofs.Record.{is_placed, advanced_placed}
use Rattle.mail_ring.proofs.Puts.{refused, after_ok}
use Rattle.mail_request.specs.declared.Room.{Room}
use Rattle.mail_request.specs.Request.{room_element}
use Rattle.mail_reading.specs.Reading.{no_reading}
use Rattle.mail_receive.specs.declared.ReceiveRing.{ReceiveRing}
use Rattle.mail_receive.specs.Receiving.{empty_receive, fresh_of, answer_to_post, post_of, message_answer, message_of}
use Rattle.mail_receive.proofs.Laws.{post_room, message_refused, message_given, message_waiting}
use Rattle.mail_receive.proofs.Causes.{fresh_answer}

fresh_lines : (size : ℕ) → (fresh_of size).answer ≡ done → ring_ok (empty_ring size) ≡ true
fresh_lines size z = not-false _ (passed (1 when not (ring_ok (empty_ring size)) ∷ []) tt (sym (fresh_answer size) ∙ z) 0)

pub fresh_empty : (size : ℕ) → (fresh_of size).answer ≡ done → (fresh_of size).queue ≡ empty_receive size
unfolding fresh_of
fresh_empty size z = rw (fresh_lines size z)

pub fresh_keeps : (size : ℕ) → (fresh_of size).answer ≡ done → ring_ok (fresh_of size).queue.shared ≡ true
fresh_keeps size z = rw (fresh_empty size z) (fresh_lines size z)

-- ---- refused

pub post_refused : (q : ReceiveRing) (ring list : List ℕ) (lent : ℕ) (room : Room) → answer_to_post q ring list lent room ≢ done → Unchanged (answer_to_post q ring list lent room) q.shared ring list (room_element room)
post_refused q ring list lent room ne = refused _ q.shared ring list (room_element room) ne

pub message_refuses : (q : ReceiveRing) (ring list : List ℕ) (lent : ℕ) → message_answer q ring list lent ≢ done → message_of q ring list lent ≡ record { answer = message_answer q ring list lent; queue = q; reading = no_reading }
message_refuses q ring list lent ne = sym (message_refused q ring list lent refl ne)

-- ---- kept

module _ (q : ReceiveRing) (ok : ring_ok q.shared ≡ true) (ring list : List ℕ) (lent : ℕ) where
  pub post_keeps_lem : (room : Room) → ring_ok (post_of q ring list lent room).queue.shared ≡ true
  post_keeps_lem room = after_ok (answer_to_post q ring list lent room) q.shared ring list (room_element room) ok (post_room q (length ring) (length list) lent room)

  pub message_keeps : ring_ok (message_of q ring list lent).queue.shared ≡ true
  message_keeps = go (is_ok (message_answer q ring list lent)) refl
    where
      go : (b : Bool) → is_ok (message_answer q ring list lent) ≡ b → ring_ok (message_of q ring list lent).queue.shared ≡ true
      go true e =
          let z = done_is _ e in
          rw (message_given q ring list lent z) (is_placed (advanced q.shared) (advanced_placed q.shared (message_waiting q ring list lent z).is))
      go false e = rw (message_refuses q ring list lent (refused_is _ e)) ok
