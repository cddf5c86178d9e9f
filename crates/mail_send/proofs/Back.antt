-- What was sent reads back: at once as its request, and completed by a device that sets DD and CMP and leaves the rest.
-- Assumes nothing.
use Rattle.rules.specs.Rules.{done}
use Rattle.std.proofs.Common.{ℕ, ◌^◌, ◌≤◌, ◌<◌, ◌≡◌, ap, ◌∙◌, Bool, true, false, cond, List, arith, lit<, length}
use Rattle.field.specs.Field.{bit}
use Rattle.element.specs.Element.{element_at}
use Rattle.element.specs.Back.{Holds}
use Rattle.mail_ring.specs.Ring.{tail_of}
use Rattle.mail_ring.specs.Posting.{ring_after, Stands, OthersStay}
use Rattle.mail_ring.proofs.Puts.{stands, others_stay}
use Rattle.mail_request.specs.declared.Message.{Message}
use Rattle.mail_request.specs.declared.Shutdown.{Shutdown}
use Rattle.mail_request.specs.Request.{send_to_pf, queue_shutdown, send_flags, shutdown_flags, send_element, shutdown_element}
use Rattle.mail_request.specs.Back.{message_in, shutdown_in, as_sent}
use Rattle.mail_request.proofs.Back.{holds, message_back, shutdown_back}
use Rattle.mail_send.specs.declared.SendRing.{SendRing}
use Rattle.mail_send.specs.Sending.{answer_to_send, answer_to_shutdown}
use Rattle.mail_send.proofs.Laws.{send_room, send_short, shutdown_room}

-- ---- at once

-- the address that is written is one of 64 bits
written : (b : Bool) (address : ℕ) → address < 2 ^ 64 → cond b address 0 < 2 ^ 64
written true address h = h
written false address h = lit< tt

module _ (q : SendRing) (ring list : List ℕ) (lent : ℕ) (m : Message) (z : answer_to_send q ring list lent m ≡ done) (eight : length m.cookie ≡ 8) (small : m.address < 2 ^ 64) where
  pub send_holds : Holds (send_element m)
  send_holds = holds (send_flags m) send_to_pf m.length m.cookie 0 (cond m.buf m.address 0) (lit< tt) (send_short q (length ring) (length list) lent m z) eight (omega arith) (written m.buf m.address small)

  pub send_stands : Stands (answer_to_send q ring list lent m) q.shared ring list (send_element m)
  send_stands = stands _ q.shared ring list (send_element m) send_holds z (send_room q (length ring) (length list) lent m z).lent

  pub send_others : OthersStay (answer_to_send q ring list lent m) q.shared ring list (send_element m)
  send_others = others_stay _ q.shared ring list (send_element m) send_holds

  -- all fields of the request, both halves of the address
  pub send_reads : message_in (element_at (ring_after (answer_to_send q ring list lent m) q.shared ring list (send_element m)) (tail_of q.shared)) ≡ as_sent m
  send_reads = ap message_in send_stands.element_is ∙ message_back m

module _ (q : SendRing) (ring list : List ℕ) (s : Shutdown) (z : answer_to_shutdown q ring list s ≡ done) (eight : length s.cookie ≡ 8) where
  pub shutdown_holds : Holds (shutdown_element s)
  shutdown_holds = holds (shutdown_flags s) queue_shutdown 0 s.cookie (bit s.unloading) 0 (lit< tt) (omega arith) eight (one s.unloading) (lit< tt)
    where
      one : (b : Bool) → bit b ≤ 1
      one true = omega arith
      one false = omega arith

  pub shutdown_stands : Stands (answer_to_shutdown q ring list s) q.shared ring list (shutdown_element s)
  shutdown_stands = stands _ q.shared ring list (shutdown_element s) shutdown_holds z (shutdown_room q (length ring) (length list) z).lent

  pub shutdown_others : OthersStay (answer_to_shutdown q ring list s) q.shared ring list (shutdown_element s)
  shutdown_others = others_stay _ q.shared ring list (shutdown_element s) shutdown_holds

  pub shutdown_reads : shutdown_in (element_at (ring_after (answer_to_shutdown q ring list s) q.shared ring list (shutdown_element s)) (tail_of q.shared)) ≡ s
  shutdown_reads = ap shutdown_in shutdown_stands.element_is ∙ shutdown_back s
