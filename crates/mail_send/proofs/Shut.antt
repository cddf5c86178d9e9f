-- After an accepted shutdown every later send is 12 until a fresh start, over any list of calls.
-- Assumes nothing.
use Rattle.rules.proofs.Answers.{done-is_ok}
use Rattle.rules.specs.Rules.{done, answer_at}
use Rattle.std.proofs.Common.{ℕ, ◌*◌, ◌≡◌, refl, ◌∙◌, true, List, [], ◌∷◌, eq-eqb, length}
use mathlib.Core.Bool.{false≢true}
use Rattle.mail_ring.specs.Ring.{ring_ok, lent_ok}
use Rattle.mail_request.specs.declared.Shutdown.{Shutdown}
use Rattle.mail_send.specs.declared.SendRing.{SendRing}
use Rattle.mail_send.specs.Sending.{send_answer, shutdown_answer, answer_to_shutdown, shutdown_of}
use Rattle.mail_send.specs.Calls.{Asking, sending, shutting, reading, Call, is_send, answered, left, after_all, Lends}
use Rattle.mail_send.proofs.Laws.{shutdown_room}
use Rattle.mail_send.proofs.Keeps.{Kept, call_keeps}
use Rattle.mail_ring.proofs.Record.{is_placed}

-- what one call keeps, any list of them does
pub calls_keep : (q : SendRing) → ring_ok q.shared ≡ true → (cs : List Call) → Kept q (after_all q cs)
calls_keep q ok [] = record { ok = ok; same_size = refl; stays_shut = λ s. s }
calls_keep q ok (c ∷ cs) =
    let k = call_keeps q ok c.ring c.list c.asks in
    let r = calls_keep (left q c.ring c.list c.asks) k.ok cs in
    record { ok = r.ok; same_size = r.same_size ∙ k.same_size; stays_shut = λ s. r.stays_shut (k.stays_shut s) }

-- a send on a ring that is shut, with what its size asks for
module _ (q : SendRing) (ok : ring_ok q.shared ≡ true) (shut : q.shut ≡ true) where
  lends : (c : Call) → Lends q.shared.size c → lent_ok q.shared (length c.ring) (length c.list) ≡ true
  unfolding lent_ok
  lends c l = rw (ok, eq-eqb (length c.ring) (32 * q.shared.size) l.ring_long, eq-eqb (length c.list) q.shared.size l.list_long)

  shut_answer : (c : Call) → Lends q.shared.size c → (a : Asking) → is_send a ≡ true → answered q c.ring c.list a ≡ answer_at 12
  unfolding send_answer shutdown_answer
  shut_answer c l (sending lent m) s = rw (lends c l, shut)
  shut_answer c l (shutting r) s = rw (lends c l, shut)
  shut_answer c l (reading lent) s = absurd (false≢true s)

-- THE SHUTDOWN: whatever calls come after it, a send among them, lent what the ring's size asks, is answered 12
pub shut_out : (q : SendRing) (ring list : List ℕ) (s : Shutdown) → answer_to_shutdown q ring list s ≡ done
    → (cs : List Call) (c : Call) → is_send c.asks ≡ true → Lends q.shared.size c
    → answered (after_all (shutdown_of q ring list s).queue cs) c.ring c.list c.asks ≡ answer_at 12
shut_out q ring list s z cs c is l =
    let ok = is_placed q.shared (shutdown_room q (length ring) (length list) z).lent.is in
    let k = call_keeps q ok ring list (shutting s) in
    let r = calls_keep (shutdown_of q ring list s).queue k.ok cs in
    let shut : (shutdown_of q ring list s).queue.shut ≡ true = rw (done-is_ok (answer_to_shutdown q ring list s) z) in
    let l' : Lends (after_all (shutdown_of q ring list s).queue cs).shared.size c = rw (r.same_size ∙ k.same_size) l in
    shut_answer (after_all (shutdown_of q ring list s).queue cs) r.ok (r.stays_shut shut) c l' c.asks is
