-- A record given back is accepted again, of the same size; a refused call gives back what came.
-- Assumes nothing.
use Rattle.rules.proofs.Answers.{done_is, refused_is, refused-is_ok}
use Rattle.std.proofs.Common.{is_ok, ℕ, ◌≡◌, refl, sym, ◌∙◌, ◌≢◌, Bool, true, false, not, cond, List, [], ◌∷◌, ne_eqb, eqb-true, eqb, length}
use borrow.Author.Tests.{not-false, eqb-false}
use Rattle.rules.specs.Rules.{◌when◌, done, Answer}
use Rattle.rules.proofs.Checks.{passed, by_answer}
use Rattle.mail_ring.specs.declared.Ring.{Ring}
use Rattle.mail_ring.specs.Ring.{ring_ok, empty_ring, grown, advanced}
use Rattle.mail_ring.specs.Posting.{Unchanged}
use Rattle.mail_ring.proofs.Record.{is_placed, advanced_placed}
use Rattle.mail_ring.proofs.Puts.{refused, after_ok}
use Rattle.mail_request.specs.declared.Message.{Message}
use Rattle.mail_request.specs.declared.Shutdown.{Shutdown}
use Rattle.mail_request.specs.Request.{send_element, shutdown_element}
use Rattle.mail_reading.specs.Reading.{no_reading}
use Rattle.mail_send.specs.declared.SendRing.{SendRing}
use Rattle.mail_send.specs.Sending.{empty_send, fresh_of, answer_to_send, answer_to_shutdown, shutdown_of, completion_answer, completion_of}
use Rattle.mail_send.specs.Calls.{Asking, sending, shutting, reading, left}
use Rattle.mail_send.proofs.Laws.{send_room, shutdown_room, completion_refused, completion_given, completion_waiting}
use Rattle.mail_send.proofs.Causes.{fresh_answer}

pub fresh_lines : (size : ℕ) → (fresh_of size).answer ≡ done → ring_ok (empty_ring size) ≡ true
fresh_lines size z = not-false _ (passed (1 when not (ring_ok (empty_ring size)) ∷ []) tt (sym (fresh_answer size) ∙ z) 0)

-- a fresh start gives an accepted ring, and it is open
pub fresh_open : (size : ℕ) → (fresh_of size).answer ≡ done → (fresh_of size).queue ≡ empty_send size
unfolding fresh_of
fresh_open size z = rw (fresh_lines size z)

pub fresh_keeps : (size : ℕ) → (fresh_of size).answer ≡ done → ring_ok (fresh_of size).queue.shared ≡ true
fresh_keeps size z = rw (fresh_open size z) (fresh_lines size z)

-- ---- refused

pub send_refused_lem : (q : SendRing) (ring list : List ℕ) (lent : ℕ) (m : Message) → answer_to_send q ring list lent m ≢ done → Unchanged (answer_to_send q ring list lent m) q.shared ring list (send_element m)
send_refused_lem q ring list lent m ne = refused _ q.shared ring list (send_element m) ne

module _ (q : SendRing) (ring list : List ℕ) (s : Shutdown) (ne : answer_to_shutdown q ring list s ≢ done) where
  pub shutdown_refused : Unchanged (answer_to_shutdown q ring list s) q.shared ring list (shutdown_element s)
  shutdown_refused = refused _ q.shared ring list (shutdown_element s) ne

  -- and does not shut the ring
  pub still_open : (shutdown_of q ring list s).queue.shut ≡ q.shut
  still_open = rw (refused-is_ok (answer_to_shutdown q ring list s) ne)

pub completion_refuses : (q : SendRing) (ring list : List ℕ) (lent : ℕ) → completion_answer q ring list lent ≢ done
    → completion_of q ring list lent ≡ record { answer = completion_answer q ring list lent; queue = q; opcode = 0; reading = no_reading }
completion_refuses q ring list lent ne = sym (completion_refused q ring list lent refl ne)

-- ---- kept

-- the record after a call is accepted, of the same size, and shut if it was
pub record Kept (q q' : SendRing) : Type 0 where
  pub ok : ring_ok q'.shared ≡ true
  pub same_size : q'.shared.size ≡ q.shared.size
  pub stays_shut : q.shut ≡ true → q'.shut ≡ true

module _ (q : SendRing) (ok : ring_ok q.shared ≡ true) (ring list : List ℕ) where
  -- a posted element does not change the size
  size_same : (n : Answer) → (cond (is_ok n) (grown q.shared) q.shared).size ≡ q.shared.size
  size_same n = by_answer (λ (r : Ring). r.size ≡ q.shared.size) n (grown q.shared) q.shared (λ z. refl) refl

  pub call_keeps : (a : Asking) → Kept q (left q ring list a)
  call_keeps (sending lent m) =
      record {
        ok = after_ok (answer_to_send q ring list lent m) q.shared ring list (send_element m) ok (send_room q (length ring) (length list) lent m);
        same_size = size_same (answer_to_send q ring list lent m);
        stays_shut = λ s. s;
      }
  call_keeps (shutting s) =
      record {
        ok = after_ok (answer_to_shutdown q ring list s) q.shared ring list (shutdown_element s) ok (shutdown_room q (length ring) (length list));
        same_size = size_same (answer_to_shutdown q ring list s);
        stays_shut = λ p. by_answer (λ (b : Bool). b ≡ true) (answer_to_shutdown q ring list s) true q.shut (λ z. refl) p;
      }
  call_keeps (reading lent) = go (is_ok (completion_answer q ring list lent)) refl
    where
      go : (b : Bool) → is_ok (completion_answer q ring list lent) ≡ b → Kept q (completion_of q ring list lent).queue
      go true e =
          let z = done_is _ e in
          rw (completion_given q ring list lent z)
          (record { ok = is_placed (advanced q.shared) (advanced_placed q.shared (completion_waiting q ring list lent z).is); same_size = refl; stays_shut = λ s. s })
      go false e = rw (completion_refuses q ring list lent (refused_is _ e)) (record { ok = ok; same_size = refl; stays_shut = λ s. s })
