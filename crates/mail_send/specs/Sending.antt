-- The send ring (02, "The mailbox"): its record, and each call's checks in their order, its result, and the lent memory after it.
-- Assumes nothing.
use Rattle.rules.specs.declared.Refusal.{Refusal}
use Rattle.rules.specs.declared.Refusal.TheVariants.{WrongRecord}
use Rattle.std.specs.Prelude.{ℕ, ◌≡◌, true, false, not, ◌&&◌, cond, List, [], ◌∷◌, ◌++◌, eqb, length, Result, is_ok, Err}
use Rattle.rules.specs.Rules.{Check, ◌when◌, answer_of, done, Answer}
use Rattle.rules.specs.Address.{address_wrong}
use Rattle.ring.specs.Queue.{asked_of}
use Rattle.element.specs.declared.Element.{Element}
use Rattle.mail_ring.specs.Ring.{ring_ok, lent_ok, empty_ring, tail_of, is_full, advanced}
use Rattle.mail_ring.specs.Look.{head_element, head_posted, look_checks}
use Rattle.mail_request.specs.declared.Message.{Message}
use Rattle.mail_request.specs.declared.Shutdown.{Shutdown}
use Rattle.mail_request.specs.Request.{length_wrong, send_element, shutdown_element}
use Rattle.mail_reading.specs.Reading.{completion_wrong, element_checks, reading_of, no_reading}
use Rattle.mail_send.specs.declared.SendRing.{SendRing}
use Rattle.mail_send.specs.declared.Sent.{Sent}
use Rattle.mail_send.specs.declared.Completion.{Completion}
use Rattle.mail_ring.specs.Posting.{record_after, ring_after, list_after}

-- ---- the record

abbrev pub empty_send : ℕ → SendRing
empty_send size = record { shared = empty_ring size; shut = false }

-- a fresh ring is empty and open; outside the size's line, 1 and an all-zero record
unfoldable pub fresh_of : ℕ → Sent
fresh_of size = cond (ring_ok (empty_ring size)) (record { answer = done; queue = empty_send size }) (record { answer = Err WrongRecord; queue = empty_send 0 })

-- the tail value, and VF_ATQT
abbrev pub tail_value_of : SendRing → Result ℕ Refusal
tail_value_of q = asked_of (ring_ok q.shared) (tail_of q.shared)

abbrev pub tail_register_of : SendRing → Result ℕ Refusal
tail_register_of q = asked_of (ring_ok q.shared) 0x8400

-- ---- Send to PF

-- 1 the record or a slice's length is wrong, 12 the ring is shut, 11 the length is wrong, 2 the address is (with BUF), 3 there is no room
abbrev pub send_checks : SendRing → ℕ → ℕ → ℕ → Message → List Check
send_checks q ring_length list_length lent m =
    1 when not (lent_ok q.shared ring_length list_length)
    ∷ 12 when q.shut
    ∷ 11 when length_wrong m.buf m.length lent
    ∷ 2 when (m.buf && address_wrong m.address m.length)
    ∷ 3 when is_full q.shared
    ∷ []

unfoldable pub send_answer : SendRing → ℕ → ℕ → ℕ → Message → Answer
send_answer q ring_length list_length lent m = answer_of (send_checks q ring_length list_length lent m)

module _ (q : SendRing) (ring list : List ℕ) (lent : ℕ) (m : Message) where
  abbrev pub answer_to_send : Answer
  answer_to_send = send_answer q (length ring) (length list) lent m

  abbrev pub send_of : Sent
  send_of = record { answer = answer_to_send; queue = record { shared = record_after answer_to_send q.shared ring list (send_element m); shut = q.shut } }

  -- all that send returns and leaves
  pub record SentAs (r : Sent) (ring' list' : List ℕ) : Type 0 where
    pub result_is : r ≡ send_of
    pub ring_is : ring' ≡ ring_after answer_to_send q.shared ring list (send_element m)
    pub list_is : list' ≡ list_after answer_to_send q.shared ring list (send_element m)

-- ---- Queue Shutdown

-- 1, 12 the ring is shut already, 3
abbrev pub shutdown_checks : SendRing → ℕ → ℕ → List Check
shutdown_checks q ring_length list_length = 1 when not (lent_ok q.shared ring_length list_length) ∷ 12 when q.shut ∷ 3 when is_full q.shared ∷ []

unfoldable pub shutdown_answer : SendRing → ℕ → ℕ → Answer
shutdown_answer q ring_length list_length = answer_of (shutdown_checks q ring_length list_length)

module _ (q : SendRing) (ring list : List ℕ) (s : Shutdown) where
  abbrev pub answer_to_shutdown : Answer
  answer_to_shutdown = shutdown_answer q (length ring) (length list)

  -- accepted, it shuts the ring
  abbrev pub shutdown_of : Sent
  shutdown_of =
      record {
        answer = answer_to_shutdown;
        queue = record { shared = record_after answer_to_shutdown q.shared ring list (shutdown_element s); shut = cond (is_ok answer_to_shutdown) true q.shut };
      }

  -- all that shutdown returns and leaves
  pub record ShutAs (r : Sent) (ring' list' : List ℕ) : Type 0 where
    pub result_is : r ≡ shutdown_of
    pub ring_is : ring' ≡ ring_after answer_to_shutdown q.shared ring list (shutdown_element s)
    pub list_is : list' ≡ list_after answer_to_shutdown q.shared ring list (shutdown_element s)

-- ---- completions

module _ (q : SendRing) (ring list : List ℕ) (lent : ℕ) where
  abbrev pub completed : Element
  completed = head_element q.shared ring list

  -- 1, 4 nothing to read, 5 the element is wrong, 11 its length is
  abbrev pub completion_checks : List Check
  completion_checks = look_checks q.shared ring list ++ element_checks (completion_wrong completed (head_posted q.shared ring list)) completed lent

  unfoldable pub completion_answer : Answer
  completion_answer = answer_of completion_checks

  -- where it is done what was read, and the element is handed back; zeros beside a refusal
  unfoldable pub completion_of : Completion
  completion_of =
      cond (is_ok completion_answer)
      (record {
        answer = done;
        queue = record { shared = advanced q.shared; shut = q.shut };
        opcode = completed.opcode;
        reading = reading_of q.shared.head completed;
      })
      (record { answer = completion_answer; queue = q; opcode = 0; reading = no_reading })

-- ---- outcomes: what a send or a shutdown gives and leaves, and that it meets the statement

pub record Outcome : Type 0 where
  pub result : Sent
  pub ring : List ℕ
  pub list : List ℕ

abbrev pub SendMeets : SendRing → List ℕ → List ℕ → ℕ → Message → Outcome → Type 0
SendMeets q ring list lent m o = SentAs q ring list lent m o.result o.ring o.list

abbrev pub ShutMeets : SendRing → List ℕ → List ℕ → Shutdown → Outcome → Type 0
ShutMeets q ring list s o = ShutAs q ring list s o.result o.ring o.list
