-- The receive ring (02, "The mailbox"): its record, and each call's checks in their order, its result, and the lent memory after it.
-- Assumes nothing.
use Rattle.rules.specs.declared.Refusal.{Refusal}
use Rattle.rules.specs.declared.Refusal.TheVariants.{WrongRecord}
use Rattle.std.specs.Prelude.{ℕ, ◌≡◌, true, not, ◌||◌, cond, List, [], ◌∷◌, ◌++◌, eqb, length, Result, is_ok, Err}
use Rattle.rules.specs.Rules.{Check, ◌when◌, answer_of, done, Answer}
use Rattle.rules.specs.Address.{address_wrong}
use Rattle.ring.specs.Queue.{asked_of}
use Rattle.element.specs.declared.Element.{Element}
use Rattle.mail_ring.specs.Ring.{ring_ok, lent_ok, empty_ring, tail_of, is_full, advanced}
use Rattle.mail_ring.specs.Look.{head_element, head_posted, look_checks}
use Rattle.mail_request.specs.declared.Room.{Room}
use Rattle.mail_request.specs.Request.{length_wrong, room_element}
use Rattle.mail_reading.specs.Reading.{message_wrong, element_checks, reading_of, no_reading}
use Rattle.mail_receive.specs.declared.ReceiveRing.{ReceiveRing}
use Rattle.mail_receive.specs.declared.Posted.{Posted}
use Rattle.mail_receive.specs.declared.Received.{Received}
use Rattle.mail_ring.specs.Posting.{record_after, ring_after, list_after}

-- ---- the record

abbrev pub empty_receive : ℕ → ReceiveRing
empty_receive size = record { shared = empty_ring size }

-- a fresh ring is empty; outside the size's line, 1 and an all-zero record
unfoldable pub fresh_of : ℕ → Posted
fresh_of size = cond (ring_ok (empty_ring size)) (record { answer = done; queue = empty_receive size }) (record { answer = Err WrongRecord; queue = empty_receive 0 })

-- the tail value, and VF_ARQT
abbrev pub tail_value_of : ReceiveRing → Result ℕ Refusal
tail_value_of q = asked_of (ring_ok q.shared) (tail_of q.shared)

abbrev pub tail_register_of : ReceiveRing → Result ℕ Refusal
tail_register_of q = asked_of (ring_ok q.shared) 0x7000

-- ---- receive posts

-- 1 the record or a slice's length is wrong, 11 the length is wrong, 0 too, 2 the address is, 3 there is no room
abbrev pub post_checks : ReceiveRing → ℕ → ℕ → ℕ → Room → List Check
post_checks q ring_length list_length lent room =
    1 when not (lent_ok q.shared ring_length list_length)
    ∷ 11 when (eqb room.length 0 || length_wrong true room.length lent)
    ∷ 2 when address_wrong room.address room.length
    ∷ 3 when is_full q.shared
    ∷ []

unfoldable pub post_answer : ReceiveRing → ℕ → ℕ → ℕ → Room → Answer
post_answer q ring_length list_length lent room = answer_of (post_checks q ring_length list_length lent room)

module _ (q : ReceiveRing) (ring list : List ℕ) (lent : ℕ) (room : Room) where
  abbrev pub answer_to_post : Answer
  answer_to_post = post_answer q (length ring) (length list) lent room

  abbrev pub post_of : Posted
  post_of = record { answer = answer_to_post; queue = record { shared = record_after answer_to_post q.shared ring list (room_element room) } }

  -- all that post returns and leaves
  pub record PostedAs (r : Posted) (ring' list' : List ℕ) : Type 0 where
    pub result_is : r ≡ post_of
    pub ring_is : ring' ≡ ring_after answer_to_post q.shared ring list (room_element room)
    pub list_is : list' ≡ list_after answer_to_post q.shared ring list (room_element room)

-- ---- messages

module _ (q : ReceiveRing) (ring list : List ℕ) (lent : ℕ) where
  abbrev pub received : Element
  received = head_element q.shared ring list

  -- 1, 4 nothing to read, 5 the element is wrong, 11 its length is
  abbrev pub message_checks : List Check
  message_checks = look_checks q.shared ring list ++ element_checks (message_wrong received (head_posted q.shared ring list)) received lent

  unfoldable pub message_answer : Answer
  message_answer = answer_of message_checks

  -- where it is done what was read, and the element is handed back; zeros beside a refusal
  unfoldable pub message_of : Received
  message_of =
      cond (is_ok message_answer)
      (record { answer = done; queue = record { shared = advanced q.shared }; reading = reading_of q.shared.head received })
      (record { answer = message_answer; queue = q; reading = no_reading })

-- ---- outcomes: what a post gives and leaves, and that it meets the statement

pub record Outcome : Type 0 where
  pub result : Posted
  pub ring : List ℕ
  pub list : List ℕ

abbrev pub Meets : ReceiveRing → List ℕ → List ℕ → ℕ → Room → Outcome → Type 0
Meets q ring list lent room o = PostedAs q ring list lent room o.result o.ring o.list
