-- The calls' statements fix their outcomes: any two that meet one are equal.
-- Assumes nothing.
use Rattle.rules.specs.Rules.{Answer}
use Rattle.std.proofs.Common.{ℕ, ◌≡◌, List, Result}
use Rattle.rules.specs.Outcomes.{Fixes}
use Rattle.rules.proofs.Outcomes.{alike, equation}
use Rattle.rules.specs.declared.Refusal.{Refusal}
use Rattle.mail_ring.specs.Posting.{ring_after, list_after}
use Rattle.mail_request.specs.declared.Room.{Room}
use Rattle.mail_request.specs.Request.{room_element}
use Rattle.mail_receive.specs.declared.ReceiveRing.{ReceiveRing}
use Rattle.mail_receive.specs.declared.Posted.{Posted}
use Rattle.mail_receive.specs.declared.Received.{Received}
use Rattle.mail_receive.specs.Receiving.{fresh_of, tail_value_of, tail_register_of, answer_to_post, post_of, message_of, Outcome, Meets}

pub fresh_alike : (size : ℕ) (a b : Posted) → a ≡ fresh_of size → b ≡ fresh_of size → a ≡ b
fresh_alike size = alike (equation (fresh_of size))

pub tail_value_alike : (q : ReceiveRing) (a b : Result ℕ Refusal) → a ≡ tail_value_of q → b ≡ tail_value_of q → a ≡ b
tail_value_alike q = alike (equation (tail_value_of q))

pub tail_register_alike : (q : ReceiveRing) (a b : Result ℕ Refusal) → a ≡ tail_register_of q → b ≡ tail_register_of q → a ≡ b
tail_register_alike q = alike (equation (tail_register_of q))

pub message_alike : (q : ReceiveRing) (ring list : List ℕ) (lent : ℕ) (a b : Received) → a ≡ message_of q ring list lent → b ≡ message_of q ring list lent → a ≡ b
message_alike q ring list lent = alike (equation (message_of q ring list lent))

module _ (q : ReceiveRing) (ring list : List ℕ) (lent : ℕ) (room : Room) where
  abbrev answer : Answer
  answer = answer_to_post q ring list lent room

  post_fixes : Fixes (Meets q ring list lent room) (record { result = post_of q ring list lent room; ring = ring_after answer q.shared ring list (room_element room); list = list_after answer q.shared ring list (room_element room) })
  post_fixes o p = rw (← p.result_is, ← p.ring_is, ← p.list_is)

  pub post_alike : (a b : Outcome) → Meets q ring list lent room a → Meets q ring list lent room b → a ≡ b
  post_alike = alike post_fixes
