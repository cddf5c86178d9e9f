-- Any list of calls on one send ring, each with what it is lent: between two calls the device may write what it likes, so every call has memory of its own.
-- Assumes nothing.
use Rattle.rules.specs.Rules.{Answer}
use Rattle.std.specs.Prelude.{ℕ, ◌*◌, ◌≡◌, Bool, true, false, List, [], ◌∷◌, length}
use Rattle.mail_request.specs.declared.Message.{Message}
use Rattle.mail_request.specs.declared.Shutdown.{Shutdown}
use Rattle.mail_send.specs.declared.SendRing.{SendRing}
use Rattle.mail_send.specs.Sending.{answer_to_send, send_of, answer_to_shutdown, shutdown_of, completion_answer, completion_of}

pub data Asking : Type 0 where
  sending : ℕ → Message → Asking
  shutting : Shutdown → Asking
  reading : ℕ → Asking

-- a call: what it asks, and the ring and the list that it is lent
pub record Call : Type 0 where
  pub asks : Asking
  pub ring : List ℕ
  pub list : List ℕ

-- a send, a shutdown included
abbrev pub is_send : Asking → Bool
is_send (sending lent m) = true
is_send (shutting s) = true
is_send (reading lent) = false

-- its answer, and the record after it
abbrev pub answered : SendRing → List ℕ → List ℕ → Asking → Answer
answered q ring list (sending lent m) = answer_to_send q ring list lent m
answered q ring list (shutting s) = answer_to_shutdown q ring list s
answered q ring list (reading lent) = completion_answer q ring list lent

abbrev pub left : SendRing → List ℕ → List ℕ → Asking → SendRing
left q ring list (sending lent m) = (send_of q ring list lent m).queue
left q ring list (shutting s) = (shutdown_of q ring list s).queue
left q ring list (reading lent) = (completion_of q ring list lent).queue

-- the record after a list of calls
abbrev pub after_all : SendRing → List Call → SendRing
after_all q [] = q
after_all q (c ∷ cs) = after_all (left q c.ring c.list c.asks) cs

-- a call is lent what a size asks
pub record Lends (size : ℕ) (c : Call) : Type 0 where
  pub ring_long : length c.ring ≡ 32 * size
  pub list_long : length c.list ≡ size
