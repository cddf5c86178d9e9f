-- The calls' statements fix their outcomes: any two that meet one are equal.
-- Assumes nothing.
use Rattle.rules.specs.Rules.{Answer}
use Rattle.std.proofs.Common.{ℕ, ◌≡◌, List, Result}
use Rattle.rules.specs.Outcomes.{Fixes}
use Rattle.rules.proofs.Outcomes.{alike, equation}
use Rattle.rules.specs.declared.Refusal.{Refusal}
use Rattle.mail_ring.specs.Posting.{ring_after, list_after}
use Rattle.mail_request.specs.declared.Message.{Message}
use Rattle.mail_request.specs.declared.Shutdown.{Shutdown}
use Rattle.mail_request.specs.Request.{send_element, shutdown_element}
use Rattle.mail_send.specs.declared.SendRing.{SendRing}
use Rattle.mail_send.specs.declared.Sent.{Sent}
use Rattle.mail_send.specs.declared.Completion.{Completion}
use Rattle.mail_send.specs.Sending.{fresh_of, tail_value_of, tail_register_of, answer_to_send, send_of, answer_to_shutdown, shutdown_of, completion_of, Outcome, SendMeets, ShutMeets}

pub fresh_alike : (size : ℕ) (a b : Sent) → a ≡ fresh_of size → b ≡ fresh_of size → a ≡ b
fresh_alike size = alike (equation (fresh_of size))

pub tail_value_alike : (q : SendRing) (a b : Result ℕ Refusal) → a ≡ tail_value_of q → b ≡ tail_value_of q → a ≡ b
tail_value_alike q = alike (equation (tail_value_of q))

pub tail_register_alike : (q : SendRing) (a b : Result ℕ Refusal) → a ≡ tail_register_of q → b ≡ tail_register_of q → a ≡ b
tail_register_alike q = alike (equation (tail_register_of q))

pub completion_alike : (q : SendRing) (ring list : List ℕ) (lent : ℕ) (a b : Completion) → a ≡ completion_of q ring list lent → b ≡ completion_of q ring list lent → a ≡ b
completion_alike q ring list lent = alike (equation (completion_of q ring list lent))

module _ (q : SendRing) (ring list : List ℕ) (lent : ℕ) (m : Message) where
  abbrev answer : Answer
  answer = answer_to_send q ring list lent m

  send_fixes : Fixes (SendMeets q ring list lent m) (record { result = send_of q ring list lent m; ring = ring_after answer q.shared ring list (send_element m); list = list_after answer q.shared ring list (send_element m) })
  send_fixes o p = rw (← p.result_is, ← p.ring_is, ← p.list_is)

  pub send_alike : (a b : Outcome) → SendMeets q ring list lent m a → SendMeets q ring list lent m b → a ≡ b
  send_alike = alike send_fixes

module _ (q : SendRing) (ring list : List ℕ) (s : Shutdown) where
  abbrev answered : Answer
  answered = answer_to_shutdown q ring list s

  shutdown_fixes : Fixes (ShutMeets q ring list s) (record { result = shutdown_of q ring list s; ring = ring_after answered q.shared ring list (shutdown_element s); list = list_after answered q.shared ring list (shutdown_element s) })
  shutdown_fixes o p = rw (← p.result_is, ← p.ring_is, ← p.list_is)

  pub shutdown_alike : (a b : Outcome) → ShutMeets q ring list s a → ShutMeets q ring list s b → a ≡ b
  shutdown_alike = alike shutdown_fixes
