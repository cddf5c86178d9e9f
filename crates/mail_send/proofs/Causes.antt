-- Exact causes: each number is answered exactly if its cause holds and no earlier one does (`Answers` of rules, both ways).
-- Assumes nothing.
use Rattle.rules.specs.declared.Refusal.TheVariants.{WrongRecord}
use Rattle.std.proofs.Common.{Err, ℕ, ◌≡◌, refl, ◌≢◌, not, List, [], ◌∷◌, length}
use Rattle.rules.specs.Rules.{◌when◌, answer_of, Answers, done, answered, Answer}
use Rattle.rules.proofs.Checks.{has_cause, is_answered, one_check}
use Rattle.mail_ring.specs.Ring.{ring_ok, empty_ring}
use Rattle.mail_request.specs.declared.Message.{Message}
use Rattle.mail_request.specs.declared.Shutdown.{Shutdown}
use Rattle.mail_send.specs.declared.SendRing.{SendRing}
use Rattle.mail_send.specs.declared.Sent.{Sent}
use Rattle.mail_send.specs.Sending.{empty_send, fresh_of, send_checks, send_answer, answer_to_send, shutdown_checks, shutdown_answer, answer_to_shutdown, completion_checks, completion_answer}

pub fresh_answer : (size : ℕ) → (fresh_of size).answer ≡ answer_of (1 when not (ring_ok (empty_ring size)) ∷ [])
unfolding fresh_of
fresh_answer size = one_check (λ (f : Sent). f.answer) (ring_ok (empty_ring size)) (record { answer = done; queue = empty_send size }) (record { answer = Err WrongRecord; queue = empty_send 0 }) refl refl

-- ---- Send to PF: 1, 12, 11, 2, 3

module _ (q : SendRing) (ring list : List ℕ) (lent : ℕ) (m : Message) (n : Answer) where
  pub send_cause : answer_to_send q ring list lent m ≡ n → n ≢ done → (i : ℕ) × Answers (send_checks q (length ring) (length list) lent m) n i
  unfolding send_answer
  send_cause e ne = has_cause _ n e ne

  pub send_answered : (i : ℕ) → Answers (send_checks q (length ring) (length list) lent m) n i → answer_to_send q ring list lent m ≡ n
  unfolding send_answer
  send_answered i a = is_answered _ n i a

-- ---- Queue Shutdown: 1, 12, 3

module _ (q : SendRing) (ring list : List ℕ) (s : Shutdown) (n : Answer) where
  pub shutdown_cause : answer_to_shutdown q ring list s ≡ n → n ≢ done → (i : ℕ) × Answers (shutdown_checks q (length ring) (length list)) n i
  unfolding shutdown_answer
  shutdown_cause e ne = has_cause _ n e ne

  pub shutdown_answered : (i : ℕ) → Answers (shutdown_checks q (length ring) (length list)) n i → answer_to_shutdown q ring list s ≡ n
  unfolding shutdown_answer
  shutdown_answered i a = is_answered _ n i a

-- ---- completions: 1, 4, 5, 11

module _ (q : SendRing) (ring list : List ℕ) (lent : ℕ) (n : Answer) where
  pub completion_cause : completion_answer q ring list lent ≡ n → n ≢ done → (i : ℕ) × Answers (completion_checks q ring list lent) n i
  unfolding completion_answer
  completion_cause e ne = has_cause (completion_checks q ring list lent) n e ne

  pub completion_answered : (i : ℕ) → Answers (completion_checks q ring list lent) n i → completion_answer q ring list lent ≡ n
  unfolding completion_answer
  completion_answered i a = is_answered (completion_checks q ring list lent) n i a
