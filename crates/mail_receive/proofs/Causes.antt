-- Exact causes: each number is answered exactly if its cause holds and no earlier one does (`Answers` of rules, both ways).
-- Assumes nothing.
use Rattle.rules.specs.declared.Refusal.TheVariants.{WrongRecord}
use Rattle.std.proofs.Common.{Err, ℕ, ◌≡◌, refl, ◌≢◌, not, List, [], ◌∷◌, length}
use Rattle.rules.specs.Rules.{◌when◌, answer_of, Answers, done, answered, Answer}
use Rattle.rules.proofs.Checks.{has_cause, is_answered, one_check}
use Rattle.mail_ring.specs.Ring.{ring_ok, empty_ring}
use Rattle.mail_request.specs.declared.Room.{Room}
use Rattle.mail_receive.specs.declared.ReceiveRing.{ReceiveRing}
use Rattle.mail_receive.specs.declared.Posted.{Posted}
use Rattle.mail_receive.specs.Receiving.{empty_receive, fresh_of, post_checks, post_answer, answer_to_post, message_checks, message_answer}

pub fresh_answer : (size : ℕ) → (fresh_of size).answer ≡ answer_of (1 when not (ring_ok (empty_ring size)) ∷ [])
unfolding fresh_of
fresh_answer size = one_check (λ (f : Posted). f.answer) (ring_ok (empty_ring size)) (record { answer = done; queue = empty_receive size }) (record { answer = Err WrongRecord; queue = empty_receive 0 }) refl refl

-- ---- receive posts: 1, 11, 2, 3

module _ (q : ReceiveRing) (ring list : List ℕ) (lent : ℕ) (room : Room) (n : Answer) where
  pub post_cause : answer_to_post q ring list lent room ≡ n → n ≢ done → (i : ℕ) × Answers (post_checks q (length ring) (length list) lent room) n i
  unfolding post_answer
  post_cause e ne = has_cause _ n e ne

  pub post_answered : (i : ℕ) → Answers (post_checks q (length ring) (length list) lent room) n i → answer_to_post q ring list lent room ≡ n
  unfolding post_answer
  post_answered i a = is_answered _ n i a

-- ---- messages: 1, 4, 5, 11

module _ (q : ReceiveRing) (ring list : List ℕ) (lent : ℕ) (n : Answer) where
  pub message_cause : message_answer q ring list lent ≡ n → n ≢ done → (i : ℕ) × Answers (message_checks q ring list lent) n i
  unfolding message_answer
  message_cause e ne = has_cause (message_checks q ring list lent) n e ne

  pub message_answered : (i : ℕ) → Answers (message_checks q ring list lent) n i → message_answer q ring list lent ≡ n
  unfolding message_answer
  message_answered i a = is_answered (message_checks q ring list lent) n i a
