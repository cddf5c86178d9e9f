-- Exact causes: each answer is given exactly if its cause holds and no earlier one does (`Answers` of rules, both ways).
-- Assumes nothing.
use Rattle.rules.specs.declared.Refusal.TheVariants.{WrongRecord}
use Rattle.std.proofs.Common.{Err, ℕ, ◌≡◌, refl, sym, ◌∙◌, ◌≢◌, Bool, true, false, not, ◌&&◌, cond, List, [], ◌∷◌, length}
use Rattle.rules.specs.Rules.{Answer, done, ◌when◌, answer_of, Answers}
use Rattle.rules.proofs.Checks.{has_cause, is_answered, one_check}
use Rattle.ring.specs.Sizes.{queue_ok}
use Rattle.ring.proofs.Record.{empty_ok}
use Rattle.scan.specs.Slots.{posted_slots}
use Rattle.scan.specs.Scan.{Look, refuse, whole, scan, slot_checks}
use Rattle.scan.proofs.Scans.{answer_to as answer_seen, scan_answer}
use Rattle.receive.specs.declared.RxQueue.{RxQueue}
use Rattle.receive.specs.declared.Fresh.{Fresh}
use Rattle.receive.specs.Queue.{buffer_ok, record_ok, lent_ok, empty_queue, fresh_of}
use Rattle.receive.specs.Post.{post_checks, post_answer, answer_to}
use Rattle.receive.specs.Take.{look, take_checks, take_by, take_of}
use Rattle.receive.specs.Burst.{burst_checks, burst_of}

-- ---- fresh: 1 exactly if the empty record is not accepted, so exactly if a number is outside its line

module _ (queue size buffer : ℕ) where
  pub fresh_answer : (fresh_of queue size buffer).answer ≡ answer_of (1 when not (record_ok (empty_queue queue size buffer)) ∷ [])
  unfolding fresh_of
  fresh_answer = one_check (λ (f : Fresh). f.answer) (record_ok (empty_queue queue size buffer)) (record { answer = done; queue = empty_queue queue size buffer }) (record { answer = Err WrongRecord; queue = empty_queue 0 0 0 }) refl refl

  pub fresh_numbers : record_ok (empty_queue queue size buffer) ≡ queue_ok queue size && buffer_ok buffer
  unfolding record_ok
  fresh_numbers = rw (empty_ok queue size)

-- ---- post: 1, 2, 3

module _ (q : RxQueue) (ring list : List ℕ) (address : ℕ) (n : Answer) where
  pub post_cause : answer_to q ring list address ≡ n → n ≢ done → (i : ℕ) × Answers (post_checks q (length ring) (length list) address) n i
  unfolding post_answer
  post_cause e ne = has_cause _ n e ne

  pub post_answered : (i : ℕ) → Answers (post_checks q (length ring) (length list) address) n i → answer_to q ring list address ≡ n
  unfolding post_answer
  post_answered i a = is_answered _ n i a

-- ---- take: 1, then slots from head upward

module _ (q : RxQueue) (ring list : List ℕ) where
  pub take_answer : (take_of q ring list).answer ≡ answer_of (take_checks q ring list)
  unfolding take_of look take_by
  take_answer = by (not (lent_ok q (length ring) (length list)))
    where
      answer : (l : Look) → (take_by l q).answer ≡ answer_seen l
      answer (refuse n) = refl
      answer (whole p) = refl

      by : (b : Bool) → (take_by (cond b (refuse WrongRecord) (scan q.buffer 0 (posted_slots q.shared ring list))) q).answer ≡ cond b (Err WrongRecord) (answer_of (slot_checks q.buffer 0 (posted_slots q.shared ring list)))
      by true = refl
      by false = answer (scan q.buffer 0 (posted_slots q.shared ring list)) ∙ scan_answer q.buffer 0 (posted_slots q.shared ring list)

  pub take_cause : (n : Answer) → (take_of q ring list).answer ≡ n → n ≢ done → (i : ℕ) × Answers (take_checks q ring list) n i
  take_cause n e ne = has_cause (take_checks q ring list) n (sym take_answer ∙ e) ne

  -- done too: a check of EOP that is the first to hold
  pub take_answered : (n : Answer) (i : ℕ) → Answers (take_checks q ring list) n i → (take_of q ring list).answer ≡ n
  take_answered n i a = take_answer ∙ is_answered (take_checks q ring list) n i a

-- ---- burst: 1, 10, then what stops its takes

module _ (q : RxQueue) (ring list out : List ℕ) (limit : ℕ) (n : Answer) where
  pub burst_cause : (burst_of q ring list out limit).answer ≡ n → n ≢ done → (i : ℕ) × Answers (burst_checks q ring list out limit) n i
  unfolding burst_of
  burst_cause e ne = has_cause (burst_checks q ring list out limit) n e ne

  pub burst_answered : (i : ℕ) → Answers (burst_checks q ring list out limit) n i → (burst_of q ring list out limit).answer ≡ n
  unfolding burst_of
  burst_answered i a = is_answered (burst_checks q ring list out limit) n i a
