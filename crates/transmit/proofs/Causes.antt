-- Exact causes: each number is answered exactly if its cause holds and no earlier one does (`Answers` of rules, both ways). A send
-- refused with 3 is accepted once there are slots enough, and 8 is no matter of a plain send.
-- Assumes nothing.
use Rattle.std.proofs.Common.{◌≡◌, ◌≢◌, ℕ, zero, suc, ◌+◌, ◌≤◌, ◌<◌, Bool, true, false, not, ◌&&◌, List, [], ◌∷◌, Err, refl, ap, ◌∙◌, arith}
use borrow.Author.Tests.{not-false}
use Rattle.rules.specs.declared.Refusal.TheVariants.{WrongRecord, NoRoom}
use Rattle.rules.specs.Rules.{Answer, done, number_of, Check, ◌when◌, answer_of, nth, Answers}
use Rattle.rules.proofs.Answers.{refused_is}
use Rattle.rules.proofs.Checks.{has_cause, is_answered, one_check, passed, passes}
use Rattle.ring.specs.Sizes.{queue_ok, most_count}
use Rattle.ring.specs.Queue.{ever_posted, free_slots}
use Rattle.ring.proofs.Record.{empty_ok}
use Rattle.ring.proofs.Counts.{has_room}
use Rattle.segments.specs.Touch.{most_touched, touched}
use Rattle.request.specs.declared.Request.{Request}
use Rattle.packet.proofs.Causes.{plain_touches}
use Rattle.transmit.specs.declared.TxQueue.{TxQueue}
use Rattle.transmit.specs.declared.Fresh.{Fresh}
use Rattle.transmit.specs.Queue.{frame_ok, record_ok, empty_queue, fresh_of}
use Rattle.transmit.specs.Send.{slots_taken, send_checks, send_answer}
use Rattle.transmit.specs.Reclaim.{reclaim_checks, reclaim_answer}
use Rattle.transmit.proofs.Laws.{lent_same}

-- ---- one check alone: fresh answers 1 exactly if a number breaks its line

pub fresh_answer : (queue size frame : ℕ) → (fresh_of queue size frame).answer ≡ answer_of (1 when not (queue_ok queue size && frame_ok frame) ∷ [])
unfolding fresh_of record_ok
fresh_answer queue size frame =
    one_check (λ (f : Fresh). f.answer) (record_ok (empty_queue queue size frame)) (record { answer = done; queue = empty_queue queue size frame }) (record { answer = Err WrongRecord; queue = empty_queue 0 0 0 }) refl refl
    ∙ ap (λ (ok : Bool). answer_of (1 when not (ok && frame_ok frame) ∷ [])) (empty_ok queue size)

-- ---- reclaim: 1, 4, 5, 4

module _ (q : TxQueue) (ring tokens counts : List ℕ) (n : Answer) where
  pub reclaim_cause : reclaim_answer q ring tokens counts ≡ n → n ≢ done → (i : ℕ) × Answers (reclaim_checks q ring tokens counts) n i
  unfolding reclaim_answer
  reclaim_cause e ne = has_cause (reclaim_checks q ring tokens counts) n e ne

  pub reclaim_answered : (i : ℕ) → Answers (reclaim_checks q ring tokens counts) n i → reclaim_answer q ring tokens counts ≡ n
  unfolding reclaim_answer
  reclaim_answered i a = is_answered (reclaim_checks q ring tokens counts) n i a

-- ---- send: 1, 6, 2, 7, 8, 3

module _ (q : TxQueue) (ring_length tokens_length counts_length : ℕ) (addresses lengths : List ℕ) (request : Request) where
  abbrev its_checks : List Check
  its_checks = send_checks q ring_length tokens_length counts_length addresses lengths request

  pub send_cause : (n : Answer) → send_answer q ring_length tokens_length counts_length addresses lengths request ≡ n → n ≢ done
      → (i : ℕ) × Answers (send_checks q ring_length tokens_length counts_length addresses lengths request) n i
  unfolding send_answer
  send_cause n e ne = has_cause its_checks n e ne

  pub send_answered : (n : Answer) (i : ℕ) → Answers (send_checks q ring_length tokens_length counts_length addresses lengths request) n i
      → send_answer q ring_length tokens_length counts_length addresses lengths request ≡ n
  unfolding send_answer
  send_answered n i a = is_answered its_checks n i a

  -- no segment of an accepted plain send would touch more than 8 pieces
  pub plain_never_over : send_answer q ring_length tokens_length counts_length addresses lengths request ≡ done → request.segmented ≡ false
      → (header mss tlen k : ℕ) → touched lengths header mss tlen k ≤ most_touched
  unfolding send_answer
  plain_never_over e f = plain_touches addresses lengths q.frame request (not-false _ (passed its_checks tt e 1)) f

  -- no check but the last answers 3
  by_last : (i : ℕ) → Answers its_checks (Err NoRoom) i → (j : ℕ) → j < 5 → (nth its_checks j).cause ≡ false
  by_last zero a = absurd (omega (arith, ap number_of a.answer_is))
  by_last (suc zero) a = absurd (omega (arith, ap number_of a.answer_is))
  by_last (suc (suc zero)) a = absurd (omega (arith, ap number_of a.answer_is))
  by_last (suc (suc (suc zero))) a = absurd (omega (arith, ap number_of a.answer_is))
  by_last (suc (suc (suc (suc zero)))) a = absurd (omega (arith, ap number_of a.answer_is))
  by_last (suc (suc (suc (suc (suc zero))))) a = a.none_before
  by_last (suc (suc (suc (suc (suc (suc i)))))) a = absurd (omega (arith, a.within_list))

  -- retry: refused with 3, it gets 0 on any accepted record of the same size and frame whose free slots reach what it needs, and whose count has room
  -- for it
  module _ (q' : TxQueue) (ok : record_ok q' ≡ true) (same_size : q'.shared.size ≡ q.shared.size) (same-frame : q'.frame ≡ q.frame)
      (room : slots_taken request lengths ≤ free_slots q'.shared) (count_room : ever_posted q'.shared + slots_taken request lengths ≤ most_count) where
    abbrev now_asked : List Check
    now_asked = send_checks q' ring_length tokens_length counts_length addresses lengths request

    all_pass : ((j : ℕ) → j < 5 → (nth its_checks j).cause ≡ false) → (j : ℕ) → (nth now_asked j).cause ≡ false
    all_pass before zero = rw (lent_same q ring_length tokens_length counts_length (not-false _ (before 0 (omega arith))) q' ok same_size)
    all_pass before (suc zero) = rw same-frame (before 1 (omega arith))
    all_pass before (suc (suc zero)) = before 2 (omega arith)
    all_pass before (suc (suc (suc zero))) = rw same-frame (before 3 (omega arith))
    all_pass before (suc (suc (suc (suc zero)))) = before 4 (omega arith)
    all_pass before (suc (suc (suc (suc (suc zero))))) = has_room q'.shared (slots_taken request lengths) room count_room
    all_pass before (suc (suc (suc (suc (suc (suc j)))))) = refl

    pub retry : send_answer q ring_length tokens_length counts_length addresses lengths request ≡ Err NoRoom → send_answer q' ring_length tokens_length counts_length addresses lengths request ≡ done
    unfolding send_answer
    retry e = let a = has_cause its_checks (Err NoRoom) e (λ z. refused_is (Err NoRoom) refl z) in passes now_asked (all_pass (by_last a.0 a.1))
