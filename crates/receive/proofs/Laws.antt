-- What an accepted record and accepted lent slices keep, as facts; and what an accepted post does.
-- Assumes nothing.
use Rattle.std.proofs.Common.{IfOk, ℕ, ◌*◌, ◌^◌, ◌≤◌, ◌<◌, ◌≡◌, sym, ◌∙◌, true, not, ◌&&◌, [], ◌∷◌, eqb-true, eqb}
use borrow.Author.Tests.{not-false}
use Rattle.rules.specs.Rules.{◌when◌, done}
use Rattle.rules.proofs.Tests.{both, steps_is}
use Rattle.rules.proofs.Checks.{passed}
use Rattle.ring.specs.Sizes.{tail_bits}
use Rattle.ring.specs.Queue.{Shared, shared_ok}
use Rattle.ring.specs.Steps.{Lent, Grow}
use Rattle.ring.proofs.Record.{shared, tail_fits, asked_below}
use Rattle.ring.proofs.Counts.{grows}
use Rattle.receive.specs.declared.RxQueue.{RxQueue}
use Rattle.receive.specs.Queue.{least_buffer, most_buffer, buffer_step, buffer_ok, record_ok, lent_ok, empty_queue, fresh_of, tail_value_of}
use Rattle.receive.specs.Post.{post_checks, post_answer}
use Rattle.receive.proofs.Causes.{fresh_answer}

-- a fresh queue that is given is accepted and empty
pub fresh_lines : (queue size buffer : ℕ) → (fresh_of queue size buffer).answer ≡ done → record_ok (empty_queue queue size buffer) ≡ true
fresh_lines queue size buffer e = not-false _ (passed (1 when not (record_ok (empty_queue queue size buffer)) ∷ []) tt (sym (fresh_answer queue size buffer) ∙ e) 0)

pub fresh_queue : (queue size buffer : ℕ) → record_ok (empty_queue queue size buffer) ≡ true → (fresh_of queue size buffer).queue ≡ empty_queue queue size buffer
unfolding fresh_of
fresh_queue queue size buffer e = rw e

-- the two parts of the test
lines : (q : RxQueue) → record_ok q ≡ true → (shared_ok q.shared ≡ true) × (buffer_ok q.buffer ≡ true)
unfolding record_ok
lines q e = both (shared_ok q.shared) (buffer_ok q.buffer) e

pub kept : (q : RxQueue) → record_ok q ≡ true → Shared q.shared
kept q e = shared q.shared (lines q e).0

-- the tail value fits its field of 13 bits
pub tail_value_fits : (q : RxQueue) → IfOk (tail_value_of q) (λ v. v < 2 ^ tail_bits)
tail_value_fits q = asked_below (record_ok q) _ _ (λ e. tail_fits q.shared (kept q e))

module _ (q : RxQueue) (ring_length list_length : ℕ) (e : lent_ok q ring_length list_length ≡ true) where
  -- the record, and the lengths
  pub apart : (record_ok q ≡ true) × (eqb ring_length (2 * q.shared.size) && eqb list_length q.shared.size ≡ true)
  unfolding lent_ok
  apart = both (record_ok q) (eqb ring_length (2 * q.shared.size) && eqb list_length q.shared.size) e

  pub lent : Lent q.shared ring_length list_length
  lent =
      let l = both (eqb ring_length (2 * q.shared.size)) (eqb list_length q.shared.size) apart.1 in
      record { reads = record { is = kept q apart.0; ring_long = eqb-true _ _ l.0 }; list_long = eqb-true _ _ l.1 }

  pub lent_buffer : least_buffer ≤ q.buffer
  lent_buffer = (steps_is least_buffer most_buffer buffer_step q.buffer (lines q apart.0).1).least

-- an accepted post was lent what the size asks, and had room
pub done_lent : (q : RxQueue) (ring_length list_length address : ℕ) → post_answer q ring_length list_length address ≡ done → Lent q.shared ring_length list_length
unfolding post_answer
done_lent q ring_length list_length address e = lent q ring_length list_length (not-false _ (passed (post_checks q ring_length list_length address) tt e 0))

pub done_grows : (q : RxQueue) (ring_length list_length address : ℕ) → post_answer q ring_length list_length address ≡ done → Grow q.shared 1
unfolding post_answer
done_grows q ring_length list_length address e =
    grows q.shared 1 (done_lent q ring_length list_length address e).reads.is (passed (post_checks q ring_length list_length address) tt e 2)
