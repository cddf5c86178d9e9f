-- Reclaimed slots are used again: a reclaim that is done raises the free slots by its count, and a send that was refused with 3 passes
-- once they reach what it needs, if the count has room.
-- Assumes nothing.
use Rattle.std.proofs.Common.{◌≡◌, ℕ, ◌+◌, ◌-◌, ◌≤◌, List, length, Err, ap, arith}
use Rattle.rules.specs.declared.Refusal.TheVariants.{NoRoom}
use Rattle.rules.specs.Rules.{done}
use Rattle.rules.proofs.Answers.{done-is_ok}
use Rattle.ring.specs.Sizes.{most_count}
use Rattle.ring.specs.Queue.{ever_posted, free_slots}
use Rattle.request.specs.declared.Request.{Request}
use Rattle.done.specs.Marks.{count_at}
use Rattle.transmit.specs.declared.TxQueue.{TxQueue}
use Rattle.transmit.specs.declared.Reclaimed.{Reclaimed}
use Rattle.transmit.specs.Send.{slots_taken, send_answer}
use Rattle.transmit.specs.Reclaim.{reclaim_done, token_at, reclaim_answer, reclaim_of, Freed}
use Rattle.transmit.proofs.Laws.{lent_record, Reclaimable, reclaimable, by_reclaim}
use Rattle.transmit.proofs.Causes.{retry}
use Rattle.transmit.proofs.Keeps.{reclaim_keeps}

module _ (q : TxQueue) (ring tokens counts : List ℕ) (given_back : (reclaim_of q ring tokens counts).answer ≡ done) where
  passes : reclaim_answer q ring tokens counts ≡ done
  passes = by_reclaim q ring tokens counts (λ (r : Reclaimed). r.answer ≡ done → reclaim_answer q ring tokens counts ≡ done) (λ z d. z) (λ d. d) given_back

  facts : Reclaimable q ring tokens counts
  facts = reclaimable q ring tokens counts passes

  is_done : reclaim_of q ring tokens counts ≡ reclaim_done q (token_at q tokens) (count_at q.shared counts)
  unfolding reclaim_of
  is_done = rw (done-is_ok (reclaim_answer q ring tokens counts) passes)

  pub reclaim_frees : Freed q (reclaim_of q ring tokens counts)
  reclaim_frees =
      let count : (reclaim_of q ring tokens counts).count ≡ count_at q.shared counts = ap (λ (r : Reclaimed). r.count) is_done in
      let free : free_slots (reclaim_of q ring tokens counts).queue.shared ≡ q.shared.size - 1 - (q.shared.posted - count_at q.shared counts) = ap (λ (r : Reclaimed). free_slots r.queue.shared) is_done in
      record {
        accepted = reclaim_keeps q (lent_record q (length ring) (length tokens) (length counts) facts.lent_is_ok) ring tokens counts;
        size_same = ap (λ (r : Reclaimed). r.queue.shared.size) is_done;
        frame_same = ap (λ (r : Reclaimed). r.queue.frame) is_done;
        some = omega (arith, facts.count_is.some);
        more = omega (arith, facts.count_is.most, facts.lent_is.is.shared_is);
        posted_same = ap (λ (r : Reclaimed). ever_posted r.queue.shared) is_done;
      }

  -- tried again on the record that the reclaim gave back, with slices of any lengths
  pub used_again : (ring_length tokens_length counts_length : ℕ) (addresses lengths : List ℕ) (request : Request)
      → send_answer q ring_length tokens_length counts_length addresses lengths request ≡ Err NoRoom
      → slots_taken request lengths ≤ free_slots q.shared + (reclaim_of q ring tokens counts).count
      → ever_posted q.shared + slots_taken request lengths ≤ most_count
      → send_answer (reclaim_of q ring tokens counts).queue ring_length tokens_length counts_length addresses lengths request ≡ done
  used_again ring_length tokens_length counts_length addresses lengths request refused enough count_room =
      let f = reclaim_frees in
      retry q ring_length tokens_length counts_length addresses lengths request (reclaim_of q ring tokens counts).queue f.accepted f.size_same f.frame_same (omega (arith, f.more)) (rw f.posted_same count_room) refused
