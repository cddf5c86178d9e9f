-- What the calls make of the counts. An accepted post adds its slot to those ever posted; a take adds the slots of its packet to those ever
-- handed back, and a burst those of its takes; a refused call adds none, since its packet has no slots.
-- Assumes nothing.
use Rattle.std.proofs.Common.{is_ok, ℕ, Bool, true, false, cond, List}
use Rattle.ring.specs.Counts.{Moved}
use Rattle.ring.proofs.Counts.{stay, by_grown, by_advanced, moved_both}
use Rattle.scan.specs.Scan.{Look, refuse, whole}
use Rattle.scan.specs.Told.{sum}
use Rattle.receive.specs.declared.RxQueue.{RxQueue}
use Rattle.receive.specs.Post.{one_more, answer_to, post_of}
use Rattle.receive.specs.Take.{look, packet_of, take_by, take_of}
use Rattle.receive.specs.Burst.{carried, handed_back, made, burst_of}
use Rattle.receive.proofs.Turns.{by_takes}
use Rattle.receive.proofs.Bursts.{of_made}

module _ (q : RxQueue) (ring list : List ℕ) where
  pub post_moves : (address : ℕ) → Moved q.shared (post_of q ring list address).queue.shared (cond (is_ok (post_of q ring list address).answer) 1 0) 0
  post_moves address = go (is_ok (answer_to q ring list address))
    where
      go : (b : Bool) → Moved q.shared (cond b (one_more q) q).shared (cond b 1 0) 0
      go true = by_grown q.shared 1
      go false = stay q.shared

  pub take_moves : Moved q.shared (take_of q ring list).queue.shared 0 (take_of q ring list).packet.count
  unfolding take_of take_by packet_of
  take_moves = go (look q ring list)
    where
      go : (l : Look) → Moved q.shared (take_by l q).queue.shared 0 (take_by l q).packet.count
      go (refuse n) = stay q.shared
      go (whole p) = by_advanced q.shared _

module _ (q : RxQueue) (ring list out : List ℕ) (limit : ℕ) where
  pub burst_moves : Moved q.shared (burst_of q ring list out limit).queue.shared 0 (handed_back (made q ring list out limit))
  unfolding burst_of carried sum
  burst_moves =
      of_made q ring list out limit (λ ms. Moved q.shared (carried q ms).shared 0 (handed_back ms))
      (stay q.shared)
      (by_takes ring list (λ n q ms. Moved q.shared (carried q ms).shared 0 (handed_back ms))
      (λ q. stay q.shared)
      (λ n q ms z r. moved_both (take_moves q ring list) r)
      (λ n q ne. moved_both (take_moves q ring list) (stay _))
      limit q)
