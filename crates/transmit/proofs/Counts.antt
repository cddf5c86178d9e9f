-- What the calls make of the counts. A send adds its slots to those ever posted, and a reclaim its count to those ever handed back; a refused
-- call adds none, since it tells of none.
-- Assumes nothing.
use Rattle.std.proofs.Common.{ℕ, List}
use Rattle.ring.specs.Counts.{Moved}
use Rattle.ring.proofs.Counts.{stay, by_grown, by_advanced}
use Rattle.request.specs.declared.Request.{Request}
use Rattle.transmit.specs.declared.TxQueue.{TxQueue}
use Rattle.transmit.specs.declared.Sent.{Sent}
use Rattle.transmit.specs.declared.Reclaimed.{Reclaimed}
use Rattle.transmit.specs.Send.{send_of}
use Rattle.transmit.specs.Reclaim.{reclaim_of}
use Rattle.transmit.proofs.Laws.{by_send, by_reclaim}

module _ (q : TxQueue) (ring tokens counts : List ℕ) where
  pub send_moves : (addresses lengths : List ℕ) (request : Request)
      → Moved q.shared (send_of q ring tokens counts addresses lengths request).queue.shared (send_of q ring tokens counts addresses lengths request).slots 0
  send_moves addresses lengths request =
      by_send q ring tokens counts addresses lengths request (λ (s : Sent). Moved q.shared s.queue.shared s.slots 0)
      (λ z. by_grown q.shared _)
      (stay q.shared)

  pub reclaim_moves : Moved q.shared (reclaim_of q ring tokens counts).queue.shared 0 (reclaim_of q ring tokens counts).count
  reclaim_moves =
      by_reclaim q ring tokens counts (λ (r : Reclaimed). Moved q.shared r.queue.shared 0 r.count)
      (λ z. by_advanced q.shared _)
      (stay q.shared)
