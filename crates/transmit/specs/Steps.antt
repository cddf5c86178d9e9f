-- What accepted records and slices have shown, as facts on numbers. No contract of a public call cites these.
-- Assumes nothing.
use Rattle.std.specs.Prelude.{ℕ, ◌*◌, ◌≤◌, ◌≡◌}
use Rattle.ring.specs.Queue.{Shared}
use Rattle.transmit.specs.declared.TxQueue.{TxQueue}
use Rattle.transmit.specs.Queue.{least_frame, most_frame}

-- an accepted record
pub record Kept (q : TxQueue) : Type 0 where
  pub shared_is : Shared q.shared
  pub frame_low : least_frame ≤ q.frame
  pub frame_high : q.frame ≤ most_frame

-- and accepted lent slices
pub record Lent (q : TxQueue) (ring_length tokens_length counts_length : ℕ) : Type 0 where
  pub is : Kept q
  pub ring_long : ring_length ≡ 2 * q.shared.size
  pub tokens_long : tokens_length ≡ q.shared.size
  pub counts_long : counts_length ≡ q.shared.size
