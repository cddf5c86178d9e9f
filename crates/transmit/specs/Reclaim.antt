-- Reclaim (01, "Sending"): its checks in their order, and what it returns.
-- Assumes nothing.
use Rattle.std.specs.Prelude.{ℕ, ◌+◌, ◌≤◌, ◌≡◌, true, not, cond, List, ◌∷◌, length, get_or, is_ok}
use Rattle.rules.specs.Rules.{Answer, done, Check, ◌when◌, answer_of}
use Rattle.ring.specs.Queue.{ever_posted, free_slots, advanced}
use Rattle.done.specs.Marks.{count_at, done_checks}
use Rattle.transmit.specs.declared.TxQueue.{TxQueue}
use Rattle.transmit.specs.declared.Reclaimed.{Reclaimed}
use Rattle.transmit.specs.Queue.{record_ok, lent_ok, moved_to}

-- the token at head
abbrev pub token_at : TxQueue → List ℕ → ℕ
token_at q tokens = get_or tokens q.shared.head 0

-- done: token and count come back, head moves on, and so many slots more are handed back
abbrev pub reclaim_done : TxQueue → ℕ → ℕ → Reclaimed
reclaim_done q token count = record { answer = done; queue = moved_to q (advanced q.shared count); token = token; count = count }

-- refused: the record as it came, and zeros
abbrev pub reclaim_refused : TxQueue → Answer → Reclaimed
reclaim_refused q n = record { answer = n; queue = q; token = 0; count = 0 }

module _ (q : TxQueue) (ring tokens counts : List ℕ) where
  -- 1 the record or a slice is wrong; then 4, 5 or 4 by the packet at head
  abbrev pub reclaim_checks : List Check
  reclaim_checks = (1 when not (lent_ok q (length ring) (length tokens) (length counts))) ∷ done_checks q.shared ring counts

  unfoldable pub reclaim_answer : Answer
  reclaim_answer = answer_of reclaim_checks

  -- all that reclaim returns; it borrows the lent memory and writes none of it
  unfoldable pub reclaim_of : Reclaimed
  reclaim_of = cond (is_ok reclaim_answer) (reclaim_done q (token_at q tokens) (count_at q.shared counts)) (reclaim_refused q reclaim_answer)

-- reclaimed slots can be used again: an accepted record of the same queue, with as many free slots more as came back, and as many slots ever posted
pub record Freed (q : TxQueue) (r : Reclaimed) : Type 0 where
  pub accepted : record_ok r.queue ≡ true
  pub size_same : r.queue.shared.size ≡ q.shared.size
  pub frame_same : r.queue.frame ≡ q.frame
  pub some : 1 ≤ r.count
  pub more : free_slots r.queue.shared ≡ free_slots q.shared + r.count
  pub posted_same : ever_posted r.queue.shared ≡ ever_posted q.shared
