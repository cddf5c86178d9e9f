-- A record given back by any call on an accepted record is accepted again, and so is a fresh one.
-- Assumes nothing.
use Rattle.rules.specs.Rules.{done}
use Rattle.std.proofs.Common.{ℕ, ◌≤◌, ◌≡◌, refl, true, List, length}
use Rattle.rules.proofs.Tests.{both}
use Rattle.rules.proofs.Checks.{by_answer}
use Rattle.ring.specs.Queue.{shared_ok}
use Rattle.ring.specs.Steps.{Grow}
use Rattle.ring.proofs.Record.{advanced_keeps, grown_keeps}
use Rattle.scan.specs.Scan.{Look, refuse, whole}
use Rattle.receive.specs.declared.RxQueue.{RxQueue}
use Rattle.receive.specs.Queue.{buffer_ok, record_ok, fresh_of}
use Rattle.receive.specs.Post.{one_more, answer_to, post_of}
use Rattle.receive.specs.Take.{look, advanced, take_by, take_of}
use Rattle.receive.proofs.Laws.{fresh_lines, fresh_queue, done_grows}
use Rattle.receive.proofs.Takes.{look_posted}

pub fresh_keeps : (queue size buffer : ℕ) → (fresh_of queue size buffer).answer ≡ done → record_ok (fresh_of queue size buffer).queue ≡ true
fresh_keeps queue size buffer z = let n = fresh_lines queue size buffer z in rw (fresh_queue queue size buffer n) n

module _ (q : RxQueue) (ok : record_ok q ≡ true) where
  lines : (shared_ok q.shared ≡ true) × (buffer_ok q.buffer ≡ true)
  unfolding record_ok
  lines = both (shared_ok q.shared) (buffer_ok q.buffer) ok

  pub one_more_ok : Grow q.shared 1 → record_ok (one_more q) ≡ true
  unfolding record_ok
  one_more_ok g = rw (grown_keeps q.shared lines.0 1 g.room, lines.1)

  pub advanced_ok : (n : ℕ) → n ≤ q.shared.posted → record_ok (advanced q n) ≡ true
  unfolding record_ok
  advanced_ok n p = rw (advanced_keeps q.shared lines.0 n p, lines.1)

  pub post_keeps_lem : (ring list : List ℕ) (address : ℕ) → record_ok (post_of q ring list address).queue ≡ true
  post_keeps_lem ring list address =
      by_answer (λ (r : RxQueue). record_ok r ≡ true) (answer_to q ring list address) (one_more q) q
      (λ z. one_more_ok (done_grows q (length ring) (length list) address z))
      ok

  pub take_keeps : (ring list : List ℕ) → record_ok (take_of q ring list).queue ≡ true
  unfolding take_of take_by
  take_keeps ring list = go (look q ring list) refl
    where
      go : (l : Look) → look q ring list ≡ l → record_ok (take_by l q).queue ≡ true
      go (refuse n) e = ok
      go (whole p) e = advanced_ok (length p) (look_posted q ring list p e)
