-- What an accepted record, accepted lent slices, an accepted send and an accepted reclaim are, as facts.
-- Assumes nothing.
use Rattle.std.proofs.Common.{◌≡◌, ℕ, ◌*◌, ◌^◌, ◌<◌, Bool, true, false, not, ◌&&◌, List, [], ◌∷◌, eqb, length, is_ok, IfOk, sym, ap, ◌∙◌, eqb-true}
use borrow.Author.Tests.{not-false}
use Rattle.rules.specs.Rules.{Answer, done, ◌when◌, answer_of}
use Rattle.rules.proofs.Answers.{done_is}
use Rattle.rules.proofs.Tests.{both, within_is}
use Rattle.rules.proofs.Checks.{by_answer, passed, first_pass}
use Rattle.ring.specs.Sizes.{tail_bits}
use Rattle.ring.specs.Queue.{shared_ok, no_room}
use Rattle.ring.specs.Steps.{Grow}
use Rattle.ring.proofs.Record.{shared, tail_fits, asked_below}
use Rattle.ring.proofs.Counts.{grows}
use Rattle.request.specs.declared.Request.{Request}
use Rattle.packet.specs.Packet.{packet_checks}
use Rattle.packet.specs.Accepted.{Accepted}
use Rattle.packet.proofs.Accepted.{accepted}
use Rattle.done.specs.Marks.{count_at}
use Rattle.done.proofs.Laws.{Counted, counted}
use Rattle.transmit.specs.declared.TxQueue.{TxQueue}
use Rattle.transmit.specs.declared.Sent.{Sent}
use Rattle.transmit.specs.declared.Reclaimed.{Reclaimed}
use Rattle.transmit.specs.Queue.{least_frame, most_frame, frame_ok, record_ok, lent_ok, tail_value_of}
use Rattle.transmit.specs.Steps.{Kept, Lent}
use Rattle.transmit.specs.Send.{slots_taken, send_checks, send_answer, send_done, send_refused, answer_to, send_of}
use Rattle.transmit.specs.Reclaim.{token_at, reclaim_done, reclaim_refused, reclaim_checks, reclaim_answer, reclaim_of}

-- the two parts of the test
pub lines : (q : TxQueue) → record_ok q ≡ true → (shared_ok q.shared ≡ true) × (frame_ok q.frame ≡ true)
unfolding record_ok
lines q e = both (shared_ok q.shared) (frame_ok q.frame) e

pub kept : (q : TxQueue) → record_ok q ≡ true → Kept q
kept q e =
    let l = lines q e in
    let f = within_is least_frame most_frame q.frame l.1 in
    record { shared_is = shared q.shared l.0; frame_low = f.0; frame_high = f.1 }

-- the tail value fits its field
pub tail_value_fits : (q : TxQueue) → IfOk (tail_value_of q) (λ v. v < 2 ^ tail_bits)
tail_value_fits q = asked_below (record_ok q) _ _ (λ e. tail_fits q.shared (kept q e).shared_is)

module _ (q : TxQueue) (ring_length tokens_length counts_length : ℕ) (e : lent_ok q ring_length tokens_length counts_length ≡ true) where
  apart : (record_ok q ≡ true) × (eqb ring_length (2 * q.shared.size) && (eqb tokens_length q.shared.size && eqb counts_length q.shared.size) ≡ true)
  unfolding lent_ok
  apart = both (record_ok q) (eqb ring_length (2 * q.shared.size) && (eqb tokens_length q.shared.size && eqb counts_length q.shared.size)) e

  pub lent_record : record_ok q ≡ true
  lent_record = apart.0

  pub lent : Lent q ring_length tokens_length counts_length
  lent =
      let r = both (eqb ring_length (2 * q.shared.size)) (eqb tokens_length q.shared.size && eqb counts_length q.shared.size) apart.1 in
      let l = both (eqb tokens_length q.shared.size) (eqb counts_length q.shared.size) r.1 in
      record { is = kept q apart.0; ring_long = eqb-true _ _ r.0; tokens_long = eqb-true _ _ l.0; counts_long = eqb-true _ _ l.1 }

  -- slices of a size's lengths are right for every accepted record of that size
  pub lent_same : (q' : TxQueue) → record_ok q' ≡ true → q'.shared.size ≡ q.shared.size → lent_ok q' ring_length tokens_length counts_length ≡ true
  unfolding lent_ok
  lent_same q' ok s = rw (ok, s) apart.1

-- ---- send

module _ (q : TxQueue) (ring_length tokens_length counts_length : ℕ) (addresses lengths : List ℕ) (request : Request) where
  pub record Sendable : Type 0 where
    pub lent_is_ok : lent_ok q ring_length tokens_length counts_length ≡ true
    pub lent_is : Lent q ring_length tokens_length counts_length
    pub own : Accepted addresses lengths q.frame request
    pub grow : Grow q.shared (slots_taken request lengths)

  pub sendable : send_answer q ring_length tokens_length counts_length addresses lengths request ≡ done → Sendable
  unfolding send_answer
  sendable e =
      let p = passed (send_checks q ring_length tokens_length counts_length addresses lengths request) tt e in
      let l : lent_ok q ring_length tokens_length counts_length ≡ true = not-false _ (p 0) in
      let own : answer_of (packet_checks addresses lengths q.frame request) ≡ done = first_pass (packet_checks addresses lengths q.frame request) (3 when no_room q.shared (slots_taken request lengths) ∷ []) tt (rw l at e) in
      let lent_is = lent q ring_length tokens_length counts_length l in
      record { lent_is_ok = l; lent_is = lent_is; own = accepted addresses lengths q.frame request own; grow = grows q.shared (slots_taken request lengths) lent_is.is.shared_is (p 5) }

  -- of an answer that no test calls a refusal
  pub sendable_by : {a : Answer} {refused : Bool} → a ≡ send_answer q ring_length tokens_length counts_length addresses lengths request → is_ok a ≡ not refused → refused ≡ false → Sendable
  sendable_by {a} e n f = sendable (sym e ∙ done_is a (n ∙ ap not f))

module _ (q : TxQueue) (ring tokens counts addresses lengths : List ℕ) (request : Request) where
  -- what holds of a send that is done and of one that is refused holds of what it gives back
  pub by_send : (P : Sent → Type 0) → (answer_to q ring tokens counts addresses lengths request ≡ done → P (send_done q (slots_taken request lengths)))
      → P (send_refused q (answer_to q ring tokens counts addresses lengths request)) → P (send_of q ring tokens counts addresses lengths request)
  by_send P kept refused = by_answer P (answer_to q ring tokens counts addresses lengths request) _ _ kept refused

-- ---- reclaim

module _ (q : TxQueue) (ring tokens counts : List ℕ) where
  pub record Reclaimable : Type 0 where
    pub lent_is_ok : lent_ok q (length ring) (length tokens) (length counts) ≡ true
    pub lent_is : Lent q (length ring) (length tokens) (length counts)
    pub count_is : Counted q.shared counts

  pub reclaimable : reclaim_answer q ring tokens counts ≡ done → Reclaimable
  unfolding reclaim_answer
  reclaimable e =
      let p = passed (reclaim_checks q ring tokens counts) tt e in
      record { lent_is_ok = not-false _ (p 0); lent_is = lent q _ _ _ (not-false _ (p 0)); count_is = counted q.shared counts (p 2) }

  pub reclaimable_by : {a : Answer} {refused : Bool} → a ≡ reclaim_answer q ring tokens counts → is_ok a ≡ not refused → refused ≡ false → Reclaimable
  reclaimable_by {a} e n f = reclaimable (sym e ∙ done_is a (n ∙ ap not f))

  pub by_reclaim : (P : Reclaimed → Type 0) → (reclaim_answer q ring tokens counts ≡ done → P (reclaim_done q (token_at q tokens) (count_at q.shared counts)))
      → P (reclaim_refused q (reclaim_answer q ring tokens counts)) → P (reclaim_of q ring tokens counts)
  unfolding reclaim_of
  by_reclaim P kept refused = by_answer P (reclaim_answer q ring tokens counts) _ _ kept refused
