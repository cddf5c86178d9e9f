-- A packet from its send to its reclaim: once it is at head and its last slot is marked, reclaim gives the token and the count that its
-- send stored.
-- Assumes nothing.
use Rattle.std.proofs.Common.{◌≡◌, ℕ, zero, suc, ◌+◌, ◌-◌, ◌%◌, ◌≤◌, ◌<◌, true, false, List, length, get_or, refl, sym, ap, ◌∙◌, mod-eq_of_lt, arith, ne_eqb, le-ltb, get_or-set_same}
use Rattle.rules.proofs.Answers.{done-is_ok}
use Rattle.rules.specs.Rules.{done, nth}
use Rattle.rules.proofs.Checks.{passes}
use Rattle.ring.specs.Queue.{ever_posted, ever_returned, slot_of, tail_of, grown}
use Rattle.ring.proofs.Record.{tail_below}
use Rattle.request.specs.declared.Request.{Request}
use Rattle.request.proofs.Slots.{slots_are}
use Rattle.done.specs.Marks.{is_marked, count_at}
use Rattle.transmit.specs.declared.TxQueue.{TxQueue}
use Rattle.transmit.specs.Queue.{lent_ok, moved_to}
use Rattle.transmit.specs.Send.{slots_taken, answer_to, send_of, tokens_after, counts_after}
use Rattle.transmit.specs.Reclaim.{reclaim_done, token_at, reclaim_checks, reclaim_answer, reclaim_of}
use Rattle.transmit.proofs.Laws.{Sendable, sendable}
use Rattle.transmit.proofs.Keeps.{ring_long, send_lends}

-- a marked packet at head, its count right, is reclaimed
module _ (q : TxQueue) (ring tokens counts : List ℕ) where
  pub reclaims : (count token : ℕ) → count_at q.shared counts ≡ count → token_at q tokens ≡ token
      → lent_ok q (length ring) (length tokens) (length counts) ≡ true → 1 ≤ count → count ≤ q.shared.posted → is_marked ring (slot_of q.shared (count - 1)) ≡ true
      → reclaim_of q ring tokens counts ≡ reclaim_done q token count
  unfolding reclaim_of reclaim_answer
  reclaims count token c t l some most m =
      rw (done-is_ok (reclaim_answer q ring tokens counts) (passes (reclaim_checks q ring tokens counts) all_pass), c, t)
    where
      all_pass : (i : ℕ) → (nth (reclaim_checks q ring tokens counts) i).cause ≡ false
      all_pass zero = rw l
      all_pass (suc zero) = ne_eqb q.shared.posted 0 (λ z. omega arith)
      all_pass (suc (suc zero)) = rw (c, ne_eqb count 0 (λ z. omega arith), le-ltb q.shared.posted count most)
      all_pass (suc (suc (suc zero))) = rw (c, m)
      all_pass (suc (suc (suc (suc i)))) = refl

module _ (q : TxQueue) (ring tokens counts addresses lengths : List ℕ) (request : Request)
    (accepted : answer_to q ring tokens counts addresses lengths request ≡ done) where
  facts : Sendable q (length ring) (length tokens) (length counts) addresses lengths request
  facts = sendable q (length ring) (length tokens) (length counts) addresses lengths request accepted

  tail_is_slot : tail_of q.shared < q.shared.size
  tail_is_slot = tail_below q.shared facts.lent_is.is.shared_is

  -- an accepted send stores its token and its slot count at the packet's first slot, the old tail
  pub token_stored : (token : ℕ) → get_or (tokens_after q ring tokens counts addresses lengths request token) (tail_of q.shared) 0 ≡ token
  token_stored token =
      rw (done-is_ok (answer_to q ring tokens counts addresses lengths request) accepted)
      (get_or-set_same tokens (tail_of q.shared) token 0 (omega (arith, tail_is_slot, facts.lent_is.tokens_long)))

  pub count_stored : get_or (counts_after q ring tokens counts addresses lengths request) (tail_of q.shared) 0 ≡ slots_taken request lengths
  count_stored =
      rw (done-is_ok (answer_to q ring tokens counts addresses lengths request) accepted)
      (get_or-set_same counts (tail_of q.shared) (slots_taken request lengths) 0 (omega (arith, tail_is_slot, facts.lent_is.counts_long)))

  -- a later record whose head is the packet's first slot, and lent lists that still have what the send stored there
  pub sent_reclaimed : (token : ℕ) (q' : TxQueue) (ring' tokens' counts' : List ℕ) → lent_ok q' (length ring') (length tokens') (length counts') ≡ true
      → q'.shared.head ≡ tail_of q.shared → slots_taken request lengths ≤ q'.shared.posted
      → get_or tokens' (tail_of q.shared) 0 ≡ get_or (tokens_after q ring tokens counts addresses lengths request token) (tail_of q.shared) 0
      → get_or counts' (tail_of q.shared) 0 ≡ get_or (counts_after q ring tokens counts addresses lengths request) (tail_of q.shared) 0
      → is_marked ring' (slot_of q'.shared (slots_taken request lengths - 1)) ≡ true
      → reclaim_of q' ring' tokens' counts' ≡ reclaim_done q' token (slots_taken request lengths)
  sent_reclaimed token q' ring' tokens' counts' l h p t c m =
      reclaims q' ring' tokens' counts' (slots_taken request lengths) token
      (ap (λ (s : ℕ). get_or counts' s 0) h ∙ c ∙ count_stored)
      (ap (λ (s : ℕ). get_or tokens' s 0) h ∙ t ∙ token_stored token)
      l (omega (arith, facts.own.some, slots_are request (length lengths))) p m

  -- of a queue that was empty, and any ring so long in which the device has marked the packet's last slot
  pub first_reclaimed : (token : ℕ) → q.shared.posted ≡ 0 → (ring' : List ℕ) → length ring' ≡ length ring → is_marked ring' (slot_of q.shared (slots_taken request lengths - 1)) ≡ true
      → reclaim_of (moved_to q (grown q.shared (slots_taken request lengths))) ring' (tokens_after q ring tokens counts addresses lengths request token) (counts_after q ring tokens counts addresses lengths request)
      ≡ record {
        answer = done;
        queue = moved_to q (record {
          queue = q.shared.queue;
          size = q.shared.size;
          head = slot_of q.shared (slots_taken request lengths);
          posted = 0;
          ever_posted = ever_posted q.shared + slots_taken request lengths;
          ever_returned = ever_returned q.shared + slots_taken request lengths;
        });
        token = token;
        count = slots_taken request lengths;
      }
  first_reclaimed token z ring' e m =
      let at_head : q.shared.head ≡ tail_of q.shared = sym (ap (λ (k : ℕ). k % q.shared.size) (omega arith) ∙ mod-eq_of_lt facts.lent_is.is.shared_is.head_below) in
      let none : q.shared.posted + slots_taken request lengths - slots_taken request lengths ≡ 0 = omega arith in
      sent_reclaimed token (moved_to q (grown q.shared (slots_taken request lengths))) ring' _ _ lent_on at_head (omega arith) refl refl m ∙ rw none
    where
      sent_queue : (send_of q ring tokens counts addresses lengths request).queue ≡ moved_to q (grown q.shared (slots_taken request lengths))
      sent_queue = rw (done-is_ok (answer_to q ring tokens counts addresses lengths request) accepted)

      lent_on : lent_ok (moved_to q (grown q.shared (slots_taken request lengths))) (length ring') (length (tokens_after q ring tokens counts addresses lengths request token)) (length (counts_after q ring tokens counts addresses lengths request)) ≡ true
      lent_on = rw (← sent_queue, e ∙ sym (ring_long q ring tokens counts addresses lengths request)) (send_lends q ring tokens counts addresses lengths request facts.lent_is_ok token)
