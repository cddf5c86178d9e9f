-- What the calls leave: the record given back is accepted again, a refused call changes nothing, and a send leaves every slot but
-- those that it takes as it was, the device's among them.
-- Assumes nothing.
use Rattle.std.proofs.Common.{◌≡◌, ◌≢◌, ◌⊎◌, ℕ, ◌+◌, ◌≤◌, ◌<◌, Bool, true, false, cond, List, length, set, Err, is_ok, refl, ◌∙◌, inl, ⊎_elim, arith, length-set, get_or-set_other}
use Rattle.rules.specs.declared.Refusal.TheVariants.{WrongRecord}
use Rattle.rules.specs.Rules.{Answer, done}
use Rattle.rules.proofs.Answers.{done_is, refused_is, refused-is_ok}
use Rattle.ring.specs.declared.Queue.{Queue}
use Rattle.slots.specs.Slots.{slot_at}
use Rattle.ring.specs.Queue.{shared_ok, slot_of, tail_of, advanced, grown}
use Rattle.slots.specs.Memory.{store_run}
use Rattle.slots.proofs.Steps.{apart, slot_on}
use Rattle.ring.proofs.Record.{advanced_keeps, grown_keeps}
use Rattle.slots.proofs.Rows.{row_length, row_other}
use Rattle.request.specs.declared.Request.{Request}
use Rattle.request.proofs.Slots.{slots_are}
use Rattle.fill.specs.Descriptors.{descriptor}
use Rattle.fill.proofs.Places.{two_words}
use Rattle.done.specs.Marks.{count_at}
use Rattle.transmit.specs.declared.TxQueue.{TxQueue}
use Rattle.transmit.specs.declared.Fresh.{Fresh}
use Rattle.transmit.specs.declared.Sent.{Sent}
use Rattle.transmit.specs.declared.Reclaimed.{Reclaimed}
use Rattle.transmit.specs.Queue.{record_ok, lent_ok, moved_to, empty_queue, fresh_of}
use Rattle.transmit.specs.Send.{slots_taken, answer_to, send_of, ring_after, tokens_after, counts_after, Unchanged, Stays}
use Rattle.transmit.specs.Reclaim.{reclaim_refused, reclaim_answer, reclaim_of}
use Rattle.transmit.proofs.Laws.{lines, kept, lent_record, lent_same, sendable, by_send, reclaimable, by_reclaim}

-- ---- accepted again

pub fresh_keeps : (queue size frame : ℕ) → (fresh_of queue size frame).answer ≡ done → record_ok (fresh_of queue size frame).queue ≡ true
unfolding fresh_of
fresh_keeps queue size frame z = go (record_ok (empty_queue queue size frame)) refl z
  where
    given : Bool → Fresh
    given b = cond b (record { answer = done; queue = empty_queue queue size frame }) (record { answer = Err WrongRecord; queue = empty_queue 0 0 0 })

    go : (b : Bool) → record_ok (empty_queue queue size frame) ≡ b → (given b).answer ≡ done → record_ok (given b).queue ≡ true
    go true e a = e
    go false e a = absurd (refused_is (Err WrongRecord) refl a)

module _ (q : TxQueue) (ok : record_ok q ≡ true) where
  -- with another shared part that keeps the shared lines
  moved : (s : Queue) → shared_ok s ≡ true → record_ok (moved_to q s) ≡ true
  unfolding record_ok
  moved s h = rw h (lines q ok).1

  pub send_keeps : (ring tokens counts addresses lengths : List ℕ) (request : Request)
      → record_ok (send_of q ring tokens counts addresses lengths request).queue ≡ true
  send_keeps ring tokens counts addresses lengths request =
      by_send q ring tokens counts addresses lengths request (λ (s : Sent). record_ok s.queue ≡ true)
      (λ z. let s = sendable q (length ring) (length tokens) (length counts) addresses lengths request z in
      moved (grown q.shared (slots_taken request lengths)) (grown_keeps q.shared (lines q ok).0 (slots_taken request lengths) s.grow.room))
      ok

  pub reclaim_keeps : (ring tokens counts : List ℕ) → record_ok (reclaim_of q ring tokens counts).queue ≡ true
  reclaim_keeps ring tokens counts =
      by_reclaim q ring tokens counts (λ (r : Reclaimed). record_ok r.queue ≡ true)
      (λ z. let c = (reclaimable q ring tokens counts z).count_is in
      moved (advanced q.shared (count_at q.shared counts)) (advanced_keeps q.shared (lines q ok).0 (count_at q.shared counts) c.most))
      ok

either_long : (b : Bool) (xs ys : List ℕ) → length xs ≡ length ys → length (cond b xs ys) ≡ length ys
either_long true xs ys e = e
either_long false xs ys e = refl

-- ---- a refused call

pub reclaim_refused_lem : (q : TxQueue) (ring tokens counts : List ℕ) → reclaim_answer q ring tokens counts ≢ done
    → reclaim_of q ring tokens counts ≡ reclaim_refused q (reclaim_answer q ring tokens counts)
unfolding reclaim_of
reclaim_refused_lem q ring tokens counts ne = rw (refused-is_ok (reclaim_answer q ring tokens counts) ne)

module _ (q : TxQueue) (ring tokens counts addresses lengths : List ℕ) (request : Request) where
  pub send_refused_lem : answer_to q ring tokens counts addresses lengths request ≢ done → (token : ℕ) → Unchanged q ring tokens counts addresses lengths request token
  send_refused_lem ne token =
      let e = refused-is_ok (answer_to q ring tokens counts addresses lengths request) ne in
      record { result_is = rw e; ring_same = rw e; tokens_same = rw e; counts_same = rw e }

  -- ---- the slots that a send does not take

  pub others_stay : (token k : ℕ) → k < q.shared.size → (k < q.shared.posted) ⊎ (q.shared.posted + slots_taken request lengths ≤ k) → Stays q ring tokens counts addresses lengths request token k
  others_stay token k l out = go (is_ok answer) refl
    where
      answer : Answer
      answer = answer_to q ring tokens counts addresses lengths request

      go : (b : Bool) → is_ok answer ≡ b → Stays q ring tokens counts addresses lengths request token k
      go true e =
          let s = sendable q (length ring) (length tokens) (length counts) addresses lengths request (done_is answer e) in
          let free : (j : ℕ) → j < slots_taken request lengths → slot_of q.shared k ≢ slot_at (tail_of q.shared) q.shared.size j = λ j h e.
          apart q.shared.head q.shared.size k (q.shared.posted + j) l (omega (arith, s.grow.room)) (λ d. ⊎_elim (λ a. omega arith) (λ a. omega arith) out)
          (e ∙ slot_on q.shared.head q.shared.size q.shared.posted j) in
          let tail : slot_of q.shared k ≢ tail_of q.shared = apart q.shared.head q.shared.size k q.shared.posted l (omega (arith, s.lent_is.is.shared_is)) (λ d. ⊎_elim (λ a. omega arith) (λ a. omega (arith, s.own.some, slots_are request (length lengths))) out) in
          record {
            words_same = rw e (row_other 2 q.shared.size (descriptor request addresses lengths) ring (tail_of q.shared) (two_words request addresses lengths) (slots_taken request lengths) (slot_of q.shared k) free);
            token_same = rw e (get_or-set_other tokens (tail_of q.shared) (slot_of q.shared k) token 0 tail);
            count_same = rw e (get_or-set_other counts (tail_of q.shared) (slot_of q.shared k) (slots_taken request lengths) 0 tail);
          }
      go false e = record { words_same = rw e; token_same = rw e; count_same = rw e }

  -- the device's slots are those at distances below posted
  pub devices_stay : record_ok q ≡ true → (token k : ℕ) → k < q.shared.posted → Stays q ring tokens counts addresses lengths request token k
  devices_stay ok token k l = others_stay token k (omega (arith, (kept q ok).shared_is)) (inl l)

  -- ---- the lent slices

  abbrev accepts : Bool
  accepts = is_ok (answer_to q ring tokens counts addresses lengths request)

  -- a send leaves the slices of the lengths that they had
  pub ring_long : length (ring_after q ring tokens counts addresses lengths request) ≡ length ring
  ring_long = either_long accepts (store_run 2 q.shared.size (descriptor request addresses lengths) ring (tail_of q.shared) (slots_taken request lengths)) ring (row_length 2 q.shared.size (descriptor request addresses lengths) ring (tail_of q.shared) (slots_taken request lengths))

  pub tokens_long : (token : ℕ) → length (tokens_after q ring tokens counts addresses lengths request token) ≡ length tokens
  tokens_long token = either_long accepts (set tokens (tail_of q.shared) token) tokens (length-set tokens (tail_of q.shared) token)

  pub counts_long : length (counts_after q ring tokens counts addresses lengths request) ≡ length counts
  counts_long = either_long accepts (set counts (tail_of q.shared) (slots_taken request lengths)) counts (length-set counts (tail_of q.shared) (slots_taken request lengths))

  -- so they are right for the record that it gives back
  pub send_lends : lent_ok q (length ring) (length tokens) (length counts) ≡ true → (token : ℕ)
      → lent_ok (send_of q ring tokens counts addresses lengths request).queue (length (ring_after q ring tokens counts addresses lengths request)) (length (tokens_after q ring tokens counts addresses lengths request token)) (length (counts_after q ring tokens counts addresses lengths request)) ≡ true
  send_lends l token =
      rw (ring_long, tokens_long token, counts_long)
      (lent_same q (length ring) (length tokens) (length counts) l (send_of q ring tokens counts addresses lengths request).queue
      (send_keeps q (lent_record q (length ring) (length tokens) (length counts) l) ring tokens counts addresses lengths request)
      (by_send q ring tokens counts addresses lengths request (λ (s : Sent). s.queue.shared.size ≡ q.shared.size) (λ z. refl) refl))
