-- Takes in turn, each on the record that the one before gave back, up to one that refuses: what the walks of the code come to is what these
-- come to, and what holds of them all.
-- Assumes nothing.
use Rattle.rules.specs.declared.Refusal.TheVariants.{NotYet, Contradiction}
use Rattle.rules.specs.Rules.{done}
use Rattle.rules.proofs.Answers.{done_is, refused_is, done-is_ok, refused-is_ok}
use Rattle.std.proofs.Common.{is_ok, Err, ℕ, zero, suc, ◌+◌, ◌*◌, ◌≤◌, ◌≡◌, refl, sym, ap, ◌∙◌, ◌≢◌, ◌⊎◌, inl, inr, ⊎_elim, Bool, true, false, cond, List, [], ◌∷◌, map, add-zero, arith, length}
use Rattle.scan.specs.Slots.{posted_slots}
use Rattle.scan.specs.Scan.{packet_slots, examined, Look, refuse, whole, scan}
use Rattle.scan.specs.Told.{sum}
use Rattle.scan.proofs.Scans.{refused_with, reads_few}
use Rattle.burst.specs.declared.Found.{Found}
use Rattle.burst.specs.Polls.{found_by, found_in, Outcome, stop, ahead, polls}
use Rattle.receive.specs.declared.RxQueue.{RxQueue}
use Rattle.receive.specs.declared.Taken.{Taken}
use Rattle.receive.specs.Queue.{record_ok, lent_ok}
use Rattle.receive.specs.Take.{look, packet_of, take_by, take_of}
use Rattle.receive.specs.Burst.{Made, takes_from, stopped_by, carried, handing, told, examined_by}
use Rattle.receive.proofs.Laws.{apart}
use Rattle.receive.proofs.Takes.{take_refused, look_posted}
use Rattle.receive.proofs.Keeps.{advanced_ok, take_keeps}

-- ---- one take

-- what a walk finds is what a take gives, and the slots that it examines
record Same (f : Found) (t : Taken) (e : ℕ) : Type 0 where
  answer_same : f.answer ≡ t.answer
  queue_same : f.queue ≡ t.queue.shared
  count_same : f.count ≡ t.packet.count
  total_same : f.total ≡ t.packet.total
  examined_same : f.examined ≡ e

module _ (q : RxQueue) (ring list : List ℕ) where
  abbrev pub taken_on : Taken
  taken_on = take_of q ring list

  abbrev pub made_on : Made
  made_on = record { on = q; taken = taken_on }

  -- a take leaves the buffer size
  pub buffer_same : (take_of q ring list).queue.buffer ≡ q.buffer
  unfolding take_of take_by
  buffer_same = go (look q ring list)
    where
      go : (l : Look) → (take_by l q).queue.buffer ≡ q.buffer
      go (refuse n) = refl
      go (whole p) = refl

  rest_polls : (n : ℕ) → polls q.buffer ring list n taken_on.queue.shared ≡ polls taken_on.queue.buffer ring list n taken_on.queue.shared
  rest_polls n = ap (λ (b : ℕ). polls b ring list n taken_on.queue.shared) (sym buffer_same)

  module _ (ok : lent_ok q (length ring) (length list) ≡ true) where
    as_look : look q ring list ≡ scan q.buffer 0 (posted_slots q.shared ring list)
    unfolding look
    as_look = rw ok

    same : Same (found_in q.buffer ring list q.shared) taken_on (examined_by ring list made_on)
    unfolding take_of take_by packet_of found_by sum
    same = rw as_look (go (scan q.buffer 0 (posted_slots q.shared ring list)) (examined q.buffer 0 (posted_slots q.shared ring list)))
      where
        go : (l : Look) (e : ℕ) → Same (found_by l q.shared e) (take_by l q) e
        go (refuse n) e = record { answer_same = refl; queue_same = refl; count_same = refl; total_same = refl; examined_same = refl }
        go (whole p) e = record { answer_same = refl; queue_same = refl; count_same = refl; total_same = refl; examined_same = refl }

    -- one that refuses answers 4 or 5
    answers_with : taken_on.answer ≢ done → (taken_on.answer ≡ Err NotYet) ⊎ (taken_on.answer ≡ Err Contradiction)
    unfolding take_of take_by
    answers_with = rw as_look (go (scan q.buffer 0 (posted_slots q.shared ring list)) refl)
      where
        go : (l : Look) → scan q.buffer 0 (posted_slots q.shared ring list) ≡ l → (take_by l q).answer ≢ done → ((take_by l q).answer ≡ Err NotYet) ⊎ ((take_by l q).answer ≡ Err Contradiction)
        go (refuse n) e ne = ⊎_elim (λ x. inl (ap Err x)) (λ x. inr (ap Err x)) (refused_with q.buffer 0 (posted_slots q.shared ring list) n e)
        go (whole p) e ne = absurd (ne refl)

    -- the next one is accepted again
    pub still_lent : lent_ok (take_of q ring list).queue (length ring) (length list) ≡ true
    unfolding take_of take_by lent_ok
    still_lent = go (look q ring list) refl
      where
        go : (l : Look) → look q ring list ≡ l → lent_ok (take_by l q).queue (length ring) (length list) ≡ true
        go (refuse n) e = ok
        go (whole p) e = let b = apart q (length ring) (length list) ok in rw (advanced_ok q b.0 (length p) (look_posted q ring list p e)) b.1

    -- the walks of the code from here, by this take
    opened : (n : ℕ) → polls q.buffer ring list (suc n) q.shared
        ≡ cond (is_ok taken_on.answer)
        (ahead 1 (examined_by ring list made_on) (q.shared.head ∷ taken_on.packet.count ∷ taken_on.packet.total ∷ []) (polls q.buffer ring list n taken_on.queue.shared))
        (stop taken_on.answer taken_on.queue.shared (examined_by ring list made_on))
    unfolding polls
    opened n = rw (same.answer_same, same.queue_same, same.count_same, same.total_same, same.examined_same)

-- ---- all takes

-- what takes come to, on the record's shared part
abbrev outcome : List ℕ → List ℕ → RxQueue → List Made → Outcome
outcome ring list q ms =
    record {
      result = record { answer = stopped_by ms; queue = (carried q ms).shared; packets = length (handing ms); examined = sum (map (examined_by ring list) ms) };
      numbers = told (handing ms);
    }

module _ (ring list : List ℕ) where
  -- what holds of no takes, of a take that hands up before others, and of one that stops them, holds of all takes
  pub by_takes : (P : ℕ → RxQueue → List Made → Type 0)
      → ((q : RxQueue) → P 0 q [])
      → ((n : ℕ) (q : RxQueue) (ms : List Made) → (taken_on q ring list).answer ≡ done → P n (taken_on q ring list).queue ms → P (suc n) q (made_on q ring list ∷ ms))
      → ((n : ℕ) (q : RxQueue) → (taken_on q ring list).answer ≢ done → P (suc n) q (made_on q ring list ∷ []))
      → (n : ℕ) (q : RxQueue) → P n q (takes_from ring list n q)
  unfolding takes_from
  by_takes P none more stops zero q = none q
  by_takes P none more stops (suc n) q = go (is_ok (taken_on q ring list).answer) refl (by_takes P none more stops n (taken_on q ring list).queue)
    where
      go : (b : Bool) → is_ok (taken_on q ring list).answer ≡ b → P n (taken_on q ring list).queue (takes_from ring list n (taken_on q ring list).queue)
          → P (suc n) q (made_on q ring list ∷ cond b (takes_from ring list n (taken_on q ring list).queue) [])
      go true e p = more n q _ (done_is _ e) p
      go false e p = stops n q (refused_is _ e)

  -- the walks of the code come to what the takes come to
  abbrev Walks : ℕ → RxQueue → List Made → Type 0
  Walks n q ms = lent_ok q (length ring) (length list) ≡ true → polls q.buffer ring list n q.shared ≡ outcome ring list q ms

  no_walk : (q : RxQueue) → Walks 0 q []
  unfolding polls stop stopped_by carried handing told sum
  no_walk q ok = refl

  more_walks : (n : ℕ) (q : RxQueue) (ms : List Made) → (taken_on q ring list).answer ≡ done → Walks n (taken_on q ring list).queue ms → Walks (suc n) q (made_on q ring list ∷ ms)
  unfolding stopped_by carried handing told sum ahead
  more_walks n q ms z r ok =
      let one : 1 + length (handing ms) ≡ suc (length (handing ms)) = omega arith in
      rw (opened q ring list ok n, done-is_ok _ z, rest_polls q ring list n, r (still_lent q ring list ok), one)

  last_walk : (n : ℕ) (q : RxQueue) → (taken_on q ring list).answer ≢ done → Walks (suc n) q (made_on q ring list ∷ [])
  unfolding stopped_by carried handing told sum stop
  last_walk n q ne ok = rw (opened q ring list ok n, refused-is_ok _ ne, add-zero)

  pub as_takes : (n : ℕ) (q : RxQueue) → Walks n q (takes_from ring list n q)
  as_takes = by_takes Walks no_walk more_walks last_walk

  -- the record carried on has the buffer size that it came with
  pub carried_buffer : (n : ℕ) (q : RxQueue) → (carried q (takes_from ring list n q)).buffer ≡ q.buffer
  unfolding carried
  carried_buffer =
      by_takes (λ n q ms. (carried q ms).buffer ≡ q.buffer)
      (λ q. refl)
      (λ n q ms z r. r ∙ buffer_same q ring list)
      (λ n q ne. buffer_same q ring list)

  -- and keeps its lines
  pub carried_keeps : (n : ℕ) (q : RxQueue) → record_ok q ≡ true → record_ok (carried q (takes_from ring list n q)) ≡ true
  unfolding carried
  carried_keeps =
      by_takes (λ n q ms. record_ok q ≡ true → record_ok (carried q ms) ≡ true)
      (λ q ok. ok)
      (λ n q ms z r ok. r (take_keeps q ok ring list))
      (λ n q ne ok. take_keeps q ok ring list)

  -- no more packets than the limit, and as many where no take stopped it
  pub within_limit : (n : ℕ) (q : RxQueue) → length (handing (takes_from ring list n q)) ≤ n
  unfolding handing
  within_limit =
      by_takes (λ n q ms. length (handing ms) ≤ n)
      (λ q. omega arith)
      (λ n q ms z r. rw (done-is_ok _ z) (omega arith))
      (λ n q ne. rw (refused-is_ok _ ne) (omega arith))

  pub up_to_limit : (n : ℕ) (q : RxQueue) → stopped_by (takes_from ring list n q) ≡ done → length (handing (takes_from ring list n q)) ≡ n
  unfolding stopped_by handing
  up_to_limit =
      by_takes (λ n q ms. stopped_by ms ≡ done → length (handing ms) ≡ n)
      (λ q e. refl)
      (λ n q ms z r e. rw (done-is_ok _ z) (ap suc (r (rw (done-is_ok _ z) at e))))
      (λ n q ne e. absurd (ne (rw (refused-is_ok _ ne) at e)))

  -- a take that stops it answers 4 or 5
  pub stops_with : (n : ℕ) (q : RxQueue) → lent_ok q (length ring) (length list) ≡ true → stopped_by (takes_from ring list n q) ≢ done
      → (stopped_by (takes_from ring list n q) ≡ Err NotYet) ⊎ (stopped_by (takes_from ring list n q) ≡ Err Contradiction)
  unfolding stopped_by
  stops_with =
      by_takes (λ n q ms. lent_ok q (length ring) (length list) ≡ true → stopped_by ms ≢ done → (stopped_by ms ≡ Err NotYet) ⊎ (stopped_by ms ≡ Err Contradiction))
      (λ q ok ne. absurd (ne refl))
      (λ n q ms z r ok. rw (done-is_ok _ z) (r (still_lent q ring list ok)))
      (λ n q ne ok. rw (refused-is_ok _ ne) (λ x. answers_with q ring list ok ne))

  -- and so does a take behind it
  pub stops_again : (n : ℕ) (q : RxQueue) → stopped_by (takes_from ring list n q) ≢ done
      → (take_of (carried q (takes_from ring list n q)) ring list).answer ≡ stopped_by (takes_from ring list n q)
  unfolding stopped_by carried
  stops_again =
      by_takes (λ n q ms. stopped_by ms ≢ done → (take_of (carried q ms) ring list).answer ≡ stopped_by ms)
      (λ q ne. absurd (ne refl))
      (λ n q ms z r. rw (done-is_ok _ z) r)
      (λ n q ne. rw (refused-is_ok _ ne) (λ x. ap (λ (r : RxQueue). (take_of r ring list).answer) (ap (λ (y : Taken). y.queue) (take_refused q ring list ne))))

  -- ---- the slots examined: at most six a take, so six a packet, and six more where a take stopped it

  take_few : (m : Made) → examined_by ring list m ≤ packet_slots
  take_few m = omega (arith, reads_few m.on.buffer 0 (posted_slots m.on.shared ring list) (omega arith))

  pub few : (n : ℕ) (q : RxQueue) → sum (map (examined_by ring list) (takes_from ring list n q))
      ≤ packet_slots * length (handing (takes_from ring list n q)) + cond (is_ok (stopped_by (takes_from ring list n q))) 0 packet_slots
  unfolding stopped_by handing sum
  few =
      by_takes (λ n q ms. sum (map (examined_by ring list) ms) ≤ packet_slots * length (handing ms) + cond (is_ok (stopped_by ms)) 0 packet_slots)
      (λ q. omega arith)
      (λ n q ms z r. rw (done-is_ok _ z) (omega (arith, take_few (made_on q ring list))))
      (λ n q ne. rw (refused-is_ok _ ne) (rw (refused-is_ok _ ne) (omega (arith, take_few (made_on q ring list)))))
