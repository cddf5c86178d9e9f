-- A burst counts as its takes, and so demand 3 and the console's law carry over to histories with bursts. Assumes nothing.
use Rattle.std.proofs.Common.{ℕ, zero, suc, ◌≡◌, refl, sym, ap, ◌∙◌, Bool, true, false, cond, List, [], ◌∷◌, ◌++◌, map, append-nil, length, drop, replicate, Err, is_ok}
use Rattle.rules.specs.declared.Refusal.TheVariants.{NotYet}
use Rattle.rules.specs.Rules.{done}
use Rattle.rules.proofs.Answers.{done-is_ok, refused-is_ok}
use Rattle.slots.proofs.Runs.{run_take}
use Rattle.scan.specs.Slots.{slot_in, posted_slots}
use Rattle.receive.specs.declared.RxQueue.{RxQueue}
use Rattle.receive.specs.declared.Packet.{Packet}
use Rattle.receive.specs.declared.Taken.{Taken}
use Rattle.receive.specs.Take.{packet_of, take_of}
use Rattle.receive.specs.Burst.{Made, takes_from, carried, handing, told, burst_of, out_after}
use Rattle.receive.proofs.Takes.{hands_up}
use Rattle.receive.proofs.Turns.{taken_on, by_takes}
use Rattle.receive.proofs.Bursts.{of_made, four_again}
use Rattle.history.specs.World.{World, poll, Reply, taken, take_at, after, reply, end, replies, AllAllowed, Start}
use Rattle.history.specs.History.{if_done, packets_in, handed_up}
use Rattle.history.proofs.Late.{end_append, replies_append, in_append, allowed_append}
use Rattle.history.proofs.Demand.{demand3}
use Rattle.history.proofs.Figures.{console}
use Rattle.bursts.specs.Acts.{Act, event, burst, made_at, burst_at, with_queue, packet_at, packets_told, after_act, up_by, as_events, ActAllowed, end_of, all_up, spread, ActsAllowed}
use Rattle.bursts.specs.Demand.{AsTakes, BurstDemand}

-- ---- the takes of a burst, one after another from a world

module _ (w : World) where
  takes_leave_lem : (n : ℕ) (q : RxQueue) → end (with_queue w q) (replicate (length (takes_from w.ring w.list n q)) poll) ≡ with_queue w (carried q (takes_from w.ring w.list n q))
  unfolding end after take_at with_queue carried
  takes_leave_lem =
      by_takes w.ring w.list (λ n q ms. end (with_queue w q) (replicate (length ms) poll) ≡ with_queue w (carried q ms))
      (λ q. refl)
      (λ n q ms z r. r)
      (λ n q ne. refl)

  takes_say_lem : (n : ℕ) (q : RxQueue) → replies (with_queue w q) (replicate (length (takes_from w.ring w.list n q)) poll) ≡ map (λ (m : Made). taken m.taken) (takes_from w.ring w.list n q)
  unfolding replies reply after take_at with_queue
  takes_say_lem =
      by_takes w.ring w.list (λ n q ms. replies (with_queue w q) (replicate (length ms) poll) ≡ map (λ (m : Made). taken m.taken) ms)
      (λ q. refl)
      (λ n q ms z r. ap (λ (rs : List Reply). taken (take_of q w.ring w.list) ∷ rs) r)
      (λ n q ne. refl)

  module _ (out : List ℕ) (limit : ℕ) where
    burst_leaves : end w (as_events w (burst out limit)) ≡ after_act w (burst out limit)
    unfolding end with_queue after_act as_events burst_of carried
    burst_leaves =
        of_made w.queue w.ring w.list out limit (λ ms. end w (replicate (length ms) poll) ≡ with_queue w (carried w.queue ms))
        refl
        (takes_leave_lem limit w.queue)

    burst_says : replies w (as_events w (burst out limit)) ≡ map (λ (m : Made). taken m.taken) (made_at w out limit)
    unfolding replies with_queue as_events
    burst_says =
        of_made w.queue w.ring w.list out limit (λ ms. replies w (replicate (length ms) poll) ≡ map (λ (m : Made). taken m.taken) ms)
        refl
        (takes_say_lem limit w.queue)

-- takes are always allowed
takes_allowed : (n : ℕ) (w : World) → AllAllowed w (replicate n poll)
takes_allowed zero w = tt
takes_allowed (suc n) w = (tt, takes_allowed n (after w poll))

-- ---- the packets that a burst tells are those of its takes

abbrev packets_of : List Made → List Packet
packets_of ms = map (λ (m : Made). m.taken.packet) (handing ms)

-- those of the takes' answers
answered : (ms : List Made) → packets_in (map (λ (m : Made). taken m.taken) ms) ≡ packets_of ms
unfolding packets_in if_done handing
answered [] = refl
answered (m ∷ ms) = go (is_ok m.taken.answer) (answered ms)
  where
    go : (b : Bool) → packets_in (map (λ (m : Made). taken m.taken) ms) ≡ packets_of ms
        → cond b (m.taken.packet ∷ []) [] ++ packets_in (map (λ (m : Made). taken m.taken) ms) ≡ map (λ (m : Made). m.taken.packet) (cond b (m ∷ handing ms) (handing ms))
    go true r = ap (λ (ps : List Packet). m.taken.packet ∷ ps) r
    go false r = r

module _ (w : World) where
  -- a take's packet is made of the slots from head on, so many as it counts
  slots_are : (q : RxQueue) → q.shared.size ≡ w.queue.shared.size → (taken_on q w.ring w.list).answer ≡ done
      → packet_at w q.shared.head (taken_on q w.ring w.list).packet.count ≡ (taken_on q w.ring w.list).packet
  unfolding posted_slots
  slots_are q e z =
      let u = hands_up q w.ring w.list z in
      rw (← e)
      (ap packet_of (sym (run_take (slot_in w.ring w.list) q.shared.size q.shared.head _ q.shared.posted u.within))
      ∙ sym (ap (λ (x : Taken). x.packet) u.is))

  size_same : (q : RxQueue) → (taken_on q w.ring w.list).answer ≡ done → (taken_on q w.ring w.list).queue.shared.size ≡ q.shared.size
  size_same q z = ap (λ (x : Taken). x.queue.shared.size) (hands_up q w.ring w.list z).is

  takes_tell : (n : ℕ) (q : RxQueue) → q.shared.size ≡ w.queue.shared.size → (rest : List ℕ)
      → packets_told w (length (handing (takes_from w.ring w.list n q))) (told (handing (takes_from w.ring w.list n q)) ++ rest) ≡ packets_of (takes_from w.ring w.list n q)
  unfolding handing told packets_told
  takes_tell =
      by_takes w.ring w.list
      (λ n q ms. q.shared.size ≡ w.queue.shared.size → (rest : List ℕ) → packets_told w (length (handing ms)) (told (handing ms) ++ rest) ≡ packets_of ms)
      (λ q e rest. refl)
      (λ n q ms z r e rest. rw (done-is_ok _ z) (rw (slots_are q e z, r (size_same q z ∙ e) rest)))
      (λ n q ne e rest. rw (refused-is_ok _ ne))

  module _ (out : List ℕ) (limit : ℕ) where
    burst_tells : up_by w (burst out limit) ≡ packets_of (made_at w out limit)
    unfolding up_by burst_of out_after handing told packets_told
    burst_tells =
        of_made w.queue w.ring w.list out limit
        (λ ms. packets_told w (length (handing ms)) (told (handing ms) ++ drop (length (told (handing ms))) out) ≡ packets_of ms)
        refl
        (takes_tell limit w.queue refl _)

  -- ---- one act

  act_leaves : (a : Act) → end w (as_events w a) ≡ after_act w a
  unfolding end as_events after_act
  act_leaves (event e) = refl
  act_leaves (burst out limit) = burst_leaves w out limit

  act_up : (a : Act) → packets_in (replies w (as_events w a)) ≡ up_by w a
  unfolding replies as_events up_by
  act_up (event e) = rw append-nil
  act_up (burst out limit) = rw (burst_says w out limit) (answered (made_at w out limit) ∙ sym (burst_tells out limit))

  act_allowed : (a : Act) → ActAllowed w a → AllAllowed w (as_events w a)
  unfolding as_events
  act_allowed (event e) h = (h, tt)
  act_allowed (burst out limit) h = takes_allowed (length (made_at w out limit)) w

  pub as_takes : (out : List ℕ) (limit : ℕ) → AsTakes w out limit
  as_takes out limit = record { takes_say = burst_says w out limit; takes_leave = burst_leaves w out limit }

-- ---- a list of acts

same_end_lem : (w : World) (acts : List Act) → end_of w acts ≡ end w (spread w acts)
unfolding end_of spread end
same_end_lem w [] = refl
same_end_lem w (a ∷ acts) = same_end_lem (after_act w a) acts ∙ sym (end_append w (as_events w a) (spread (after_act w a) acts) ∙ ap (λ (v : World). end v (spread (after_act w a) acts)) (act_leaves w a))

same_packets_lem : (w : World) (acts : List Act) → all_up w acts ≡ handed_up w (spread w acts)
unfolding all_up spread handed_up replies packets_in
same_packets_lem w [] = refl
same_packets_lem w (a ∷ acts) =
    sym
    (ap packets_in (replies_append w (as_events w a) (spread (after_act w a) acts))
    ∙ in_append (replies w (as_events w a)) (replies (end w (as_events w a)) (spread (after_act w a) acts))
    ∙ rw (act_up w a, act_leaves w a, ← same_packets_lem (after_act w a) acts))

spread_allowed : (w : World) (acts : List Act) → ActsAllowed w acts → AllAllowed w (spread w acts)
unfolding spread
spread_allowed w [] h = tt
spread_allowed w (a ∷ acts) h = allowed_append w (as_events w a) (spread (after_act w a) acts) (act_allowed w a h.0) (rw (act_leaves w a) (spread_allowed (after_act w a) acts h.1))

end_last : (w : World) (before : List Act) (a : Act) → end_of w (before ++ a ∷ []) ≡ after_act (end_of w before) a
unfolding end_of
end_last w [] a = refl
end_last w (b ∷ before) a = end_last (after_act w b) before a

-- a take behind a burst that answers 4 answers 4
four_behind : (v : World) (out : List ℕ) (limit : ℕ) → (burst_at v out limit).answer ≡ Err NotYet → (take_at (after_act v (burst out limit))).answer ≡ Err NotYet
unfolding take_at after_act with_queue
four_behind v out limit e = four_again v.queue v.ring v.list out limit e

pub burst_demand : (w : World) (acts : List Act) → Start w → ActsAllowed w acts → BurstDemand w acts
burst_demand w acts f h =
    let s = spread_allowed w acts h in
    let d = demand3 w (spread w acts) f s in
    record {
      same_end = same_end_lem w acts;
      same_packets = same_packets_lem w acts;
      allowed = s;
      demand = d;
      console = console w (spread w acts) f s;
      not_yet =
          λ before out limit last e.
          let at : end w (spread w acts) ≡ after_act (end_of w before) (burst out limit) = sym (same_end_lem w acts) ∙ rw last (end_last w before (burst out limit)) in
          d.not_yet (rw at (four_behind (end_of w before) out limit e)) ∙ sym (same_packets_lem w acts);
    }
