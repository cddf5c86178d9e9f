-- No stale write-back is believed, in every history of a fresh receive queue that the device's rules allow. Assumes nothing.
use Rattle.std.proofs.Common.{ℕ, ◌+◌, ◌<◌, arith, ◌≡◌, refl, sym, ap, ◌∙◌, List, [], ◌∷◌, ◌++◌, map, length, length-append, Err, is_ok, true≢false}
use Rattle.std.proofs.lemmas.List.{length-map}
use lib.Seq.{take_at as take_front, take-append_seam}
use Rattle.rules.specs.declared.Refusal.TheVariants.{NotYet}
use Rattle.rules.specs.Rules.{done}
use Rattle.places.specs.Words.{Words}
use Rattle.receive.specs.declared.RxQueue.{RxQueue}
use Rattle.receive.specs.declared.Packet.{Packet}
use Rattle.scan.specs.Slots.{Slot}
use Rattle.scan.specs.Scan.{Look, refuse, whole}
use Rattle.receive.specs.Take.{packet_of, look, take_of}
use Rattle.history.specs.World.{World, Event, post, poll, write, slots_in, post_at, take_at, after, reply, Allowed, end, replies, AllAllowed, Start}
use Rattle.history.specs.History.{accepted_at, accepted, write_at, writes, packets, written, handed_up, waiting}
use Rattle.history.specs.Demand.{next_of}
use Rattle.history.specs.Stale.{SamePosted, Alike, slots_up, row, NoStale}
use Rattle.history.proofs.Lists.{filled_short}
use Rattle.history.proofs.State.{seen, moved, after_none, take_none, after_some, view_moved, Holds, holds_tail, holds_start, holds_write, seen_first}
use Rattle.history.proofs.Run.{post_holds, step, Ran, ran}
use Rattle.history.proofs.Late.{end_append}
use Rattle.history.proofs.Demand.{next_four, is_waiting, is_split, is_next, written_length, returned_length}

-- ---- two worlds that differ only in slots that are not posted hold the same, and the calls see the same

holds_same : (w v : World) (L : List Slot) (A : List ℕ) → Holds w L A → SamePosted w v → Holds v L A
holds_same w v L A h s =
    record {
      fit =
          record {
            ok = rw s.queue_same h.fit.ok;
            ring = s.ring_long ∙ rw s.queue_same h.fit.ring;
            list = s.list_long ∙ rw s.queue_same h.fit.list;
          };
      slots = s.slots_same ∙ h.slots;
      place = s.place_same ∙ rw s.queue_same h.place;
      part = s.part_same ∙ h.part;
      legal = rw s.queue_same h.legal;
    }

same_holds : (w v : World) (L : List Slot) (A : List ℕ) → Holds w L A → Holds v L A → v.queue ≡ w.queue → SamePosted w v
same_holds w v L A h k q =
    record {
      queue_same = q;
      place_same = k.place ∙ rw q (sym h.place);
      part_same = k.part ∙ sym h.part;
      ring_long = k.fit.ring ∙ rw q (sym h.fit.ring);
      list_long = k.fit.list ∙ rw q (sym h.fit.list);
      slots_same = k.slots ∙ sym h.slots;
    }

seen_same : (w v : World) → SamePosted w v → seen v ≡ seen w
unfolding seen look slots_in
seen_same w v s = rw (s.slots_same, s.ring_long, s.list_long, s.queue_same)

take_same : (w v : World) → SamePosted w v → take_at v ≡ take_at w
unfolding take_at take_of seen
take_same w v s = rw (seen_same w v s, s.queue_same)

post_same : (w v : World) (a : ℕ) → SamePosted w v → post_at v a ≡ post_at w a
unfolding post_at
post_same w v a s = rw (s.ring_long, s.list_long, s.queue_same)

moved_same : (w v : World) (n : ℕ) → SamePosted w v → SamePosted (moved w n) (moved v n)
unfolding moved
moved_same w v n s =
    record {
      queue_same = rw s.queue_same;
      place_same = s.place_same;
      part_same = s.part_same;
      ring_long = s.ring_long;
      list_long = s.list_long;
      slots_same = view_moved v n ∙ rw s.slots_same (sym (view_moved w n));
    }

-- ---- one event from both

record Both (w v : World) (e : Event) : Type 0 where
  pub allowed : Allowed v e
  pub says : reply v e ≡ reply w e
  pub same : SamePosted (after w e) (after v e)

queue_post : (w v : World) (a : ℕ) → SamePosted w v → (after v (post a)).queue ≡ (after w (post a)).queue
unfolding after
queue_post w v a s = rw (post_same w v a s)

accepted_same : (w v : World) (a : ℕ) → SamePosted w v → accepted_at v (post a) ≡ accepted_at w (post a)
unfolding accepted_at
accepted_same w v a s = rw (post_same w v a s)

both_post : (w v : World) (L : List Slot) (A : List ℕ) (a : ℕ) → Holds w L A → SamePosted w v → Both w v (post a)
unfolding reply
both_post w v L A a h s =
    record {
      allowed = tt;
      says = rw (post_same w v a s);
      same =
          same_holds (after w (post a)) (after v (post a)) L (A ++ accepted_at w (post a)) (post_holds w L A a h)
          (rw (accepted_same w v a s) at (post_holds v L A a (holds_same w v L A h s))) (queue_post w v a s);
    }

both_poll : (w v : World) → SamePosted w v → Both w v poll
unfolding reply
both_poll w v s = record { allowed = tt; says = rw (take_same w v s); same = go (seen w) refl }
  where
    go : (l : Look) → seen w ≡ l → SamePosted (after w poll) (after v poll)
    go (refuse n) e = rw (after_none w n e, after_none v n (seen_same w v s ∙ e)) s
    go (whole p) e = rw (after_some w p e, after_some v p (seen_same w v s ∙ e)) (moved_same w v (length p) s)

both_write : (w v : World) (L : List Slot) (A : List ℕ) (x : Words) → Holds w L A → SamePosted w v → Allowed w (write x) → Both w v (write x)
unfolding reply after
both_write w v L [] x h s t = absurd (t.0 (holds_tail w L h))
both_write w v L (a ∷ A) x h s t =
    let u : Allowed v (write x) = rw (s.place_same, s.queue_same, s.part_same) t in
    record {
      allowed = u;
      says = refl;
      same =
          same_holds (after w (write x)) (after v (write x)) (L ++ record { address = a; words = x } ∷ []) A (holds_write w L a A x h t.1)
          (holds_write v L a A x (holds_same w v L (a ∷ A) h s) u.1) s.queue_same;
    }

both_event : (w v : World) (L : List Slot) (A : List ℕ) (e : Event) → Holds w L A → SamePosted w v → Allowed w e → Both w v e
both_event w v L A (post a) h s t = both_post w v L A a h s
both_event w v L A poll h s t = both_poll w v s
both_event w v L A (write x) h s t = both_write w v L A x h s t

-- any events from both
alike : (w v : World) (L : List Slot) (A : List ℕ) (es : List Event) → Holds w L A → SamePosted w v → AllAllowed w es → Alike w v es
unfolding replies end
alike w v L A [] h s t = record { allowed = tt; replies_same = refl; end_same = s }
alike w v L A (e ∷ es) h s t =
    let b = both_event w v L A e h s t.0 in
    let n = step w L A e h t.0 in
    let r = alike (after w e) (after v e) n.L₁ n.A₁ es n.holds b.same t.1 in
    record { allowed = (b.allowed, r.allowed); replies_same = rw (b.says, r.replies_same); end_same = r.end_same }

-- whatever stands in the slices before the queue is fresh
pub any_contents : (w v : World) (es : List Event) → Start w → Start v → v.queue ≡ w.queue → AllAllowed w es → Alike w v es
any_contents w v es f g q t =
    let h = holds_start w f in
    alike w v [] [] es h (same_holds w v [] [] h (holds_start v g) q) t

-- ---- no packet is made of anything but the device's writes

-- where no packet is complete and nothing is written, takes go on to say 4
quiet_from : (w : World) (L : List Slot) (A : List ℕ) (es : List Event) → Holds w L A → packets L ≡ [] → writes es ≡ [] → (take_at (end w es)).answer ≡ Err NotYet
unfolding end writes write_at
quiet_from w L A [] h n e = rw (take_none w NotYet (seen_first w L A h ∙ rw n))
quiet_from w L A (post a ∷ es) h n e = quiet_from (after w (post a)) L (A ++ accepted_at w (post a)) es (post_holds w L A a h) n e
quiet_from w L A (poll ∷ es) h n e = rw (after_none w NotYet (seen_first w L A h ∙ rw n)) (quiet_from w L A es h n e)
quiet_from w L A (write x ∷ es) h n e = cc

none_mapped : (ps : List (List Slot)) → map packet_of ps ≡ [] → ps ≡ []
none_mapped [] e = refl
none_mapped (p ∷ ps) e = cc

some_waits : (q : RxQueue) (ps : List Packet) → (next_of q ps).answer ≡ done → 0 < length ps
unfolding next_of
some_waits q [] e = absurd (true≢false (ap is_ok (sym e)))
some_waits q (p ∷ ps) e = omega arith

pub no_stale : (w : World) (es : List Event) → Start w → AllAllowed w es → NoStale w es
unfolding handed_up written slots_up
no_stale w es f t =
    record {
      left_over = λ v later s u. alike (end w es) v r.L' r.A' later r.holds s u;
      own_writes = r.tells ∙ ap (λ (ps : List (List Slot)). map packet_of ps) (sym up_slots);
      each_once = ap row up_slots ∙ sym (rw r.logs (take_front (row r.up) r.L' _ (returned_length w es r)));
      no_more = omega (arith, long, returned_length w es r, written_length w es r);
      after_post = omega (arith, (filled_short (accepted w es) (writes es)).0, written_length w es r);
      only_new = λ e. omega (arith, some_waits _ (waiting w es) (rw (is_next w es r) at e), ap length (is_split w es r), length-append (handed_up w es) (waiting w es));
      quiet = λ later e n. rw end_append (quiet_from (end w es) r.L' r.A' later r.holds (none_mapped _ (sym (is_waiting w es r) ∙ next_four _ _ (rw (is_next w es r) at e))) n);
    }
  where
    r : Ran w [] [] es
    r = ran w [] [] es (holds_start w f) t

    up_slots : slots_up w es ≡ r.up
    up_slots = rw (r.tells, r.cuts, length-map) (take-append_seam r.up (packets r.L'))

    long : length (written w es) ≡ length (row r.up) + length r.L'
    long = ap length r.logs ∙ length-append (row r.up) r.L'
