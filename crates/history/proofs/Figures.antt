-- The console's law, of every history of a fresh receive queue that the device's rules allow. Assumes nothing.
use Rattle.std.proofs.Common.{ℕ, ◌+◌, ◌≤◌, ◌≡◌, refl, sym, ap, ◌∙◌, ◌≢◌, Bool, true, false, cond, List, [], ◌∷◌, ◌++◌, map, zero-add, arith, length, length-append, is_ok}
use Rattle.rules.specs.Rules.{done}
use Rattle.rules.proofs.Answers.{done-is_ok, refused-is_ok, done_or_not}
use Rattle.ring.specs.Sizes.{most_count}
use Rattle.ring.specs.Queue.{ever_posted, ever_returned}
use Rattle.ring.specs.Counts.{figures_of, Moved}
use Rattle.ring.proofs.Counts.{stay, moved_both, none_moved}
use Rattle.scan.specs.Told.{sum}
use Rattle.receive.specs.declared.RxQueue.{RxQueue}
use Rattle.receive.specs.declared.Packet.{Packet}
use Rattle.receive.specs.declared.Taken.{Taken}
use Rattle.receive.proofs.Takes.{take_refused, hands_up}
use Rattle.receive.proofs.Counts.{post_moves, take_moves}
use Rattle.history.specs.World.{World, Event, post, poll, write, post_at, take_at, after, reply, end, replies, AllAllowed, Start}
use Rattle.history.specs.History.{if_done, accepted_at, accepted, packets_in, handed_up, returned}
use Rattle.history.specs.Figures.{shown, Accepted, NotLower, StoodStill, Console}
use Rattle.history.proofs.State.{after_refused, by_post, placed, room, fit_shared, start_empty, holds_start}
use Rattle.history.proofs.Run.{Ran, ran}
use Rattle.history.proofs.Late.{end_append, in_append}

-- the slots of packets
abbrev slots_of : List Packet → ℕ
slots_of ps = sum (map (λ (p : Packet). p.count) ps)

slots_append : (ps qs : List Packet) → slots_of (ps ++ qs) ≡ slots_of ps + slots_of qs
unfolding sum
slots_append [] qs = sym (zero-add _)
slots_append (p ∷ ps) qs = omega (arith, slots_append ps qs)

-- ---- one event

-- the slots that an event hands back: those of a take's packet, and a refused take's has none
abbrev back : World → Event → ℕ
back w e = slots_of (packets_in (reply w e))

take_back : (w : World) → back w poll ≡ (take_at w).packet.count
unfolding take_at reply packets_in if_done sum
take_back w = go (done_or_not (take_at w).answer)
  where
    none : (take_at w).answer ≢ done → (take_at w).packet.count ≡ 0
    none ne = ap (λ (t : Taken). t.packet.count) (take_refused w.queue w.ring w.list ne)

    go : Dec ((take_at w).answer ≡ done) → back w poll ≡ (take_at w).packet.count
    go (yes e) = rw (done-is_ok _ e) (omega arith)
    go (no ne) = rw (refused-is_ok _ ne) (sym (none ne))

event_moves : (w : World) (e : Event) → Moved w.queue.shared (after w e).queue.shared (length (accepted_at w e)) (back w e)
unfolding after post_at take_at accepted_at if_done reply packets_in sum
event_moves w (post a) = go (is_ok (post_at w a).answer) (post_moves w.queue w.ring w.list a)
  where
    go : (b : Bool) → Moved w.queue.shared (post_at w a).queue.shared (cond b 1 0) 0 → Moved w.queue.shared (post_at w a).queue.shared (length (cond b (a ∷ []) [])) 0
    go true m = m
    go false m = m
event_moves w poll = rw (take_back w) (take_moves w.queue w.ring w.list)
event_moves w (write x) = stay w.queue.shared

-- an event is an accepted call, which moves a figure, or nothing comes of it for record and console
decided : (w : World) (e : Event) → Dec (Accepted w e)
decided w (post a) = done_or_not (post_at w a).answer
decided w poll = done_or_not (take_at w).answer
decided w (write x) = no (λ n. n)

some_moves : (w : World) (e : Event) → Accepted w e → 1 ≤ length (accepted_at w e) + back w e
unfolding accepted_at if_done take_at
some_moves w (post a) h = rw (done-is_ok _ h) (omega arith)
some_moves w poll h = rw (take_back w) (omega (arith, (hands_up w.queue w.ring w.list h).some))
some_moves w (write x) h = absurd h

record NothingCame (w : World) (e : Event) : Type 0 where
  queue_same : (after w e).queue ≡ w.queue
  not_posted : accepted_at w e ≡ []
  not_up : packets_in (reply w e) ≡ []

nothing_came : (w : World) (e : Event) → (Accepted w e → ⊥) → NothingCame w e
unfolding after take_at accepted_at if_done reply packets_in
nothing_came w (post a) h = record { queue_same = ap (λ (v : World). v.queue) (after_refused w a h); not_posted = rw (refused-is_ok _ h); not_up = refl }
nothing_came w poll h =
    record {
      queue_same = ap (λ (t : Taken). t.queue) (take_refused w.queue w.ring w.list h);
      not_posted = refl;
      not_up = rw (refused-is_ok _ h);
    }
nothing_came w (write x) h = record { queue_same = refl; not_posted = refl; not_up = refl }

only_accepted_lem : (w : World) (e : Event) → shown (after w e) ≢ shown w → Accepted w e
only_accepted_lem w e h = go (decided w e)
  where
    go : Dec (Accepted w e) → Accepted w e
    go (yes a) = a
    go (no n) = absurd (h (ap (λ (q : RxQueue). figures_of q.shared) (nothing_came w e n).queue_same))

every_accepted_lem : (w : World) (e : Event) → Accepted w e → shown (after w e) ≢ shown w
every_accepted_lem w e a s = let z = none_moved (event_moves w e) s in omega (arith, some_moves w e a, z.0, z.1)

-- the count of slots ever posted never passes its most, since a post without room is refused
post_fits : (w : World) (a : ℕ) → ever_posted w.queue.shared ≤ most_count → ever_posted (after w (post a)).queue.shared ≤ most_count
unfolding placed
post_fits w a h = by_post w a (λ v. ever_posted v.queue.shared ≤ most_count) (λ e. (room w a e).count_room) (λ ne. h)

event_fits : (w : World) (e : Event) → ever_posted w.queue.shared ≤ most_count → ever_posted (after w e).queue.shared ≤ most_count
unfolding after take_at
event_fits w (post a) h = post_fits w a h
event_fits w poll h = omega (arith, (take_moves w.queue w.ring w.list).posted_more)
event_fits w (write x) h = h

-- ---- any events

events_move : (w : World) (es : List Event) → Moved w.queue.shared (end w es).queue.shared (length (accepted w es)) (returned w es)
unfolding end accepted handed_up returned replies packets_in sum
events_move w [] = stay w.queue.shared
events_move w (e ∷ es) =
    rw (length-append, in_append (reply w e) (replies (after w e) es), slots_append)
    (moved_both (event_moves w e) (events_move (after w e) es))

events_fit : (w : World) (es : List Event) → ever_posted w.queue.shared ≤ most_count → ever_posted (end w es).queue.shared ≤ most_count
unfolding end
events_fit w [] h = h
events_fit w (e ∷ es) h = events_fit (after w e) es (event_fits w e h)

not_lower : (w : World) (es : List Event) → NotLower (shown w) (shown (end w es))
not_lower w es = let m = events_move w es in record { posted = omega (arith, m.posted_more); returned = omega (arith, m.returned_more) }

still : (w : World) (es : List Event) → length (accepted w es) ≡ 0 → returned w es ≡ 0 → StoodStill w es
unfolding end accepted handed_up returned replies packets_in sum
still w [] a r = record { record_same = refl; none_posted = refl; none_up = refl }
still w (e ∷ es) a r = go (decided w e) (still (after w e) es (omega (arith, posts)) (omega (arith, ups)))
  where
    posts : length (accepted_at w e) + length (accepted (after w e) es) ≡ 0
    posts = sym (length-append (accepted_at w e) (accepted (after w e) es)) ∙ a

    ups : back w e + returned (after w e) es ≡ 0
    ups = sym (ap slots_of (in_append (reply w e) (replies (after w e) es)) ∙ slots_append (packets_in (reply w e)) _) ∙ r

    go : Dec (Accepted w e) → StoodStill (after w e) es → StoodStill w (e ∷ es)
    go (yes h) s = absurd (omega (arith, some_moves w e h, posts, ups))
    go (no h) s =
        let n = nothing_came w e h in
        record {
          record_same = s.record_same ∙ n.queue_same;
          none_posted = rw n.not_posted s.none_posted;
          none_up = in_append (reply w e) (replies (after w e) es) ∙ rw n.not_up s.none_up;
        }

same_again_lem : (w : World) (es : List Event) → shown (end w es) ≡ shown w → StoodStill w es
same_again_lem w es s = let z = none_moved (events_move w es) s in still w es z.0 z.1

-- ---- the law

pub console : (w : World) (es : List Event) → Start w → AllAllowed w es → Console w es
console w es f t =
    record {
      posted_is = omega (arith, m.posted_more, none.0);
      returned_is = omega (arith, m.returned_more, none.1);
      difference = (fit_shared (end w es) r.holds.fit).counted;
      fits = events_fit w es (omega (arith, none.0));
      only_accepted = only_accepted_lem (end w es);
      every_accepted = every_accepted_lem (end w es);
      never_down = λ later. rw end_append (not_lower (end w es) later);
      same_again = λ later s. same_again_lem (end w es) later (rw end_append at s);
    }
  where
    r : Ran w [] [] es
    r = ran w [] [] es (holds_start w f) t

    m : Moved w.queue.shared (end w es).queue.shared (length (accepted w es)) (returned w es)
    m = events_move w es

    none : (ever_posted w.queue.shared ≡ 0) × (ever_returned w.queue.shared ≡ 0)
    none = (ap (λ (q : RxQueue). ever_posted q.shared) (start_empty w f), ap (λ (q : RxQueue). ever_returned q.shared) (start_empty w f))
