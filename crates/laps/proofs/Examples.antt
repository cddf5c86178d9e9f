-- The histories of specs/Examples, computed from the definitions. Assumes nothing.
use Rattle.std.proofs.Common.{refl, Bool, true, not, ◌&&◌, List, [], ◌∷◌, T, eqb, T_not, eq-eqb, true≢false, sym}
use mir.Facts.{and_yes}
use Rattle.slots.specs.Slots.{run}
use Rattle.ring.specs.Queue.{tail_of}
use Rattle.receive.specs.Queue.{record_ok, lent_ok, fresh_of}
use Rattle.scan.specs.Slots.{posted_slots}
use Rattle.receive.specs.Post.{post_answer}
use Rattle.scan.specs.Scan.{allowed, writable, and_then, scan}
use Rattle.scan.specs.Told.{sum, padded, last_words}
use Rattle.receive.specs.Take.{packet_of, look, take_by, take_of}
use Rattle.history.specs.World.{World, Event, post, poll, write, post_at, take_at, part_after, after, reply, Allowed, end, replies, AllAllowed, Start}
use Rattle.history.specs.History.{if_done, accepted_at, accepted, write_at, writes, filled, written, joined, packets, completed, packets_in, handed_up}
use Rattle.history.specs.Late.{late_from, late}
use Rattle.history.specs.Demand.{Demand3}
use Rattle.laps.specs.Examples.{start, number_of, slots_from, packet_from, packets_from, one_by_one, one_by_one_says, at_once, at_once_says, lapped, slots_posted, slots_written, slots_back, along, Laps, events, Short, Refused}
use Rattle.history.proofs.Demand.{demand3}

-- ---- the device's rules as a test

unfoldable fits : World → Event → Bool
fits w (post a) = true
fits w poll = true
fits w (write x) = not (eqb w.place (tail_of w.queue.shared)) && writable w.queue.buffer w.part x

unfoldable all_fit : World → List Event → Bool
all_fit w [] = true
all_fit w (e ∷ es) = fits w e && all_fit (after w e) es

fits_allowed : (w : World) (e : Event) → T (fits w e) → Allowed w e
unfolding fits
fits_allowed w (post a) t = tt
fits_allowed w poll t = tt
fits_allowed w (write x) t =
    let s = and_yes (not (eqb w.place (tail_of w.queue.shared))) (writable w.queue.buffer w.part x) t in
    (λ e. T_not (eqb w.place (tail_of w.queue.shared)) s.0 (rw (eq-eqb _ _ e) tt), s.1)

all_allowed : (w : World) (es : List Event) → T (all_fit w es) → AllAllowed w es
unfolding all_fit
all_allowed w [] t = tt
all_allowed w (e ∷ es) t =
    let s = and_yes (fits w e) (all_fit (after w e) es) t in
    (fits_allowed w e s.0, all_allowed (after w e) es s.1)

-- ---- the histories

start_is : Start start
unfolding fresh_of record_ok
start_is =
    record {
      number = 0;
      size = 32;
      buffer = 2048;
      answer_is = refl;
      queue_is = refl;
      ring_long = refl;
      list_long = refl;
      place_is = refl;
      part_is = refl;
    }

pub laps : Laps
unfolding fresh_of lent_ok record_ok post_answer run posted_slots allowed writable and_then scan look sum padded last_words packet_of take_by take_of post_at take_at part_after after reply end replies if_done packets_in handed_up number_of slots_from packet_from packets_from one_by_one one_by_one_says at_once at_once_says lapped slots_posted slots_written slots_back along fits all_fit
laps =
    record {
      starts = start_is;
      allowed = all_allowed start lapped tt;
      each_posted = refl;
      each_written = refl;
      each_back = refl;
      packets_are = refl;
      says = refl;
      none_shown = refl;
      all_shown = refl;
      old_at_start = refl;
      old_between = refl;
      old_at_end = refl;
    }

-- so all that demand 3 says holds of it
pub laps_demand : Demand3 start lapped
laps_demand = demand3 start lapped laps.starts laps.allowed

pub short : Short
unfolding fresh_of lent_ok record_ok post_answer run posted_slots allowed writable and_then scan look sum padded last_words packet_of take_by take_of post_at take_at part_after after reply end replies if_done accepted_at accepted write_at writes filled written joined packets completed packets_in handed_up late_from late number_of fits all_fit
short = record { allowed = all_allowed start events tt; says = refl; completed_are = refl; packets_are = refl; late_is = refl }

pub refused : Refused
unfolding fresh_of lent_ok record_ok post_answer run posted_slots allowed writable and_then scan look sum padded last_words packet_of take_by take_of post_at take_at part_after after end slots_from packet_from packets_from
refused = record { none_posted = λ t. t.0 refl; none_left = λ t. t.0 refl; first_empty = λ t. t.1; sixth_data = λ t. t.1; sixth_open = λ t. t.1; at_tail = λ e. true≢false (sym e) }
