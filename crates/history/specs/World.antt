-- A receive queue and the device that writes to its ring: what one event does, what a call answers, which writes are allowed.
-- Assumes nothing.
use Rattle.std.specs.Prelude.{ℕ, suc, ◌*◌, ◌%◌, ◌≡◌, ◌≢◌, cond, List, [], ◌∷◌, ◌++◌, T, length}
use Rattle.rules.specs.Rules.{done}
use Rattle.ring.specs.Queue.{tail_of}
use Rattle.places.specs.Words.{Words, eop}
use Rattle.receive.specs.declared.RxQueue.{RxQueue}
use Rattle.receive.specs.declared.Posted.{Posted}
use Rattle.receive.specs.declared.Taken.{Taken}
use Rattle.receive.specs.Queue.{fresh_of}
use Rattle.scan.specs.Slots.{Slot, store_words, posted_slots}
use Rattle.receive.specs.Post.{post_of, ring_after, list_after}
use Rattle.scan.specs.Scan.{writable}
use Rattle.receive.specs.Take.{take_of}

-- The record, the ring and the companion list, which the calls carry on and nobody else writes; and of the device its place, which
-- is the slot that it writes next, and how many slots it has written of the packet that it has not ended.
pub record World : Type 0 where
  pub queue : RxQueue
  pub ring : List ℕ
  pub list : List ℕ
  pub place : ℕ
  pub part : ℕ

-- post an address; take (here `poll`, since `take` is the library's word for the front of a list); one write-back of both words
pub data Event : Type 0 where
  post : ℕ → Event
  poll : Event
  write : Words → Event

-- all that a call gives back
pub data Reply : Type 0 where
  posted : Posted → Reply
  taken : Taken → Reply

-- the slots that are the device's, the oldest first
unfoldable pub slots_in : World → List Slot
slots_in w = posted_slots w.queue.shared w.ring w.list

-- ---- one event

unfoldable pub post_at : World → ℕ → Posted
post_at w a = post_of w.queue w.ring w.list a

unfoldable pub take_at : World → Taken
take_at w = take_of w.queue w.ring w.list

-- slots of the open packet, after a write
unfoldable pub part_after : ℕ → Words → ℕ
part_after k x = cond (eop x) 0 (suc k)

-- a write is of both words of the slot at the device's place, which then goes on to the next one round the ring
unfoldable pub after : World → Event → World
after w (post a) =
    record {
      queue = (post_at w a).queue;
      ring = ring_after w.queue w.ring w.list a;
      list = list_after w.queue w.ring w.list a;
      place = w.place;
      part = w.part;
    }
after w poll = record { queue = (take_at w).queue; ring = w.ring; list = w.list; place = w.place; part = w.part }
after w (write x) =
    record {
      queue = w.queue;
      ring = store_words w.ring w.place x;
      list = w.list;
      place = suc w.place % w.queue.shared.size;
      part = part_after w.part x;
    }

unfoldable pub reply : World → Event → List Reply
reply w (post a) = posted (post_at w a) ∷ []
reply w poll = taken (take_at w) ∷ []
reply w (write x) = []

-- the device's rules: it writes posted slots only, so never at the tail, and only what a packet with so many slots before allows
abbrev pub Allowed : World → Event → Type 0
Allowed w (post a) = Unit {0}
Allowed w poll = Unit {0}
Allowed w (write x) = (w.place ≢ tail_of w.queue.shared) × T (writable w.queue.buffer w.part x)

-- ---- a list of events

unfoldable pub end : World → List Event → World
end w [] = w
end w (e ∷ es) = end (after w e) es

unfoldable pub replies : World → List Event → List Reply
replies w [] = []
replies w (e ∷ es) = reply w e ++ replies (after w e) es

abbrev pub AllAllowed : World → List Event → Type 0
AllAllowed w [] = Unit {0}
AllAllowed w (e ∷ es) = Allowed w e × AllAllowed (after w e) es

-- a fresh queue, over slices of the right lengths with anything in them; the device has written nothing
pub record Start (w : World) : Type 0 where
  pub number : ℕ
  pub size : ℕ
  pub buffer : ℕ
  pub answer_is : (fresh_of number size buffer).answer ≡ done
  pub queue_is : w.queue ≡ (fresh_of number size buffer).queue
  pub ring_long : length w.ring ≡ 2 * w.queue.shared.size
  pub list_long : length w.list ≡ w.queue.shared.size
  pub place_is : w.place ≡ 0
  pub part_is : w.part ≡ 0
