-- The queue record (01), the part that the receive and the transmit queue share: queue number, size, head, posted, and the counts of slots ever
-- posted and ever handed back (02, "A figure that moves on the console page"). Each queue's own record holds it beside a number of its own.
-- Assumes nothing.
use Rattle.std.specs.Prelude.{◌≡◌, ℕ, ◌+◌, ◌-◌, ◌*◌, ◌<◌, ◌≤◌, Bool, cond, ◌&&◌, ◌||◌, nat_lt, Result, Ok, Err}
use Rattle.rules.specs.declared.Refusal.{Refusal}
use Rattle.rules.specs.declared.Refusal.TheVariants.{WrongRecord}
use Rattle.ring.specs.declared.Queue.{Queue}
use Rattle.slots.specs.Slots.{slot_at, distance}
use Rattle.ring.specs.Sizes.{most_queue, least_size, most_size, most_count, queue_ok, place_ok, counts_ok}

-- slots ever posted and slots ever handed back, since the queue was fresh
abbrev pub ever_posted : Queue → ℕ
ever_posted q = q.ever_posted

abbrev pub ever_returned : Queue → ℕ
ever_returned q = q.ever_returned

-- head and posted, the counts, queue number and size keep their lines
abbrev pub shared_ok : Queue → Bool
shared_ok q = (place_ok q.size q.head q.posted && counts_ok q.posted (ever_posted q) (ever_returned q)) && queue_ok q.queue q.size

-- what these lines say, as facts
pub record Shared (q : Queue) : Type 0 where
  pub queue_high : q.queue ≤ most_queue
  pub size_low : least_size ≤ q.size
  pub size_high : q.size ≤ most_size
  pub head_below : q.head < q.size
  pub posted_below : q.posted < q.size
  pub counted : q.posted + ever_returned q ≡ ever_posted q

-- the slot at a distance from head; tail = (head + posted) mod size
abbrev pub slot_of : Queue → ℕ → ℕ
slot_of q k = slot_at q.head q.size k

abbrev pub tail_of : Queue → ℕ
tail_of q = slot_of q q.posted

-- a slot is the device's exactly if its distance from head is less than posted
abbrev pub is_devices : Queue → ℕ → Bool
is_devices q s = nat_lt (distance q.head q.size s) q.posted

-- slots that may still be posted: the tail never reaches the oldest one
abbrev pub free_slots : Queue → ℕ
free_slots q = q.size - 1 - q.posted

-- n slots more are too many: they exceed size - 1 - posted, or slots ever posted would pass 2^64 - 1
abbrev pub no_room : Queue → ℕ → Bool
no_room q n = nat_lt (free_slots q) n || nat_lt most_count (ever_posted q + n)

-- a fresh queue: head 0 and posted 0, and nothing was ever posted or handed back
abbrev pub empty_queue : ℕ → ℕ → Queue
empty_queue queue size = record { queue = queue; size = size; head = 0; posted = 0; ever_posted = 0; ever_returned = 0 }

-- slots are handed back: head moves on by their count, posted falls by it, and ever returned grows by it
abbrev pub advanced : Queue → ℕ → Queue
advanced q n = record { queue = q.queue; size = q.size; head = slot_of q n; posted = q.posted - n; ever_posted = ever_posted q; ever_returned = ever_returned q + n }

-- slots are posted: posted grows by their count, and so does ever posted
abbrev pub grown : Queue → ℕ → Queue
grown q n = record { queue = q.queue; size = q.size; head = q.head; posted = q.posted + n; ever_posted = ever_posted q + n; ever_returned = ever_returned q }

-- a number asked of a record: of one that is not accepted, 1
unfoldable pub asked_of : Bool → ℕ → Result ℕ Refusal
asked_of ok n = cond ok (Ok n) (Err WrongRecord)

-- the tail register of a queue stands at 4 x queue after that of queue 0
abbrev pub register_at : ℕ → ℕ → ℕ
register_at first queue = first + 4 * queue
