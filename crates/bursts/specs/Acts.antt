-- Histories with bursts: what a burst does to the world, what it hands up, and its takes in its place.
-- Assumes nothing.
use Rattle.std.specs.Prelude.{ℕ, zero, suc, List, [], ◌∷◌, ◌++◌, length, get_or, drop, replicate}
use Rattle.slots.specs.Slots.{run}
use Rattle.scan.specs.Slots.{slot_in}
use Rattle.burst.specs.Out.{packet_numbers}
use Rattle.receive.specs.declared.RxQueue.{RxQueue}
use Rattle.receive.specs.declared.Packet.{Packet}
use Rattle.receive.specs.declared.Burst.{Burst}
use Rattle.receive.specs.Take.{packet_of}
use Rattle.receive.specs.Burst.{Made, made, burst_of, out_after}
use Rattle.history.specs.World.{World, Event, poll, after, reply, Allowed}
use Rattle.history.specs.History.{packets_in}

-- an event of a history, or a burst: the list lent to it, whatever is in it and however long, and its limit
pub data Act : Type 0 where
  event : Event → Act
  burst : List ℕ → ℕ → Act

-- ---- a burst in a world

-- its takes, what it gives back, and its list afterwards
abbrev pub made_at : World → List ℕ → ℕ → List Made
made_at w out limit = made w.queue w.ring w.list out limit

abbrev pub burst_at : World → List ℕ → ℕ → Burst
burst_at w out limit = burst_of w.queue w.ring w.list out limit

abbrev pub list_at : World → List ℕ → ℕ → List ℕ
list_at w out limit = out_after w.queue w.ring w.list out limit

-- the world with another record
unfoldable pub with_queue : World → RxQueue → World
with_queue w q = record { queue = q; ring = w.ring; list = w.list; place = w.place; part = w.part }

-- the packet whose slots begin at this one and are so many, as ring and list hold them
abbrev pub packet_at : World → ℕ → ℕ → Packet
packet_at w first count = packet_of (run (slot_in w.ring w.list) w.queue.shared.size first count)

-- the packets that so many times three numbers tell
unfoldable pub packets_told : World → ℕ → List ℕ → List Packet
packets_told w zero out = []
packets_told w (suc n) out = packet_at w (get_or out 0 0) (get_or out 1 0) ∷ packets_told w n (drop packet_numbers out)

-- ---- one act

unfoldable pub after_act : World → Act → World
after_act w (event e) = after w e
after_act w (burst out limit) = with_queue w (burst_at w out limit).queue

-- the packets that it hands up: those of a take's answer, those that a burst's list tells
unfoldable pub up_by : World → Act → List Packet
up_by w (event e) = packets_in (reply w e)
up_by w (burst out limit) = packets_told w (burst_at w out limit).packets (list_at w out limit)

-- the events that it counts as: a burst is as many takes as it made
unfoldable pub as_events : World → Act → List Event
as_events w (event e) = e ∷ []
as_events w (burst out limit) = replicate (length (made_at w out limit)) poll

abbrev pub ActAllowed : World → Act → Type 0
ActAllowed w (event e) = Allowed w e
ActAllowed w (burst out limit) = Unit {0}

-- ---- a list of acts

unfoldable pub end_of : World → List Act → World
end_of w [] = w
end_of w (a ∷ rest) = end_of (after_act w a) rest

unfoldable pub all_up : World → List Act → List Packet
all_up w [] = []
all_up w (a ∷ rest) = up_by w a ++ all_up (after_act w a) rest

unfoldable pub spread : World → List Act → List Event
spread w [] = []
spread w (a ∷ rest) = as_events w a ++ spread (after_act w a) rest

abbrev pub ActsAllowed : World → List Act → Type 0
ActsAllowed w [] = Unit {0}
ActsAllowed w (a ∷ rest) = ActAllowed w a × ActsAllowed (after_act w a) rest
