-- Histories computed over a ring of 32 slots: one that goes round the ring twice, a short one with everything in it, and writes that
-- are refused. All start on slices that another queue left: a whole packet's write-back in every slot. Assumes nothing.
use Rattle.std.specs.Prelude.{ℕ, zero, suc, ◌+◌, ◌*◌, ◌^◌, ◌≡◌, true, cond, List, [], ◌∷◌, ◌++◌, map, ltb, length, take, replicate}
use Rattle.rules.specs.Rules as Rules
use Rattle.slots.specs.Slots.{run}
use Rattle.ring.specs.Queue.{tail_of}
use Rattle.places.specs.Words.{dd, eop}
use Rattle.scan.specs.Scan.{data_slots}
use Rattle.receive.specs.Queue.{fresh_of}
use Rattle.scan.specs.Slots.{Slot}
use Rattle.receive.specs.Take.{packet_of}
use Rattle.history.specs.World.{World, Event, post, poll, write, Reply, posted, taken, post_at, take_at, after, Allowed, end, replies, AllAllowed, Start}
use Rattle.history.specs.History.{if_done, completed, handed_up}
use Rattle.history.specs.Late.{late}
use Rattle.history.specs.Demand.{Unreturned, slot_no}
use Rattle.history.specs.Stale.{row}
use Rattle.history.specs.Figures.{shown}

abbrev pub start : World
start =
    record {
      queue = (fresh_of 0 32 2048).queue;
      ring = replicate 64 0x000010068000000B;
      list = replicate 32 7;
      place = 0;
      part = 0;
    }

-- buffer n, and n bytes of a packet that the device writes to it, without and with EOP
abbrev pub part_in : ℕ → Slot
part_in n = record { address = 0x1000 * n; words = record { word0 = n; word1 = n * 2 ^ 38 + 1 } }

abbrev pub last_in : ℕ → Slot
last_in n = record { address = 0x1000 * n; words = record { word0 = n; word1 = n * 2 ^ 38 + 3 } }

-- buffer n, left empty by the last write of a packet
abbrev pub empty_in : ℕ → Slot
empty_in n = record { address = 0x1000 * n; words = record { word0 = n; word1 = 3 } }

abbrev pub post_for : Slot → Event
post_for s = post s.address

abbrev pub write_to : Slot → Event
write_to s = write s.words

-- the number that a call gives back
unfoldable pub number_of : Reply → ℕ
number_of (posted r) = Rules.number_of r.answer
number_of (taken r) = Rules.number_of r.answer

-- ---- twice round the ring

-- k slots more of a packet, from buffer n on, i slots passed: a sixth is empty. A packet of k slots, and packets of so many slots each
unfoldable pub slots_from : ℕ → ℕ → ℕ → List Slot
slots_from i n zero = []
slots_from i n (suc zero) = cond (ltb i data_slots) (last_in n) (empty_in n) ∷ []
slots_from i n (suc (suc k)) = part_in n ∷ slots_from (suc i) (suc n) (suc k)

unfoldable pub packet_from : ℕ → ℕ → List Slot
packet_from n k = slots_from 0 n k

unfoldable pub packets_from : ℕ → List ℕ → List (List Slot)
packets_from n [] = []
packets_from n (k ∷ ks) = packet_from n k ∷ packets_from (n + k) ks

-- 31 slots, again 31, and two more, in packets of one to six slots. The first of `full` lies over the ring's end.
abbrev pub single : List (List Slot)
single = packets_from 1 (1 ∷ 2 ∷ 3 ∷ 4 ∷ 5 ∷ 6 ∷ 1 ∷ 2 ∷ 3 ∷ 4 ∷ [])

abbrev pub full : List (List Slot)
full = packets_from 32 (6 ∷ 5 ∷ 4 ∷ 3 ∷ 2 ∷ 1 ∷ 4 ∷ 3 ∷ 2 ∷ 1 ∷ [])

abbrev pub rest : List (List Slot)
rest = packets_from 63 (2 ∷ [])

-- One slot at a time. The take before its write looks at a slot just posted over an old write-back, and says 4. The take behind it
-- says 4 within a packet, although an old one stands in the next slot, which is not posted.
unfoldable pub one_by_one : List Slot → List Event
one_by_one [] = []
one_by_one (s ∷ ss) = post_for s ∷ poll ∷ write_to s ∷ poll ∷ one_by_one ss

unfoldable pub one_by_one_says : List Slot → List ℕ
one_by_one_says [] = []
one_by_one_says (s ∷ ss) = 0 ∷ 4 ∷ cond (eop s.words) 0 4 ∷ one_by_one_says ss

-- All slots at once: posted until the ring is full and one more is refused, a take over old write-backs, all written, then a take for
-- each packet and one more.
unfoldable pub at_once : List (List Slot) → List Event
at_once ps = map post_for (row ps) ++ post 0x1000 ∷ poll ∷ map write_to (row ps) ++ replicate (length ps) poll ++ poll ∷ []

unfoldable pub at_once_says : List (List Slot) → List ℕ
at_once_says ps = replicate (length (row ps)) 0 ++ 3 ∷ 4 ∷ replicate (length ps) 0 ++ 4 ∷ []

unfoldable pub lapped : List Event
lapped = one_by_one (row single) ++ at_once full ++ one_by_one (row rest)

-- the slots that an event posts, writes and hands back
unfoldable pub slots_posted : World → Event → List ℕ
slots_posted w (post a) = if_done (post_at w a).answer (tail_of w.queue.shared)
slots_posted w poll = []
slots_posted w (write x) = []

unfoldable pub slots_written : World → Event → List ℕ
slots_written w (post a) = []
slots_written w poll = []
slots_written w (write x) = w.place ∷ []

unfoldable pub slots_back : World → Event → List ℕ
slots_back w (post a) = []
slots_back w poll = run (λ (s : ℕ). s) w.queue.shared.size w.queue.shared.head (take_at w).packet.count
slots_back w (write x) = []

-- and those of a list of events, in order
unfoldable pub along : (World → Event → List ℕ) → World → List Event → List ℕ
along f w [] = []
along f w (e ∷ es) = f w e ++ along f (after w e) es

-- slots 0 to 31
abbrev pub round : List ℕ
round = run (λ (s : ℕ). s) 32 0 32

-- in every slot of the ring, posted or not, stands a write-back
abbrev pub AllWritten : World → Type 0
AllWritten w = map (λ (s : ℕ). dd (slot_no w s).words) round ≡ replicate 32 true

pub record Laps : Type 0 where
  -- the hypotheses of demand 3 hold
  pub starts : Start start
  pub allowed : AllAllowed start lapped
  -- each slot is posted, written and handed back twice, in ring order
  pub each_posted : along slots_posted start lapped ≡ round ++ round
  pub each_written : along slots_written start lapped ≡ round ++ round
  pub each_back : along slots_back start lapped ≡ round ++ round
  -- each packet comes up once, in order, with its buffers; every other take says 4
  pub packets_are : handed_up start lapped ≡ map packet_of (single ++ full ++ rest)
  pub says : map number_of (replies start lapped) ≡ one_by_one_says (row single) ++ at_once_says full ++ one_by_one_says (row rest)
  -- so many slots were posted and handed back, two laps of each; none at the start
  pub none_shown : shown start ≡ record { posted = 0; returned = 0 }
  pub all_shown : shown (end start lapped) ≡ record { posted = 64; returned = 64 }
  -- old write-backs stand in every slot at the start, behind the first 31 slots and at the end
  pub old_at_start : AllWritten start
  pub old_between : AllWritten (end start (one_by_one (row single)))
  pub old_at_end : AllWritten (end start lapped)

-- ---- a short history: three buffers, a packet of two slots, one of one slot, a fourth buffer and half a packet

abbrev pub events : List Event
events =
    poll
    ∷ post_for (part_in 1)
    ∷ post_for (last_in 2)
    ∷ post_for (last_in 3)
    ∷ poll
    ∷ write_to (part_in 1)
    ∷ poll
    ∷ write_to (last_in 2)
    ∷ write_to (last_in 3)
    ∷ poll
    ∷ poll
    ∷ poll
    ∷ post_for (part_in 4)
    ∷ write_to (part_in 4)
    ∷ poll
    ∷ []

-- the same calls, with each packet's writes just before its take and the half packet at the end
abbrev pub late_events : List Event
late_events =
    poll
    ∷ post_for (part_in 1)
    ∷ post_for (last_in 2)
    ∷ post_for (last_in 3)
    ∷ poll
    ∷ poll
    ∷ write_to (part_in 1)
    ∷ write_to (last_in 2)
    ∷ poll
    ∷ write_to (last_in 3)
    ∷ poll
    ∷ poll
    ∷ post_for (part_in 4)
    ∷ poll
    ∷ write_to (part_in 4)
    ∷ []

pub record Short : Type 0 where
  pub allowed : AllAllowed start events
  pub says : map number_of (replies start events) ≡ 4 ∷ 0 ∷ 0 ∷ 0 ∷ 4 ∷ 4 ∷ 0 ∷ 0 ∷ 4 ∷ 0 ∷ 4 ∷ []
  pub completed_are : completed start events ≡ map packet_of ((part_in 1 ∷ last_in 2 ∷ []) ∷ (last_in 3 ∷ []) ∷ [])
  pub packets_are : handed_up start events ≡ completed start events
  pub late_is : late start events ≡ late_events

-- ---- writes that the device's rules refuse

-- a packet of six slots, and the world behind so many of its writes
abbrev pub six : List Slot
six = packet_from 1 6

abbrev pub behind : ℕ → World
behind k = end start (map post_for six ++ map write_to (take k six))

pub record Refused : Type 0 where
  -- where nothing is posted, and where all that is posted is written
  pub none_posted : Allowed start (write_to (last_in 1)) → ⊥
  pub none_left : Allowed (behind 6) (write_to (last_in 7)) → ⊥
  -- an empty first slot
  pub first_empty : Allowed (behind 0) (write_to (empty_in 1)) → ⊥
  -- a sixth slot with data, and an empty one without EOP
  pub sixth_data : Allowed (behind 5) (write_to (last_in 6)) → ⊥
  pub sixth_open : Allowed (behind 5) (write (record { word0 = 6; word1 = 1 })) → ⊥
  -- the slot at the tail is not the device's
  pub at_tail : Unreturned start 0 → ⊥
