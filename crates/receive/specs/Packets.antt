-- What a take that hands up a packet gives back (01, "Receiving").
-- Assumes nothing.
use Rattle.rules.specs.Rules.{done}
use Rattle.std.specs.Prelude.{ℕ, ◌≤◌, ◌<◌, ◌≡◌, true, List, length, get_or, take}
use Rattle.ring.specs.Queue.{slot_of}
use Rattle.places.specs.Words.{length_of}
use Rattle.scan.specs.Slots.{slot_in, posted_slots}
use Rattle.scan.specs.Scan.{packet_slots, Complete}
use Rattle.scan.specs.Told.{sum, lengths_of}
use Rattle.receive.specs.declared.RxQueue.{RxQueue}
use Rattle.receive.specs.declared.Taken.{Taken}
use Rattle.receive.specs.Queue.{lent_ok}
use Rattle.receive.specs.Take.{packet_of, advanced}

module _ (q : RxQueue) (ring list : List ℕ) (t : Taken) where
  -- answer 0: a packet of one to six slots, which are the first posted ones
  pub record HandedUp : Type 0 where
    pub some : 1 ≤ t.packet.count
    pub few : t.packet.count ≤ packet_slots
    pub within : t.packet.count ≤ q.shared.posted
    pub accepted : lent_ok q (length ring) (length list) ≡ true
    pub complete : Complete q.buffer 0 (take t.packet.count (posted_slots q.shared ring list))
    pub is : t ≡ record { answer = done; queue = advanced q t.packet.count; packet = packet_of (take t.packet.count (posted_slots q.shared ring list)) }

  -- slot by slot: the address that the list keeps for it, its length, 0 past the slots, and the sum of the lengths
  pub record Told : Type 0 where
    pub slot_address : (i : ℕ) → i < t.packet.count → get_or t.packet.addresses i 0 ≡ get_or list (slot_of q.shared i) 0
    pub slot_length : (i : ℕ) → i < t.packet.count → get_or t.packet.lengths i 0 ≡ length_of (slot_in ring list (slot_of q.shared i)).words
    pub address_past : (i : ℕ) → t.packet.count ≤ i → get_or t.packet.addresses i 0 ≡ 0
    pub length_past : (i : ℕ) → t.packet.count ≤ i → get_or t.packet.lengths i 0 ≡ 0
    pub total_is : t.packet.total ≡ sum (lengths_of (take t.packet.count (posted_slots q.shared ring list)))
