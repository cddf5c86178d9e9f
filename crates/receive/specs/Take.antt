-- Take (01, "Receiving"): its checks in their order, and what it returns.
-- Assumes nothing.
use Rattle.rules.specs.declared.Refusal.TheVariants.{WrongRecord}
use Rattle.std.specs.Prelude.{ℕ, Err, not, cond, List, [], ◌∷◌, length, replicate}
use Rattle.rules.specs.Rules.{Check, ◌when◌, done}
use Rattle.ring.specs.Queue as Ring
use Rattle.writeback.specs.WriteBack.{write_back_of, no_write_back}
use Rattle.scan.specs.Slots.{Slot, posted_slots}
use Rattle.scan.specs.Scan.{packet_slots, Look, refuse, whole, scan, slot_checks}
use Rattle.scan.specs.Told.{sum, padded, addresses_of, lengths_of, last_words}
use Rattle.receive.specs.declared.RxQueue.{RxQueue}
use Rattle.receive.specs.declared.Packet.{Packet}
use Rattle.receive.specs.declared.Taken.{Taken}
use Rattle.receive.specs.Queue.{lent_ok, moved_to}

-- the checks in their order: 1, then the slots
unfoldable pub look : RxQueue → List ℕ → List ℕ → Look
look q ring list =
    cond (not (lent_ok q (length ring) (length list))) (refuse WrongRecord)
    (scan q.buffer 0 (posted_slots q.shared ring list))

-- the same as checks in their order, for the exact cause of each number
abbrev pub take_checks : RxQueue → List ℕ → List ℕ → List Check
take_checks q ring list = 1 when not (lent_ok q (length ring) (length list)) ∷ slot_checks q.buffer 0 (posted_slots q.shared ring list)

-- ---- what take tells of a packet's slots

-- the slot count, the total length, each slot's posted address and length, and the last slot's fields
unfoldable pub packet_of : List Slot → Packet
packet_of p =
    record {
      count = length p;
      total = sum (lengths_of p);
      addresses = padded (addresses_of p);
      lengths = padded (lengths_of p);
      last = write_back_of (last_words p);
    }

-- zeros in all fields: what a refusal gives for a packet
abbrev pub no_packet : Packet
no_packet =
    record {
      count = 0;
      total = 0;
      addresses = replicate packet_slots 0;
      lengths = replicate packet_slots 0;
      last = no_write_back;
    }

-- head moves on by a count, posted falls by it, and so many slots more are handed back
abbrev pub advanced : RxQueue → ℕ → RxQueue
advanced q n = moved_to q (Ring.advanced q.shared n)

-- a refusal returns the record as it came and the packet of no slots, which is `no_packet`
unfoldable pub take_by : Look → RxQueue → Taken
take_by (refuse r) q = record { answer = Err r; queue = q; packet = packet_of [] }
take_by (whole p) q = record { answer = done; queue = advanced q (length p); packet = packet_of p }

unfoldable pub take_of : RxQueue → List ℕ → List ℕ → Taken
take_of q ring list = take_by (look q ring list) q
