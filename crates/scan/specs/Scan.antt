-- The device's rules on a packet's slots, and what a scan of the posted slots sees (01, "Receiving"; 02, "A full packet followed by an empty slot").
-- Assumes nothing.
use Rattle.std.specs.Prelude.{ℕ, suc, ◌+◌, ◌≡◌, Bool, true, false, not, ◌&&◌, ◌||◌, cond, List, [], ◌∷◌, leb, ltb, eqb}
use Rattle.rules.specs.declared.Refusal.{Refusal}
use Rattle.rules.specs.declared.Refusal.TheVariants.{NotYet, Contradiction}
use Rattle.rules.specs.Rules.{Check, ◌when◌}
use Rattle.places.specs.Words.{Words, dd, eop, length_of}
use Rattle.scan.specs.Slots.{Slot}

-- ---- the device's rules

-- a packet is one to five slots with data, then at most one of length 0, which is its last (the dummy of Section 2.1.3): so it has at most six slots
abbrev pub data_slots : ℕ
data_slots = 5

abbrev pub packet_slots : ℕ
packet_slots = data_slots + 1

-- what the rules allow in a slot with k slots of its packet before it: below the sixth at most the buffer size, and 1 byte or more, or 0 with EOP and
-- not first; in the sixth 0 with EOP
unfoldable pub allowed : ℕ → ℕ → Words → Bool
allowed buffer k x =
    cond (ltb k data_slots)
    (leb (length_of x) buffer && (leb 1 (length_of x) || (eop x && leb 1 k)))
    (eqb (length_of x) 0 && eop x)

-- and so what the device may write there
unfoldable pub writable : ℕ → ℕ → Words → Bool
writable buffer k x = dd x && allowed buffer k x

-- a packet as the rules have it, k slots of the packet passed: each slot is one that the device may write at its place, and only the last has EOP
pub data Complete (buffer : ℕ) : ℕ → List Slot → Type 0 where
  ends : {k : ℕ} {s : Slot} → writable buffer k s.words ≡ true → eop s.words ≡ true → Complete buffer k (s ∷ [])
  goes : {k : ℕ} {s : Slot} {p : List Slot} → writable buffer k s.words ≡ true → eop s.words ≡ false → Complete buffer (suc k) p → Complete buffer k (s ∷ p)

-- ---- what a scan sees: a refusal, or the slots of a whole packet

pub data Look : Type 0 where
  refuse : Refusal → Look
  whole : List Slot → Look

-- a slot before those seen
unfoldable pub and_then : Slot → Look → Look
and_then s (refuse r) = refuse r
and_then s (whole p) = whole (s ∷ p)

-- the posted slots from head upward, k slots of the packet passed: past the posted ones or DD clear, 4; what the rules do not allow at that
-- place, 5; with EOP the packet is complete
unfoldable pub scan : ℕ → ℕ → List Slot → Look
scan buffer k [] = refuse NotYet
scan buffer k (s ∷ rest) =
    cond (not (dd s.words)) (refuse NotYet)
    (cond (not (allowed buffer k s.words)) (refuse Contradiction)
    (cond (eop s.words) (whole (s ∷ []))
    (and_then s (scan buffer (suc k) rest))))

-- a slot that a scan goes on behind: one that the device may write at its place, and not the last of its packet
unfoldable pub goes_on : ℕ → ℕ → Words → Bool
goes_on buffer k x = writable buffer k x && not (eop x)

-- how many slots a scan examines, those whose word 1 it reads: up to and including the one that completes or refuses, and none past the posted
unfoldable pub examined : ℕ → ℕ → List Slot → ℕ
examined buffer k [] = 0
examined buffer k (s ∷ rest) = suc (cond (goes_on buffer k s.words) (examined buffer (suc k) rest) 0)

-- the same as checks in their order, for the exact cause of each number: at each slot DD clear 4, what the rules do not allow there 5, EOP done;
-- past the posted ones 4
unfoldable pub slot_checks : ℕ → ℕ → List Slot → List Check
slot_checks buffer k [] = 4 when true ∷ []
slot_checks buffer k (s ∷ rest) =
    4 when not (dd s.words)
    ∷ 5 when not (allowed buffer k s.words)
    ∷ 0 when eop s.words
    ∷ slot_checks buffer (suc k) rest
