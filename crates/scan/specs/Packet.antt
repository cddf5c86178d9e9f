-- A whole packet in the words of 02 ("A full packet followed by an empty slot"): one to five slots with data, then at most one of length 0, last.
-- Assumes nothing.
use Rattle.std.specs.Prelude.{ℕ, ◌+◌, ◌≤◌, ◌≡◌, true, false, List, [], ◌∷◌, ◌++◌, length}
use Rattle.rules.specs.Rules.{within}
use Rattle.places.specs.Words.{dd, eop, length_of}
use Rattle.scan.specs.Slots.{Slot}
use Rattle.scan.specs.Scan.{data_slots}

-- a slot with data has 1 byte to the buffer size, an empty one none; and one that the device has written has DD
abbrev pub HasData : ℕ → Slot → Type 0
HasData buffer s = within 1 buffer (length_of s.words) ≡ true

abbrev pub IsEmpty : Slot → Type 0
IsEmpty s = length_of s.words ≡ 0

abbrev pub IsWritten : Slot → Type 0
IsWritten s = dd s.words ≡ true

-- what holds of each slot
abbrev pub Each : (Slot → Type 0) → List Slot → Type 0
Each P [] = Unit {0}
Each P (s ∷ p) = P s × Each P p

-- only the last has EOP
abbrev pub LastEnds : List Slot → Type 0
LastEnds [] = ⊥
LastEnds (s ∷ []) = eop s.words ≡ true
LastEnds (s ∷ (t ∷ r)) = (eop s.words ≡ false) × LastEnds (t ∷ r)

-- the slots that come, k slots with data of the packet passed
pub record DataThenEmpty (buffer k : ℕ) (p : List Slot) : Type 0 where
  pub full : List Slot
  pub empty : List Slot
  pub are : p ≡ full ++ empty
  pub one_or_more : 1 ≤ k + length full
  pub up_to_five : k + length full ≤ data_slots
  pub at_most_one : length empty ≤ 1
  pub with_data : Each (HasData buffer) full
  pub without : Each IsEmpty empty
  pub written : Each IsWritten p
  pub last_ends : LastEnds p
