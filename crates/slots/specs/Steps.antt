-- What the step asks of a caller, and what it says of a slot number. No public contract cites these.
-- Assumes nothing.
use Rattle.std.specs.Prelude.{ℕ, ◌≤◌, ◌<◌, ◌≡◌}
use Rattle.slots.specs.Slots.{slot_at, most_slots}

-- what the step asks: head is a slot, and the distance is less than a lap
pub record Step (head size k : ℕ) : Type 0 where
  pub head_below : head < size
  pub near : k < size
  pub size_high : size ≤ most_slots

-- what it says of its result
pub record SlotIs (head size k r : ℕ) : Type 0 where
  pub is : r ≡ slot_at head size k
  pub below : r < size
  pub small : size ≤ most_slots
