-- What the contracts of the functions inside a send ask, facts that an accepted send has shown, and say. No public contract cites these.
-- Assumes nothing.
use Rattle.std.specs.Prelude.{ℕ, ◌*◌, ◌^◌, ◌≤◌, ◌<◌, ◌≡◌, List, [], ◌∷◌, length, get_or}
use Rattle.std.specs.Int.Bits.{bit_or}
use Rattle.field.specs.Field.{word_of}
use Rattle.descriptor.specs.Words.{length_line}
use Rattle.slots.specs.Slots.{most_slots}
use Rattle.slots.specs.Memory.{store_run}
use Rattle.slots.specs.Steps.{SlotIs}

-- a ring of a size, a slot of it to begin at, and so many slots, less than a lap, to take
pub record Room (ring addresses lengths : List ℕ) (size start slots : ℕ) : Type 0 where
  pub ring_long : length ring ≡ 2 * size
  pub size_high : size ≤ most_slots
  pub start_below : start < size
  pub paired : length addresses ≡ length lengths
  pub some : 1 ≤ length lengths
  pub fewer : slots < size
  pub short : (i : ℕ) → i < length lengths → get_or lengths i 0 < 2 ^ 14

-- a piece before the last one: word 1 is what is alike on all of them, joined with the piece's length
abbrev pub leading_numbers : ℕ → List ℕ → List ℕ → ℕ → List ℕ
leading_numbers alike addresses lengths i = get_or addresses i 0 ∷ bit_or alike (word_of (length_line (get_or lengths i 0) ∷ [])) ∷ []

-- the first n slots of a row are stored from slot start on, and r is the slot behind them
pub record Filled (before after : List ℕ) (numbers : ℕ → List ℕ) (size start n r : ℕ) : Type 0 where
  pub stored : after ≡ store_run 2 size numbers before start n
  pub behind : SlotIs start size n r
