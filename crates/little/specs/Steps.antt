-- What a read over the width says of its result. No public contract cites this.
-- Assumes nothing.
use Rattle.std.specs.Prelude.{ℕ, ◌^◌, ◌<◌, ◌≡◌, List}
use Rattle.slots.specs.Memory.{read_from}
use Rattle.little.specs.Little.{value_of}

-- r is what the n bytes from place i on say, and it fits in so many
pub record Says (memory : List ℕ) (i n r : ℕ) : Type 0 where
  pub is : r ≡ value_of (read_from memory i n)
  pub small : r < 256 ^ n
