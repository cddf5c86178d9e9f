-- What the contracts inside a send ask: what the checks before have shown. No public contract cites this.
-- Assumes nothing.
use Rattle.std.specs.Prelude.{ℕ, ◌<◌, ◌^◌, ◌≡◌, List}
use Rattle.segments.specs.Touch.{total}

-- the bytes of all pieces, added up before
pub record Totalled (lengths : List ℕ) (sum : ℕ) : Type 0 where
  pub is : sum ≡ total lengths
  pub small : total lengths < 2 ^ 64
