-- What the contract of the walk over the pieces asks. No public contract cites this.
-- Assumes nothing.
use Rattle.std.specs.Prelude.{ℕ, ◌≤◌, List, length}
use Rattle.pieces.specs.Pieces.{most_pieces}

-- an address for each length, and few enough of them that their sum is small
pub record Walkable (addresses lengths : List ℕ) : Type 0 where
  pub paired : length lengths ≤ length addresses
  pub few : length lengths ≤ most_pieces
