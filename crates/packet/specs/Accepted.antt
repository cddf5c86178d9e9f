-- What is known of a send whose own checks have passed: facts on numbers.
-- Assumes nothing.
use Rattle.std.specs.Prelude.{ℕ, ◌+◌, ◌^◌, ◌≤◌, ◌<◌, ◌≡◌, List, length, get_or}
use Rattle.request.specs.declared.Request.{Request}
use Rattle.request.specs.Sound.{most_length, Sound}
use Rattle.pieces.specs.Pieces.{most_pieces}

pub record Accepted (addresses lengths : List ℕ) (maximum : ℕ) (q : Request) : Type 0 where
  pub paired : length addresses ≡ length lengths
  pub some : 1 ≤ length lengths
  pub few : length lengths ≤ most_pieces
  pub each : (i : ℕ) → i < length lengths → (1 ≤ get_or lengths i 0) × (get_or lengths i 0 ≤ most_length)
  pub inside : (i : ℕ) → i < length lengths → (1 ≤ get_or addresses i 0) × (get_or addresses i 0 + get_or lengths i 0 ≤ 2 ^ 64)
  pub sound : Sound maximum q
