-- What the contracts of the functions inside a send ask and say. No public contract cites these.
-- Assumes nothing.
use Rattle.std.specs.Prelude.{ℕ, ◌+◌, ◌^◌, ◌≤◌, ◌<◌, ◌≡◌, List, length, get_or}
use Rattle.segments.specs.Touch.{header_pieces, start_of, total}

-- every total of pieces that are few and short enough is below this
abbrev pub sum_limit : ℕ
sum_limit = 2 ^ 32

-- the first n pieces can be added up
pub record Summed (ls : List ℕ) (n : ℕ) : Type 0 where
  pub upto : n ≤ length ls
  pub small : total ls < 2 ^ 64

-- what the checks before have shown of a segmented send
pub record Checked (ls : List ℕ) (header mss tlen : ℕ) : Type 0 where
  pub whole : total ls ≡ header + tlen
  pub small : total ls < sum_limit
  pub each : (i : ℕ) → i < length ls → 1 ≤ get_or ls i 0
  pub within : header ≤ start_of ls header_pieces
  pub spaced : 1 ≤ mss

-- exactly the first r pieces hold a header byte
pub record Headed (ls : List ℕ) (header r : ℕ) : Type 0 where
  pub few : r ≤ header_pieces
  pub inside : (i : ℕ) → i < r → start_of ls i < header
  pub past : header ≤ start_of ls r
