-- What the contract of `crowds` asks. No public contract cites this.
-- Assumes nothing.
use Rattle.std.specs.Prelude.{ℕ, ◌<◌, ◌^◌, ◌≡◌, true, List}
use Rattle.segments.specs.Steps.{Checked}
use Rattle.request.specs.declared.Request.{Request}
use Rattle.request.specs.Request.{header_of}

-- what the checks before 8 have shown
pub record Segmentable (lengths : List ℕ) (q : Request) : Type 0 where
  pub header_fits : header_of q < 2 ^ 64
  pub checked : q.segmented ≡ true → Checked lengths (header_of q) q.mss q.tlen
