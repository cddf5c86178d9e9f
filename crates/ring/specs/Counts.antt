-- The figures that a console shows of a queue, which are its record's two counts, and how they move (02, "A figure that moves on the console
-- page"). No contract cites this: it is what the calls' statements come to for whoever watches the counts.
-- Assumes nothing.
use Rattle.std.specs.Prelude.{◌≡◌, ℕ, ◌+◌}
use Rattle.ring.specs.declared.Queue.{Queue}
use Rattle.ring.specs.Queue.{ever_posted, ever_returned}

-- slots ever posted, and slots ever handed back
pub record Figures : Type 0 where
  pub posted : ℕ
  pub returned : ℕ

abbrev pub figures_of : Queue → Figures
figures_of q = record { posted = ever_posted q; returned = ever_returned q }

-- from one record to another so many slots were posted, and so many handed back
pub record Moved (q q' : Queue) (posted returned : ℕ) : Type 0 where
  pub posted_more : ever_posted q' ≡ ever_posted q + posted
  pub returned_more : ever_returned q' ≡ ever_returned q + returned
