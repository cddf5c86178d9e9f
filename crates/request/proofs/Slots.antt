-- The slots that a send needs.
-- Assumes nothing.
use Rattle.std.proofs.Common.{ℕ, ◌+◌, ◌≤◌, ◌≡◌, Bool, true, false, cond, arith}
use Rattle.request.specs.declared.Request.{Request}
use Rattle.request.specs.Request.{slots_of}

-- a send needs a slot a piece, and at most one more
pub slots_are : (q : Request) (n : ℕ) → (n ≤ slots_of q n) × (slots_of q n ≤ n + 1)
slots_are q n = go q.segmented
  where
    go : (b : Bool) → (n ≤ cond b (n + 1) n) × (cond b (n + 1) n ≤ n + 1)
    go true = (omega arith, omega arith)
    go false = (omega arith, omega arith)

-- those of the pieces come on top of the one before them, if there is one
pub slots_sum : (q : Request) (n : ℕ) → slots_of q 0 + n ≡ slots_of q n
slots_sum q n = go q.segmented
  where
    go : (b : Bool) → cond b (0 + 1) 0 + n ≡ cond b (n + 1) n
    go true = omega arith
    go false = omega arith
