-- What the functions of this crate ask of a caller. No public contract cites these.
-- Assumes nothing.
use Rattle.std.specs.Prelude.{◌≡◌, ℕ, ◌+◌, ◌*◌, ◌<◌, ◌≤◌, Bool, true}
use Rattle.ring.specs.declared.Queue.{Queue}
use Rattle.ring.specs.Sizes.{most_count}
use Rattle.ring.specs.Queue.{ever_posted, Shared}

-- what reading a ring's slots asks: a record that keeps the shared lines, and a ring of two numbers a slot
pub record Reads (q : Queue) (ring_length : ℕ) : Type 0 where
  pub is : Shared q
  pub ring_long : ring_length ≡ 2 * q.size

-- and with them a list of one number a slot
pub record Lent (q : Queue) (ring_length list_length : ℕ) : Type 0 where
  pub reads : Reads q ring_length
  pub list_long : list_length ≡ q.size

-- what moving on by n slots asks: they are posted
pub record Advance (q : Queue) (n : ℕ) : Type 0 where
  pub is : Shared q
  pub posted_all : n ≤ q.posted

-- what posting n slots more asks: there is room for them, on the ring and in the count
pub record Grow (q : Queue) (n : ℕ) : Type 0 where
  pub is : Shared q
  pub room : q.posted + n < q.size
  pub count_room : ever_posted q + n ≤ most_count

-- what a number asked of a record asks: where the record is judged to be accepted, it keeps the shared lines
abbrev pub Judged : Queue → Bool → Type 0
Judged q ok = ok ≡ true → Shared q
