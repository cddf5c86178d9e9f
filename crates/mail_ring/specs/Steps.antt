-- What the functions of this crate ask of a caller, and what a store leaves. No public contract cites these.
-- Assumes nothing.
use Rattle.std.specs.Prelude.{ℕ, ◌+◌, ◌*◌, ◌≤◌, ◌<◌, ◌≡◌, List, set}
use Rattle.slots.specs.Memory.{store}
use Rattle.element.specs.Element.{element_bytes}
use Rattle.element.specs.declared.Element.{Element}
use Rattle.mail_ring.specs.declared.Ring.{Ring}
use Rattle.mail_ring.specs.Ring.{least_size, most_size, tail_of, grown, companion_of}

-- what an accepted record keeps, as facts
pub record Placed (r : Ring) : Type 0 where
  pub size_low : least_size ≤ r.size
  pub size_high : r.size ≤ most_size
  pub head_below : r.head < r.size
  pub posted_below : r.posted < r.size

-- and accepted lent slices with it
pub record Lent (r : Ring) (ring_length list_length : ℕ) : Type 0 where
  pub is : Placed r
  pub ring_long : ring_length ≡ 32 * r.size
  pub list_long : list_length ≡ r.size

-- what putting an element asks: there is room for it
pub record Room (r : Ring) (ring_length list_length : ℕ) : Type 0 where
  pub lent : Lent r ring_length list_length
  pub room : r.posted + 1 < r.size

-- what handing one back asks: there is one
pub record Waiting (r : Ring) : Type 0 where
  pub is : Placed r
  pub some : 0 < r.posted

-- the element stands at the tail, in the ring and in the list, and is counted
pub record PutAs (r : Ring) (ring list : List ℕ) (e : Element) (r' : Ring) (ring' list' : List ℕ) : Type 0 where
  pub record_is : r' ≡ grown r
  pub ring_is : ring' ≡ store 32 ring (tail_of r) (element_bytes e)
  pub list_is : list' ≡ set list (tail_of r) (companion_of e)
