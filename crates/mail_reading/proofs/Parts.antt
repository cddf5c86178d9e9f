-- Where a message lies: the bytes of a part, and the very place.
-- Assumes nothing.
use Rattle.std.proofs.Common.{ℕ, ◌+◌, ◌*◌, ◌≤◌, ◌≡◌, ◌∙◌, true, false, List, [], zero-add, arith, le-leb, length, Bor}
use Rattle.slots.proofs.Pieces.{read_part}
use Rattle.element.specs.declared.Element.{Element}
use Rattle.element.specs.Element.{cookie_at}
use Rattle.mail_reading.specs.Reading.{has_buffer, reading_of, no_reading}
use Rattle.mail_reading.specs.Part.{PartIs, InBuffer, InElement}

module _ (ring buffer p : Bor (List ℕ)) where
  -- a refusal has an empty part
  pub none_read : PartIs ring buffer no_reading p → p.now ≡ []
  none_read i = rw (le-leb 0 (length ring.now) (omega arith)) at i.bytes

  module _ (head : ℕ) (e : Element) (i : PartIs ring buffer (reading_of head e) p) where
    -- with BUF the first bytes of the buffer, where they lie
    pub in_buffer : has_buffer e ≡ true → e.length ≤ length buffer.now → InBuffer buffer e.length p
    unfolding reading_of
    in_buffer b l = rw (b, le-leb (0 + e.length) (length buffer.now) (rw zero-add l)) at i

    -- without it the cookie of the element, where it lies
    pub in_element : has_buffer e ≡ false → 32 * head + 16 ≤ length ring.now → InElement ring head p
    unfolding reading_of
    in_element b l = rw (b, le-leb (32 * head + 8 + 8) (length ring.now) (omega arith)) at i

-- which are its 8 cookie bytes as they stand
pub cookie_bytes : (ring p : Bor (List ℕ)) (head : ℕ) → InElement ring head p → 32 * head + 16 ≤ length ring.now → p.now ≡ cookie_at ring.now head
cookie_bytes ring p head i l = i.bytes ∙ read_part ring.now (32 * head + 8) 8 (omega arith)
