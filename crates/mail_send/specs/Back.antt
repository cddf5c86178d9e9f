-- A completion that comes back. No contract cites this: it is what the calls' statements come to.
-- Assumes nothing.
use Rattle.std.specs.Prelude.{ℕ, ◌+◌, ◌*◌, ◌≡◌, ◌≢◌, Bool, true, false, cond, List, length, get_or}
use Rattle.element.specs.declared.Element.{Element}
use Rattle.element.specs.Element.{element_at}
use Rattle.element.specs.Back.{done}
use Rattle.mail_ring.specs.Ring.{lent_ok, companion_of}
use Rattle.mail_reading.specs.declared.Reading.{Reading}
use Rattle.mail_send.specs.declared.SendRing.{SendRing}

-- the oldest element of a ring is e, as it was posted but for DD and CMP, and the companion list has it
pub record Completed (q : SendRing) (ring list : List ℕ) (e : Element) : Type 0 where
  pub lent : lent_ok q.shared (length ring) (length list) ≡ true
  pub some : q.shared.posted ≢ 0
  pub element_is : element_at ring q.shared.head ≡ done e
  pub companion_is : get_or list q.shared.head 0 ≡ companion_of e

-- what is read of it: no error, and the message where it was sent from
abbrev pub message_at : ℕ → Bool → ℕ → List ℕ → Reading
message_at head buf length cookie =
    record { error = false; value = 0; cookie = cookie; buf = buf; from = cond buf 0 (32 * head + 8); length = cond buf length 8 }
