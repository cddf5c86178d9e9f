-- The record of a mailbox ring, the part that the send and the receive ring share (02, "The mailbox"): size, head and posted.
-- Assumes nothing.
use Rattle.std.specs.Prelude.{ℕ, ◌+◌, ◌-◌, ◌*◌, Bool, ◌&&◌, eqb}
use Rattle.rules.specs.Rules.{within}
use Rattle.slots.specs.Slots.{slot_at}
use Rattle.ring.specs.Sizes.{place_ok}
use Rattle.element.specs.declared.Element.{Element}
use Rattle.mail_ring.specs.declared.Ring.{Ring}

-- 1 to 1,023 elements of 32 bytes
abbrev pub least_size : ℕ
least_size = 1

abbrev pub most_size : ℕ
most_size = 1023

-- an accepted record: the size, head below it, posted at most size - 1
unfoldable pub ring_ok : Ring → Bool
ring_ok r = within least_size most_size r.size && place_ok r.size r.head r.posted

-- and lent slices whose lengths are exactly those of the size: 32 bytes an element, and one number
unfoldable pub lent_ok : Ring → ℕ → ℕ → Bool
lent_ok r ring_length list_length = ring_ok r && (eqb ring_length (32 * r.size) && eqb list_length r.size)

abbrev pub empty_ring : ℕ → Ring
empty_ring size = record { size = size; head = 0; posted = 0 }

-- the slot behind the posted ones
abbrev pub tail_of : Ring → ℕ
tail_of r = slot_at r.head r.size r.posted

-- no element more may be posted
abbrev pub is_full : Ring → Bool
is_full r = eqb r.posted (r.size - 1)

-- one element more is posted, and the one at head is handed back
abbrev pub grown : Ring → Ring
grown r = record { size = r.size; head = r.head; posted = r.posted + 1 }

abbrev pub advanced : Ring → Ring
advanced r = record { size = r.size; head = slot_at r.head r.size 1; posted = r.posted - 1 }

-- what the companion list keeps of an element: its first four bytes as one number, flags low, opcode high
abbrev pub companion_of : Element → ℕ
companion_of e = e.flags + 65536 * e.opcode
