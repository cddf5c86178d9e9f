-- What an accepted record and accepted lent slices keep, as facts; what keeps a record accepted.
-- Assumes nothing.
use Rattle.std.proofs.Common.{ℕ, ◌+◌, ◌*◌, ◌-◌, ◌<◌, ◌≡◌, ◌≢◌, true, false, ◌&&◌, arith, lt-ltb, le-leb, ltb-true, eqb-true, ltb, eqb}
use borrow.Author.Tests.{eqb-false}
use Rattle.rules.specs.Rules.{within}
use Rattle.rules.proofs.Tests.{both, within_is}
use Rattle.slots.specs.Steps.{Step}
use Rattle.slots.proofs.Steps.{slot_below}
use Rattle.ring.specs.Sizes.{place_ok}
use Rattle.mail_ring.specs.declared.Ring.{Ring}
use Rattle.mail_ring.specs.Ring.{least_size, most_size, ring_ok, lent_ok, tail_of, is_full, grown, advanced}
use Rattle.mail_ring.specs.Steps.{Placed, Lent, Room}

-- the facts of the test, and back
pub placed : (r : Ring) → ring_ok r ≡ true → Placed r
unfolding ring_ok
placed r e =
    let l = both (within least_size most_size r.size) (place_ok r.size r.head r.posted) e in
    let w = within_is least_size most_size r.size l.0 in
    let p = both (ltb r.head r.size) (ltb r.posted r.size) l.1 in
    record { size_low = w.0; size_high = w.1; head_below = ltb-true _ _ p.0; posted_below = ltb-true _ _ p.1 }

pub is_placed : (r : Ring) → Placed r → ring_ok r ≡ true
unfolding ring_ok
is_placed r p =
    rw (le-leb least_size r.size p.size_low, le-leb r.size most_size p.size_high, lt-ltb r.head r.size p.head_below, lt-ltb r.posted r.size p.posted_below)

pub lent : (r : Ring) (ring_length list_length : ℕ) → lent_ok r ring_length list_length ≡ true → Lent r ring_length list_length
unfolding lent_ok
lent r ring_length list_length e =
    let a = both (ring_ok r) (eqb ring_length (32 * r.size) && eqb list_length r.size) e in
    let l = both (eqb ring_length (32 * r.size)) (eqb list_length r.size) a.1 in
    record { is = placed r a.0; ring_long = eqb-true _ _ l.0; list_long = eqb-true _ _ l.1 }

-- a ring that is not full has room
pub has_room : (r : Ring) (ring_length list_length : ℕ) → lent_ok r ring_length list_length ≡ true → is_full r ≡ false → Room r ring_length list_length
has_room r ring_length list_length e f =
    let l = lent r ring_length list_length e in
    let ne : r.posted ≢ r.size - 1 = eqb-false _ _ f in
    record { lent = l; room = omega (arith, l.is.posted_below, ne) }

-- what the step to a slot asks
pub tail_step : {r : Ring} → Placed r → Step r.head r.size r.posted
tail_step p = record { head_below = p.head_below; near = p.posted_below; size_high = omega (arith, p.size_high) }

pub tail_below : {r : Ring} → Placed r → tail_of r < r.size
tail_below {r} p = slot_below r.head r.size r.posted (omega (arith, p.size_low))

-- a record with one element more, and with one less, keeps the lines
pub grown_placed : (r : Ring) → Placed r → r.posted + 1 < r.size → Placed (grown r)
grown_placed r p room = record { size_low = p.size_low; size_high = p.size_high; head_below = p.head_below; posted_below = room }

pub advanced_placed : (r : Ring) → Placed r → Placed (advanced r)
advanced_placed r p =
    record {
      size_low = p.size_low;
      size_high = p.size_high;
      head_below = slot_below r.head r.size 1 (omega (arith, p.size_low));
      posted_below = omega (arith, p.posted_below);
    }
