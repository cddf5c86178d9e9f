-- What the pieces of a send must keep (01, "Sending"; 6 and 2 of "Numbers that come back").
-- Assumes nothing.
use Rattle.std.specs.Prelude.{ℕ, ◌+◌, Bool, not, ◌&&◌, cond, List, Option, Some, None, eqb, length, get_or}
use Rattle.rules.specs.Rules.{within, all_below}
use Rattle.rules.specs.Address.{address_wrong}
use Rattle.segments.specs.Touch.{total}
use Rattle.request.specs.declared.Request.{Request}
use Rattle.request.specs.Request.{header_of}
use Rattle.request.specs.Sound.{most_length}
use Rattle.pieces.specs.declared.Found.{Found}

-- the limits
abbrev pub plain_pieces : ℕ
plain_pieces = 8

abbrev pub most_pieces : ℕ
most_pieces = 4094

abbrev pub least_total : ℕ
least_total = 17

-- ---- 6

-- plain: 1 to 8 pieces; segmented: 1 to 4,094
abbrev pub most_pieces_of : Bool → ℕ
most_pieces_of segmented = cond segmented most_pieces plain_pieces

-- so many, and an address for each length
abbrev pub count_ok : List ℕ → List ℕ → Bool → Bool
count_ok addresses lengths segmented = eqb (length addresses) (length lengths) && within 1 (most_pieces_of segmented) (length lengths)

-- each length is 1 to 16,383
abbrev pub lengths_ok : List ℕ → Bool
lengths_ok lengths = all_below (length lengths) (λ i. within 1 most_length (get_or lengths i 0))

-- plain: total 17 to the maximum frame; segmented: total = header + TLEN
abbrev pub total_ok : ℕ → ℕ → Request → Bool
total_ok sum maximum q = cond q.segmented (eqb sum (header_of q + q.tlen)) (within least_total maximum sum)

unfoldable pub pieces_ok : List ℕ → List ℕ → ℕ → Request → Bool
pieces_ok addresses lengths maximum q =
    count_ok addresses lengths q.segmented && lengths_ok lengths && total_ok (total lengths) maximum q

-- ---- 2

-- no piece has a wrong address
unfoldable pub addresses_ok : List ℕ → List ℕ → Bool
addresses_ok addresses lengths = all_below (length lengths) (λ i. not (address_wrong (get_or addresses i 0) (get_or lengths i 0)))

-- ---- what one walk finds

-- pieces whose count and lengths are right have addresses and a total to speak of, and the total is right or not
abbrev pub found_if : Bool → List ℕ → List ℕ → ℕ → Request → Option Found
found_if counted addresses lengths maximum q =
    cond counted
    (Some (record { total_ok = total_ok (total lengths) maximum q; addresses_ok = addresses_ok addresses lengths; total = total lengths }))
    None

unfoldable pub found_of : List ℕ → List ℕ → ℕ → Request → Option Found
found_of addresses lengths maximum q = found_if (count_ok addresses lengths q.segmented && lengths_ok lengths) addresses lengths maximum q
