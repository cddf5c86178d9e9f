-- The numbers that a packet to be sent is refused with where it does not keep its rules (01, "Sending"; 6, 2, 7 and 8 of "Numbers that come back").
-- Assumes nothing.
use Rattle.std.specs.Prelude.{ℕ, Bool, not, ◌&&◌, List, [], ◌∷◌}
use Rattle.rules.specs.Rules.{Check, ◌when◌}
use Rattle.segments.specs.Touch.{is_crowded}
use Rattle.request.specs.declared.Request.{Request}
use Rattle.request.specs.Request.{header_of}
use Rattle.pieces.specs.Pieces.{pieces_ok, addresses_ok}
use Rattle.offload.specs.Offload.{request_ok}

-- some segment touches more than 8 pieces; a plain send has no segments
abbrev pub is_over : List ℕ → Request → Bool
is_over lengths q = q.segmented && is_crowded lengths (header_of q) q.mss q.tlen

-- the checks of a packet to be sent on its own, in their order: its pieces, their addresses, its request, its segments
abbrev pub packet_checks : List ℕ → List ℕ → ℕ → Request → List Check
packet_checks addresses lengths maximum q =
    6 when not (pieces_ok addresses lengths maximum q)
    ∷ 2 when not (addresses_ok addresses lengths)
    ∷ 7 when not (request_ok lengths maximum q)
    ∷ 8 when is_over lengths q
    ∷ []
