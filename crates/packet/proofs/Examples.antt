-- Numbers on both sides of a limit that the paper has no example for, by the checks of a packet to be sent.
-- Assumes nothing.
use Rattle.std.proofs.Common.{◌≡◌, ℕ, ◌^◌, ◌-◌, false, [], ◌∷◌, Err, refl}
use Rattle.rules.specs.Rules.{all_below, Answer, done, answer_of}
use Rattle.rules.specs.declared.Refusal.TheVariants.{WrongAddress, WrongPieces}
use Rattle.segments.specs.Touch.{start_of}
use Rattle.request.specs.declared.IpKind.TheVariants.{None as NoIp}
use Rattle.request.specs.declared.L4Kind.TheVariants.{None as NoL4}
use Rattle.request.specs.declared.Request.{Request}
use Rattle.pieces.specs.Pieces.{pieces_ok, addresses_ok}
use Rattle.offload.specs.Offload.{headers_ok, segmentation_ok, request_ok}
use Rattle.packet.specs.Packet.{packet_checks}

abbrev plain : Request
plain =
    record { ip = NoIp; l4 = NoL4; mac_length = 0; ip_length = 0; l4_length = 0; vlan = false; tag = 0; segmented = false; mss = 0; tlen = 0 }

-- a plain send of one piece, of a queue whose maximum frame is 1,518
abbrev answer : ℕ → ℕ → Answer
answer address length = answer_of (packet_checks (address ∷ []) (length ∷ []) 1518 plain)

-- the maximum frame passes, one byte more gives 6
pub frame : (answer 4096 1518 ≡ done) × (answer 4096 1519 ≡ Err WrongPieces)
unfolding pieces_ok addresses_ok headers_ok segmentation_ok request_ok all_below start_of
frame = (refl, refl)

-- a piece that ends at the last byte passes, one that passes it gives 2
pub last_byte : (answer (2 ^ 64 - 60) 60 ≡ done) × (answer (2 ^ 64 - 59) 60 ≡ Err WrongAddress)
unfolding pieces_ok addresses_ok headers_ok segmentation_ok request_ok all_below start_of
last_byte = (refl, refl)
