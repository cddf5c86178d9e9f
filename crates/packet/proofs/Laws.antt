-- What the tests of 6 and 7 say of a segmented send: its segments can be looked at.
-- Assumes nothing.
use Rattle.std.proofs.Common.{◌≡◌, ℕ, true, List, arith}
use Rattle.request.specs.declared.Request.{Request}
use Rattle.pieces.specs.Pieces.{pieces_ok}
use Rattle.pieces.proofs.Laws.{pieces_are, pieces_whole}
use Rattle.offload.specs.Offload.{request_ok}
use Rattle.offload.proofs.Laws.{segmented_is, request_is}
use Rattle.packet.specs.Steps.{Segmentable}

pub segmentable : (addresses lengths : List ℕ) (maximum : ℕ) (q : Request) → pieces_ok addresses lengths maximum q ≡ true → request_ok lengths maximum q ≡ true → Segmentable lengths q
segmentable addresses lengths maximum q p e =
    let c = pieces_are addresses lengths maximum q p in
    let u = (request_is lengths maximum q e).units in
    record {
      header_fits = omega arith;
      checked = λ s.
          let g = segmented_is lengths maximum q e s in
          record { whole = pieces_whole addresses lengths maximum q p s; small = omega arith; each = λ i l. (c.each i l).0; within = g.within; spaced = omega arith };
    }
