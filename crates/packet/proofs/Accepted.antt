-- What a caller knows of a send whose own checks have passed.
-- Assumes nothing.
use Rattle.std.proofs.Common.{◌≡◌, ℕ, true, List}
use borrow.Author.Tests.{not-false}
use Rattle.rules.specs.Rules.{done, answer_of}
use Rattle.rules.proofs.Checks.{passed}
use Rattle.request.specs.declared.Request.{Request}
use Rattle.pieces.specs.Pieces.{pieces_ok, addresses_ok}
use Rattle.pieces.proofs.Laws.{pieces_are, addresses_each}
use Rattle.offload.specs.Offload.{request_ok}
use Rattle.offload.proofs.Laws.{request_is}
use Rattle.packet.specs.Packet.{packet_checks}
use Rattle.packet.specs.Accepted.{Accepted}

module _ (addresses lengths : List ℕ) (maximum : ℕ) (q : Request) where
  -- the tests of 6, 2 and 7 say yes
  pub record Passed : Type 0 where
    pub pieces : pieces_ok addresses lengths maximum q ≡ true
    pub addresses_right : addresses_ok addresses lengths ≡ true
    pub request : request_ok lengths maximum q ≡ true

  pub passes_all : answer_of (packet_checks addresses lengths maximum q) ≡ done → Passed
  passes_all e =
      let p = passed (packet_checks addresses lengths maximum q) tt e in
      record { pieces = not-false _ (p 0); addresses_right = not-false _ (p 1); request = not-false _ (p 2) }

  pub accepted : answer_of (packet_checks addresses lengths maximum q) ≡ done → Accepted addresses lengths maximum q
  accepted e =
      let p = passes_all e in
      let c = pieces_are addresses lengths maximum q p.pieces in
      record {
        paired = c.paired;
        some = c.some;
        few = c.few;
        each = c.each;
        inside = addresses_each addresses lengths p.addresses_right;
        sound = request_is lengths maximum q p.request;
      }
