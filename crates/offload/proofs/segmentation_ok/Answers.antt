-- `offload::segmentation_ok` meets its contract: a segmented send, and a plain one.
-- Assumes nothing.
use Rattle.std.proofs.Common.{◌∙◌}
use Rattle.offload.specs.Offload.{segmentation_ok}
use Rattle.offload.proofs.Same.{checksum, tcp}
use Rattle.offload.proofs.segmentation_ok.Goals as goal

pub returns-then-request : goal.returns-then-request
unfolding segmentation_ok
returns-then-request c =
    let q = c.args.request in
    rw (c.if-request.true, c.eq.ensures ∙ tcp q.l4, c.eq-then-request.ensures, c.eq-then-request-2.ensures, checksum q.ip, c.header_within.ensures, c.mss_ok.ensures)

pub returns-else-request : goal.returns-else-request
unfolding segmentation_ok
returns-else-request c = rw c.if-request.false
