-- `offload::request_ok` meets its contract: the header is added up where its lengths are right.
-- Assumes nothing.
use Rattle.std.proofs.Common.{sym, ◌∙◌, arith}
use Rattle.offload.specs.Offload.{request_ok}
use Rattle.offload.proofs.Laws.{headers_are}
use Rattle.offload.proofs.request_ok.Goals as goal

-- the header's lengths, where they have passed
pub overflow_add-header : goal.overflow_add-header
overflow_add-header c = omega (arith, headers_are _ (sym c.headers_ok.ensures ∙ c.if-headers_ok.true))

pub overflow_add-header-then-headers_ok : goal.overflow_add-header-then-headers_ok
overflow_add-header-then-headers_ok c = omega (arith, headers_are _ (sym c.headers_ok.ensures ∙ c.if-headers_ok.true))

pub returns-then-headers_ok : goal.returns-then-headers_ok
unfolding request_ok
returns-then-headers_ok c =
    rw (sym c.headers_ok.ensures ∙ c.if-headers_ok.true, c.requires.is, c.segmentation_ok.ensures)

pub returns-else-headers_ok : goal.returns-else-headers_ok
unfolding request_ok
returns-else-headers_ok c = rw (sym c.headers_ok.ensures ∙ c.if-headers_ok.false)
