-- `offload::headers_ok` meets its contract: IP none, and any other kind.
-- Assumes nothing.
use Rattle.std.proofs.Common.{sym, ◌∙◌}
use Rattle.offload.specs.Offload.{headers_ok}
use Rattle.offload.proofs.Same.{no_ip, no_l4}
use Rattle.offload.proofs.headers_ok.Goals as goal

pub returns-then-eq : goal.returns-then-eq
unfolding headers_ok
returns-then-eq c =
    let q = c.args.request in
    rw (sym (c.eq.ensures ∙ no_ip q.ip) ∙ c.if-eq.true, c.eq-then-eq.ensures ∙ no_l4 q.l4)

pub returns-else-eq : goal.returns-else-eq
unfolding headers_ok
returns-else-eq c =
    rw (sym (c.eq.ensures ∙ no_ip c.args.request.ip) ∙ c.if-eq.false, c.ip_length_ok.ensures, c.l4_length_ok.ensures)
