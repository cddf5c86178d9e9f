-- `Ring::look` meets its contract: each way through the code is one case of what is seen.
-- Assumes nothing.
use Rattle.std.proofs.Common.{sym, ◌∙◌, arith}
use Rattle.mail_ring.proofs.Record.{lent}
use Rattle.mail_ring.proofs.Looks.{not_lent, none_posted, not_done, is_done}
use Rattle.mail_ring.proofs.Ring.look.Goals as goal

pub returns-then-not-lent_ok : goal.returns-then-not-lent_ok
returns-then-not-lent_ok c = c.unseen.ensures ∙ not_lent _ _ _ (sym c.lent_ok.ensures ∙ c.if-not-lent_ok.true)

pub returns-then-self-eq0 : goal.returns-then-self-eq0
returns-then-self-eq0 c =
    let l = sym c.lent_ok.ensures ∙ c.if-not-lent_ok.false in
    c.unseen-then-self-eq0.ensures ∙ none_posted _ _ _ l c.if-self-eq0.true

pub read-element-requires : goal.read-element-requires
read-element-requires c = omega (arith, lent _ _ _ (sym c.lent_ok.ensures ∙ c.if-not-lent_ok.false))

pub bounds-list-head : goal.bounds-list-head
bounds-list-head c = omega (arith, lent _ _ _ (sym c.lent_ok.ensures ∙ c.if-not-lent_ok.false))

pub returns-then-dd : goal.returns-then-dd
returns-then-dd c =
    let e = c.read-element.ensures in
    let l = sym c.lent_ok.ensures ∙ c.if-not-lent_ok.false in
    rw e (is_done _ _ _ l c.if-self-eq0.false (rw e at (sym c.dd.ensures ∙ c.if-dd.true)))

pub returns-else-dd : goal.returns-else-dd
returns-else-dd c =
    let e = c.read-element.ensures in
    let l = sym c.lent_ok.ensures ∙ c.if-not-lent_ok.false in
    c.unseen-else-dd.ensures ∙ not_done _ _ _ l c.if-self-eq0.false (rw e at (sym c.dd.ensures ∙ c.if-dd.false))
