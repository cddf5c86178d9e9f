-- `sum::sum_of` meets its contract. Assumes nothing.
use Rattle.std.proofs.Common.{◌≡◌, ◌<◌, map, take, length, get_or, sym, ap, ◌∙◌, rules}
use Rattle.std.proofs.lemmas.List.{get_or-map, length-map}
use Rattle.sum.specs.Sums.{mixed}
use Rattle.sum.proofs.Sofar.{next}
use Rattle.sum.proofs.sum_of.Goals as goal

pub loop-x-preserved : goal.loop-x-preserved
loop-x-preserved g c =
    let v = g.T.Summand.value in
    let part = take c.min.result c.args.xs.now in
    let i = c.loop-x.x-index in
    let x = c.x-item.result in
    let here : x ≡ get_or part i x = search rules in
    let e : get_or (map v part) i 0 ≡ v x = get_or-map v part i x 0 c.loop-x-test.true ∙ ap v (sym here) in
    let l : i < length (map v part) = rw (length-map part v) c.loop-x-test.true in
    next c.loop-x.invariant l (c.mixed_into-h.ensures ∙ ap (mixed c.loop-x.h) (sym e))
