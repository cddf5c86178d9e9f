-- `segments::sum` meets its contract: the library's sum is the bytes of the pieces. Assumes nothing.
use Rattle.std.proofs.Common.{◌<◌, take, arith, rules}
use Rattle.std.specs.List.{sum}
use Rattle.std.proofs.iter.runs.Sources.{sums}
use Rattle.segments.proofs.Starts.{start_sum, start_up}
use Rattle.segments.proofs.sum.Goals as goal

pub sum-requires-clause-fits : goal.sum-requires-clause-fits
sum-requires-clause-fits c =
    let ls = c.args.lengths.now in
    let whole = start_up ls _ c.requires.upto in
    let few : sum (take c.args.n ls) < 18446744073709551616 = rw (start_sum ls c.args.n c.requires.upto) (omega (arith, c.requires.small, whole)) in
    search (rules, sums, few)

pub returns : goal.returns
returns c =
    let e = start_sum c.args.lengths.now c.args.n c.requires.upto in
    search (rules, e)
