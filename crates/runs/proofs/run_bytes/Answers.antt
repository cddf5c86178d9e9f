-- `runs::run_bytes` meets its contract: `bytes` is the bytes of the pieces passed, from `from` on.
-- Assumes nothing.
use Rattle.std.proofs.Common.{ℕ, suc, ◌≡◌, ◌+◌, arith}
use Rattle.segments.proofs.Starts.{start_next, start_up}
use Rattle.runs.proofs.Parts.{part_at}
use Rattle.runs.proofs.run_bytes.Goals as goal

pub returns-else-l-bytes : goal.returns-else-l-bytes
returns-else-l-bytes c =
    let ls = c.args.lengths.now in
    let i : ℕ = c.args.from + c.loop-l.l-index in
    let p = part_at ls c.args.from c.args.upto c.loop-l.l-index c.loop-l-test.true in
    omega (arith, p, start_next ls i, start_up ls {i = suc i} c.args.upto (omega (arith, p)))

pub loop-l-preserved : goal.loop-l-preserved
loop-l-preserved c =
    let ls = c.args.lengths.now in
    let i : ℕ = c.args.from + c.loop-l.l-index in
    let p = part_at ls c.args.from c.args.upto c.loop-l.l-index c.loop-l-test.true in
    let next : c.args.from + (c.loop-l.l-index + 1) ≡ suc i = omega arith in
    rw (p.1, next) (omega arith, omega (arith, start_next ls i), omega arith)
