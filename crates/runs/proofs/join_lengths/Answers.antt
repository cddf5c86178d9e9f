-- `runs::join_lengths` meets its contract, by the laws of `Storing`.
-- Assumes nothing.
use Rattle.std.proofs.Common.{◌∙◌, arith}
use Rattle.runs.specs.Runs.{joined}
use Rattle.runs.proofs.Joined.{joined_length, noted_length}
use Rattle.runs.proofs.Storing.{storing_first, storing_run, storing_next, storing_done, storing_bytes}
use Rattle.runs.proofs.join_lengths.Goals as goal

pub loop-r-init : goal.loop-r-init
loop-r-init c = storing_first _ _ _ _ c.requires

pub overflow_add-next : goal.overflow_add-next
overflow_add-next c = omega (arith, storing_run c.loop-r.invariant (omega arith))

pub run_bytes-requires : goal.run_bytes-requires
run_bytes-requires c = (omega arith, (storing_run c.loop-r.invariant (omega arith)).1)

pub loop-r-preserved : goal.loop-r-preserved
loop-r-preserved c =
    let w = c.loop-r.invariant in
    storing_next w c.run_bytes.result (omega arith) (storing_bytes _ w c.run_bytes.ensures)

pub returns : goal.returns
returns c = storing_done c.loop-r.invariant (noted_length (joined _ _) ∙ joined_length _ _) (omega arith)
