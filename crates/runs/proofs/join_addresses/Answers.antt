-- `runs::join_addresses` meets its contract, by the laws of `Storing`.
-- Assumes nothing.
use Rattle.std.proofs.Common.{sym, ◌∙◌, arith}
use Rattle.runs.specs.Runs.{valid}
use Rattle.runs.proofs.Joined.{addresses_length, addresses_at}
use Rattle.runs.proofs.Storing.{storing_first, storing_run, storing_next, storing_done}
use Rattle.runs.proofs.join_addresses.Goals as goal

pub loop-r-init : goal.loop-r-init
loop-r-init c = storing_first _ _ _ _ c.requires

pub offset_bounds-addresses-at : goal.offset_bounds-addresses-at
offset_bounds-addresses-at c = omega (arith, storing_run c.loop-r.invariant (omega arith))

pub bounds-addresses-at : goal.bounds-addresses-at
bounds-addresses-at c = omega (arith, storing_run c.loop-r.invariant (omega arith))

pub overflow_add-at : goal.overflow_add-at
overflow_add-at c = omega (arith, storing_run c.loop-r.invariant (omega arith))

pub loop-r-preserved : goal.loop-r-preserved
loop-r-preserved c =
    let w = c.loop-r.invariant in
    storing_next w c.run_address.result (omega arith) (rw w.at_is at c.run_address.ensures ∙ sym (addresses_at _ _ valid c.loop-r.r (omega arith)))

pub returns : goal.returns
returns c = storing_done c.loop-r.invariant (addresses_length _ _ valid) (omega arith)
