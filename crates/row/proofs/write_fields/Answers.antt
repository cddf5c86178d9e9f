-- `row::write_fields` meets its contract. The numbers written and those left are the whole row (`Written`). Assumes nothing.
use Rattle.std.proofs.Common.{arith}
use Rattle.row.proofs.Printing.{none_written, room_for, number_written, room_behind, row_written}
use Rattle.row.proofs.write_fields.Goals as goal

pub loop-number-init : goal.loop-number-init
loop-number-init c = none_written

pub bounds-out-place : goal.bounds-out-place
bounds-out-place c = omega (arith, room_for c.requires c.loop-number.invariant (omega arith))

pub loop-number-preserved : goal.loop-number-preserved
loop-number-preserved c = number_written c.requires c.loop-number.invariant (omega arith) c.put_number-place.ensures

pub bounds-out-place-2 : goal.bounds-out-place-2
bounds-out-place-2 c = room_behind c.requires c.loop-number.invariant (omega arith)

pub overflow_add-result : goal.overflow_add-result
overflow_add-result c = omega (arith, room_behind c.requires c.loop-number.invariant (omega arith))

pub returns : goal.returns
returns c = row_written c.requires c.loop-number.invariant (omega arith)
