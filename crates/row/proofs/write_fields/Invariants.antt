-- `row::write_fields` meets its contract. The numbers written and those left are the whole row (`Written`). Assumes nothing.
use Rattle.row.proofs.Printing.{Written}
use Rattle.row.proofs.write_fields.Given as goal

abbrev pub invariant-loop-number : goal.invariant-loop-number
invariant-loop-number l = Written l.initial.out l.at l.numbers l.out l.place l.number-index
