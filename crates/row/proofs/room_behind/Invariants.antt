-- `row::room_behind` meets its contract. What is left, less the rest of the row, is the room less the whole row. Assumes nothing.
use Rattle.std.proofs.Common.{◌-◌, ◌≤◌, ◌≡◌, length, drop}
use Rattle.row.specs.Rows.{fields_of}
use Rattle.row.proofs.room_behind.Given as goal

abbrev pub invariant-loop-number : goal.invariant-loop-number
invariant-loop-number l = (l.number-index ≤ length l.numbers) × (l.left - length (fields_of (drop l.number-index l.numbers)) ≡ l.room - length (fields_of l.numbers))
