-- `row::put_all` meets its contract. What is left of the room says whether the row fits. Assumes nothing.
use Rattle.std.proofs.Common.{length, ap, ◌∙◌, arith}
use lib.Seq.{length-sets}
use Rattle.row.specs.Rows.{row_of}
use Rattle.row.proofs.Printing.{put_whole, whole_put, none_put, row_whole, row_length}
use Rattle.row.proofs.put_all.Goals as goal

pub write_fields-requires : goal.write_fields-requires
write_fields-requires c =
    let a = c.args in
    let w = put_whole c.put_word-place.ensures (omega (arith, row_length a.name.now a.numbers.now)) in
    omega (arith, w.next_is, ap length w.text_is ∙ length-sets a.out.now a.at a.name.now, row_length a.name.now a.numbers.now)

pub returns-then-room_behind-gt0 : goal.returns-then-room_behind-gt0
returns-then-room_behind-gt0 c =
    let a = c.args in
    let w = put_whole c.put_word-place.ensures (omega (arith, row_length a.name.now a.numbers.now)) in
    whole_put (omega (arith, row_length a.name.now a.numbers.now)) (row_whole a.numbers.now w c.write_fields.ensures)

pub returns-else-room_behind-gt0 : goal.returns-else-room_behind-gt0
returns-else-room_behind-gt0 c =
    let a = c.args in
    none_put a.out.now a.at (row_of a.name.now a.numbers.now) (omega (arith, row_length a.name.now a.numbers.now))
