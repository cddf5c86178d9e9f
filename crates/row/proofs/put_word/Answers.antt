-- `row::put_word` meets its contract. Assumes nothing.
use Rattle.std.proofs.Common.{◌+◌, length, refl, leb-true}
use Rattle.row.proofs.Printing.{copied, whole_put}
use Rattle.row.proofs.put_word.Goals as goal

pub returns-then-has_room : goal.returns-then-has_room
returns-then-has_room c =
    let a = c.args in
    let h = leb-true (a.at + length a.word.now) (length a.out.now) (rw c.has_room.ensures at c.if-has_room.true) in
    whole_put h (record { next_is = refl; text_is = copied a.out.now a.at c.copy_from_slice.new.self a.word.now h c.copy_from_slice.ensures.after })
