-- `element::put` meets its contract: nine stores, each right behind the one before, are one.
-- Assumes nothing.
use Rattle.std.proofs.Common.{◌*◌, ◌≡◌, refl, rules, length}
use Rattle.little.specs.Little.{bytes_of}
use Rattle.slots.proofs.Pieces.{begin, then}
use Rattle.element.proofs.put.Goals as goal

pub returns : goal.returns
returns c =
    let a = c.args in
    let e = a.e in
    let eight : length e.cookie ≡ 8 = search rules in
    let head = then (bytes_of 2 e.value) 2 (then (bytes_of 2 e.length) 2 (then (bytes_of 2 e.opcode) 2 (begin a.ring.now (32 * a.slot) (bytes_of 2 e.flags) 2 c.put_number.ensures refl) c.put_number-2.ensures refl) c.put_number-3.ensures refl) c.put_number-4.ensures refl in
    let middle = then (bytes_of 4 e.param0) 4 (then e.cookie 8 head c.copy.ensures eight) c.put_number-5.ensures refl in
    (then (bytes_of 4 e.low) 4 (then (bytes_of 4 e.high) 4 (then (bytes_of 4 e.param1) 4 middle c.put_number-6.ensures refl) c.put_number-7.ensures refl) c.put_number-8.ensures refl).is
