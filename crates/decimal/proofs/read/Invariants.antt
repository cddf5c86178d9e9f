-- `decimal::read` meets its contract. What is read so far, taken on over the rest of the word, gives the whole. Assumes nothing.
use Rattle.std.proofs.Common.{◌≡◌, ◌^◌, ◌≤◌, ◌<◌, length, drop}
use Rattle.decimal.specs.Numbers.{read_behind}
use Rattle.decimal.proofs.read.Given as goal

abbrev pub invariant-loop-byte : goal.invariant-loop-byte
invariant-loop-byte l = (l.byte-index ≤ length l.word) × (l.sofar < 2 ^ 64) × (read_behind l.sofar (drop l.byte-index l.word) ≡ read_behind 0 l.word)
