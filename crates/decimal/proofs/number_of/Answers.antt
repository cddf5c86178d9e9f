-- `decimal::number_of` meets its contract. Assumes nothing.
use Rattle.decimal.specs.Numbers.{number_of}
use Rattle.decimal.proofs.number_of.Goals as goal

pub returns-then-word : goal.returns-then-word
unfolding number_of
returns-then-word c = rw (c.if-word.true, c.read.ensures)

pub returns-else-word : goal.returns-else-word
unfolding number_of
returns-else-word c = rw c.if-word.false
