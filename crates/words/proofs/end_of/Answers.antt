-- `words::end_of` meets its contract. Assumes nothing.
use Rattle.words.proofs.Splits.{end_is}
use Rattle.words.proofs.end_of.Goals as goal

pub returns : goal.returns
returns c = rw (c.unwrap_or.ensures, c.find.ensures, c.min.ensures) (end_is c.args.mark c.args.text.now c.args.from)
