-- `feed::move_down` meets its contract. Assumes nothing.
use Rattle.feed.proofs.Moves.{moved}
use Rattle.feed.proofs.move_down.Goals as goal

pub returns : goal.returns
returns c = moved c.args.text.now c.copy_within.new.self c.args.from c.args.to c.min-end.result c.min-start.result c.min-end.ensures c.min-start.ensures c.copy_within.ensures.after
