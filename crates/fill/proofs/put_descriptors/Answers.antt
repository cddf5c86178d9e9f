-- `fill::put_descriptors` meets its contract.
-- Assumes nothing.
use Rattle.fill.proofs.Pieces.{put_all}
use Rattle.fill.proofs.put_descriptors.Goals as goal

pub returns : goal.returns
returns c =
    put_all c.args.request c.args.addresses.now c.args.lengths.now c.args.size c.args.tail c.args.ring.now c.put_context-start.ensures.stored c.put_context-start.ensures.behind.is c.put_pieces.ensures
