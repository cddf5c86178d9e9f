-- `fill::put_pieces` meets its contract.
-- Assumes nothing.
use Rattle.fill.proofs.Pieces.{put_last}
use Rattle.fill.proofs.put_pieces.Goals as goal

pub returns : goal.returns
returns c =
    put_last c.args.request c.args.addresses.now c.args.lengths.now c.args.size c.args.start c.args.ring.now c.requires.some c.piece_word-alike.ensures c.put_leading-slot.ensures.stored c.put_leading-slot.ensures.behind.is c.piece_word-word.ensures c.put_slot.ensures
