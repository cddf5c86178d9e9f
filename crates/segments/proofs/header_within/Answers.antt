-- `segments::header_within` meets its contract: a packet of fewer than three pieces ends within the first three. Assumes nothing.
use Rattle.std.proofs.Common.{ap, ◌∙◌, leb}
use Rattle.segments.specs.Touch.{header_pieces, start_of}
use Rattle.segments.proofs.Starts.{start_least}
use Rattle.segments.proofs.header_within.Goals as goal

pub returns : goal.returns
returns c = ap (leb _) (c.sum.ensures ∙ ap (start_of _) c.min.ensures ∙ start_least _ header_pieces)
