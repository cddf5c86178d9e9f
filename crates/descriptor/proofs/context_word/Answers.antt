-- `descriptor::context_word` meets its contract: its parts, joined by `|`, are the table's word.
-- Assumes nothing.
use Rattle.field.proofs.Laws.{or_table, masked, literal, done, ◌▹◌}
use Rattle.descriptor.specs.Words.{context_parts}
use Rattle.descriptor.proofs.context_word.Goals as goal

pub returns : goal.returns
returns c = or_table {ps = context_parts c.args.x} (literal ▹ literal ▹ masked tt ▹ masked tt ▹ done) tt
