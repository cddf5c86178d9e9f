-- `feed::next_line` meets its contract. Assumes nothing.
use Rattle.std.proofs.Common.{length, lt-ltb, le-ltb}
use Rattle.feed.specs.Feeding.{next_of}
use Rattle.feed.proofs.next_line.Goals as goal

pub returns-then-at-held : goal.returns-then-at-held
unfolding next_of
returns-then-at-held c = rw (← c.first-held.ensures, ← c.line_end-at.ensures, lt-ltb c.line_end-at.result (length c.first-held.result.now) c.if-at-held.true)

pub returns-else-at-held : goal.returns-else-at-held
unfolding next_of
returns-else-at-held c = rw (← c.first-held.ensures, ← c.line_end-at.ensures, le-ltb c.line_end-at.result (length c.first-held.result.now) c.if-at-held.false)
