-- `interrupt::read` meets its contract: each mask is 2 ^ width - 1, so it takes the remainder.
-- Assumes nothing.
use Rattle.field.proofs.Laws.{got}
use Rattle.interrupt.specs.Interrupt.{itr_indx_line, interval_line, sw_itr_indx_line, fields_of}
use Rattle.interrupt.proofs.read.Goals as goal

pub returns : goal.returns
unfolding fields_of
returns c = simp (c.flag.ensures, c.flag-2.ensures, c.flag-3.ensures, c.flag-4.ensures, c.flag-5.ensures, c.flag-6.ensures, got itr_indx_line, got interval_line, got sw_itr_indx_line)
