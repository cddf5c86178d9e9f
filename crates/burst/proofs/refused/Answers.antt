-- `refused` meets its contract.
-- Assumes nothing.
use Rattle.std.proofs.Common.{refl}
use Rattle.burst.specs.Polls.{found_by}
use Rattle.burst.proofs.refused.Goals as goal

pub returns : goal.returns
unfolding found_by
returns c = refl
