-- `Ring::ok` meets its contract: its test is the definition's.
-- Assumes nothing.
use Rattle.std.proofs.Common.{refl}
use Rattle.mail_ring.specs.Ring.{ring_ok}
use Rattle.mail_ring.proofs.Ring.ok.Goals as goal

pub returns : goal.returns
unfolding ring_ok
returns c = refl
