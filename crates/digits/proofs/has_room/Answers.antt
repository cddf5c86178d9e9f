-- `digits::has_room` meets its contract. Assumes nothing.
use Rattle.std.proofs.Common.{arith}
use Rattle.digits.proofs.Places.{fits_within}
use Rattle.digits.proofs.has_room.Goals as goal

pub returns-then-at-long : goal.returns-then-at-long
returns-then-at-long c = fits_within _ _ _ (omega arith)
