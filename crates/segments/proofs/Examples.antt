-- A piece that holds both header and payload counts once.
-- Assumes nothing.
use Rattle.std.proofs.Common.{◌≡◌, refl, ◌∷◌, replicate}
use Rattle.segments.specs.Touch.{start_of, count_below, touched}

-- the first piece holds the header and one byte of payload: for segment 0 both, for segment 1 the header alone
pub both_0 : touched (55 ∷ replicate 2 1460) 54 1460 2921 0 ≡ 2
unfolding count_below start_of
both_0 = refl

pub both_1 : touched (55 ∷ replicate 2 1460) 54 1460 2921 1 ≡ 3
unfolding count_below start_of
both_1 = refl
