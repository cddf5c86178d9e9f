-- What a length that is not wrong keeps.
-- Assumes nothing.
use Rattle.std.proofs.Common.{ℕ, ◌≤◌, ◌≡◌, Bool, false, not, ◌&&◌, [], ◌∷◌, ltb-false, ltb, eqb}
use Rattle.rules.proofs.Tests.{none}
use Rattle.mail_request.specs.Request.{most_length, length_wrong}

-- it is at most the longest
pub short : (buf : Bool) (n lent : ℕ) → length_wrong buf n lent ≡ false → n ≤ most_length
short buf n lent e = ltb-false _ _ (none (ltb lent n ∷ ltb most_length n ∷ (not buf && not (eqb n 0)) ∷ []) e 1)
