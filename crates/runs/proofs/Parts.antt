-- The pieces from one up to another, as a part of the list that is lent.
-- Assumes nothing.
use Rattle.std.proofs.Common.{ℕ, ◌≡◌, ◌+◌, ◌-◌, ◌<◌, List, length, get_or, take, drop, get_or-take, get_or-drop, length-take, ◌∙◌, arith}

-- piece k of the part
pub part_at : (ls : List ℕ) (from upto k : ℕ) → k < length (take (upto - from) (drop from ls)) → (k < upto - from) × (get_or (take (upto - from) (drop from ls)) k 0 ≡ get_or ls (from + k) 0)
part_at ls from upto k l =
    let h : k < upto - from = omega (arith, length-take (upto - from) (drop from ls)) in
    (h, get_or-take (upto - from) (drop from ls) k 0 h ∙ get_or-drop from ls k 0)
