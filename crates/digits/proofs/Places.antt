-- Bytes at a place of a text: whether they fit, and a run of stores, the last one first. Assumes nothing.
use Rattle.std.proofs.Common.{ℕ, suc, ◌+◌, ◌-◌, ◌≤◌, ◌≡◌, refl, ◌∙◌, Bool, true, false, List, [], ◌∷◌, ◌++◌, length, set, leb, arith, add-zero, le-leb, leb-true, leb-false}
use borrow.Author.Tests.{lt-leb}
use lib.Seq.{set_comm, sets}

-- so many bytes fit behind a place within the text
pub fits_within : (long at size : ℕ) → at ≤ long → leb size (long - at) ≡ leb (at + size) long
fits_within long at size h = go (leb (at + size) long) refl
  where
    go : (t : Bool) → leb (at + size) long ≡ t → leb size (long - at) ≡ t
    go true q = le-leb size (long - at) (omega (arith, leb-true (at + size) long q))
    go false q = lt-leb size (long - at) (omega (arith, leb-false (at + size) long q))

-- a run of stores, the last one first
pub sets_last : (l : List ℕ) (at : ℕ) (xs : List ℕ) (d : ℕ) → sets l at (xs ++ (d ∷ [])) ≡ sets (set l (at + length xs) d) at xs
sets_last l at [] d = rw add-zero
sets_last l at (x ∷ xs) d =
    let e : suc at + length xs ≡ at + suc (length xs) = omega arith in
    sets_last (set l at x) (suc at) xs d ∙ rw (e, set_comm l at (at + suc (length xs)) x d (λ q. omega arith))
