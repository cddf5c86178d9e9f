-- The sum of a list as far as a loop has come, whatever the width of its numbers. Assumes nothing.
use Rattle.std.proofs.Common.{ℕ, ◌+◌, ◌≤◌, ◌<◌, ◌≡◌, refl, sym, ap, ◌∙◌, List, [], ◌∷◌, map, length, get_or, drop, arith}
use mathlib.Core.List.{foldl}
use Rattle.sum.specs.Sums.{mixed, sum_of}
use Rattle.decimal.proofs.Folds.{fold_next}

-- the sum of the first i numbers, taken on over the rest, is the whole sum
pub record Sofar (xs : List ℕ) (h i : ℕ) : Type 0 where
  pub within : i ≤ length xs
  pub whole : foldl mixed h (drop i xs) ≡ sum_of xs

module _ {xs : List ℕ} {h i : ℕ} (s : Sofar xs h i) where
  pub next : {r : ℕ} → i < length xs → r ≡ mixed h (get_or xs i 0) → Sofar xs r (i + 1)
  next {r} l e = record { within = omega arith; whole = rw e (sym (fold_next mixed h xs i 0 l) ∙ s.whole) }

-- numbers that are their own values: the sum of their values is the list's
pub sum_plain : (xs : List ℕ) → sum_of (map (λ (x : ℕ). x) xs) ≡ sum_of xs
sum_plain xs = ap sum_of (plain xs)
  where
    plain : (ys : List ℕ) → map (λ (x : ℕ). x) ys ≡ ys
    plain [] = refl
    plain (y ∷ ys) = ap (λ (zs : List ℕ). y ∷ zs) (plain ys)
