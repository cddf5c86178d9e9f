-- A loop over a list, from front to end: a fold's next step. Assumes nothing.
use Rattle.std.proofs.Common.{ℕ, ◌+◌, ◌<◌, ◌≡◌, refl, Bool, true, false, ◌&&◌, List, length, get_or, drop, arith, add-one, drop-cons}
use mathlib.Core.List.{foldl}

module _ {A B : Type 0} (f : B → A → B) (b : B) (l : List A) (i : ℕ) where
  -- one element more is folded in
  pub fold_next : (d : A) → i < length l → foldl f b (drop i l) ≡ foldl f (f b (get_or l i d)) (drop (i + 1) l)
  fold_next d h = rw (add-one, drop-cons l i d h)

-- the two sides of a test of two parts
pub and_left : (a b : Bool) → (a && b) ≡ true → a ≡ true
and_left true b h = refl
and_left false b h = h

pub and_right : (a b : Bool) → (a && b) ≡ true → b ≡ true
and_right true b h = h
and_right false b h = absurd (let z : ◌≡◌ {A = ℕ} 0 1 = cc in omega arith)
