-- The reader's steps, taken together, are the number that the word writes. Assumes nothing.
use Rattle.std.proofs.Common.{◌≡◌, ℕ, suc, ◌+◌, ◌^◌, ◌≤◌, ◌<◌, Bool, true, false, ◌&&◌, cond, List, [], ◌∷◌, ltb, Option, Some, None, SomeIff, refl, arith, lt-ltb, le-ltb, ltb-true, ltb-false, sym, length, get_or, drop, drop-cons, drop_of_length-le, add-one}
use mathlib.Core.Bool.{and-false}
use mathlib.Core.List.{foldl}
use Rattle.std.proofs.lemmas.Option.{none-some, cond_some}
use Rattle.decimal.proofs.Folds.{and_left, and_right}
use Rattle.decimal.specs.Numbers.{is_digit, one_more, next_read, read_behind}

-- a number is too large for one digit more
pub too_large : (v b : ℕ) → 2 ^ 64 ≤ one_more v b → next_read v b ≡ None
unfolding next_read
too_large v b h = rw (le-ltb (one_more v b) (2 ^ 64) h, and-false)

-- what a sum that is told to be too large answers is the step
pub digit_added : (v b m : ℕ) (r : Option ℕ) → is_digit b ≡ true → m ≡ one_more v b → SomeIff r (m < 2 ^ 64) m → r ≡ next_read v b
unfolding next_read
digit_added v b m None d e h = rw (d, le-ltb (one_more v b) (2 ^ 64) (omega (arith, h, e)))
digit_added v b m (Some n) d e h = rw (d, lt-ltb (one_more v b) (2 ^ 64) (omega (arith, h.0, e)), ← e, h.1)

-- digits behind a number do not make it smaller
grows : (v : ℕ) (w : List ℕ) → v ≤ foldl one_more v w
grows v [] = omega arith
grows v (b ∷ bs) = omega (arith, grows (one_more v b) bs)

-- a step that ends the number, before other bytes
step_none : (v b : ℕ) (bs : List ℕ) → next_read v b ≡ None → read_behind v (b ∷ bs) ≡ None
unfolding next_read
step_none v b bs h = go (is_digit b) (ltb (one_more v b) (2 ^ 64)) refl refl h
  where
    go : (d t : Bool) → is_digit b ≡ d → ltb (one_more v b) (2 ^ 64) ≡ t → cond (d && t) (Some (one_more v b)) None ≡ None → read_behind v (b ∷ bs) ≡ None
    go false t p q h = rw p
    go true false p q h = rw (p, le-ltb (foldl one_more (one_more v b) bs) (2 ^ 64) (omega (arith, ltb-false (one_more v b) (2 ^ 64) q, grows (one_more v b) bs)), and-false)
    go true true p q h = absurd (none-some (one_more v b) (sym h))

-- one that goes on
step_some : (v b u : ℕ) (bs : List ℕ) → next_read v b ≡ Some u → (u < 2 ^ 64) × (read_behind v (b ∷ bs) ≡ read_behind u bs)
unfolding next_read
step_some v b u bs h =
    let f = cond_some (is_digit b && ltb (one_more v b) (2 ^ 64)) (one_more v b) u h in
    let d = and_left (is_digit b) (ltb (one_more v b) (2 ^ 64)) f.0 in
    let t = ltb-true (one_more v b) (2 ^ 64) (and_right (is_digit b) (ltb (one_more v b) (2 ^ 64)) f.0) in
    (omega (arith, f.1), rw (d, f.1))

module _ (word : List ℕ) (i v : ℕ) where
  pub read_stops : i < length word → next_read v (get_or word i 0) ≡ None → read_behind v (drop i word) ≡ None
  read_stops l h = rw (drop-cons word i 0 l) (step_none v (get_or word i 0) (drop (suc i) word) h)

  pub read_goes : (u : ℕ) → i < length word → next_read v (get_or word i 0) ≡ Some u → (u < 2 ^ 64) × (read_behind v (drop i word) ≡ read_behind u (drop (i + 1) word))
  read_goes u l h = rw (drop-cons word i 0 l, add-one) (step_some v (get_or word i 0) u (drop (suc i) word) h)

  pub read_ends : length word ≤ i → v < 2 ^ 64 → read_behind v (drop i word) ≡ Some v
  read_ends l h = rw (drop_of_length-le word l, lt-ltb v (2 ^ 64) h)
