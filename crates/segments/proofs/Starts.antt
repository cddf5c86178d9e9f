-- Where pieces begin. Assumes nothing.
use Rattle.std.proofs.Common.{ℕ, zero, suc, take, ◌+◌, ◌≤◌, ◌<◌, min, ◌≡◌, refl, sym, List, [], ◌∷◌, arith, add-one, length, get_or}
use Rattle.std.specs.List.{sum}
use Rattle.std.proofs.Math.Seq.{take-suc}
use Rattle.std.proofs.lemmas.List.Sums.{sum_by-append}
use native.Mathlib.Decide.{le_ind, dec_lt}
use lib.ListN.{get_or-eq_default}
use Rattle.segments.specs.Touch.{start_of, total}

module _ (ls : List ℕ) where
  pub start_zero : start_of ls 0 ≡ 0
  unfolding start_of
  start_zero = refl

  pub start_next : (i : ℕ) → start_of ls (suc i) ≡ start_of ls i + get_or ls i 0
  unfolding start_of
  start_next i = refl

  pub start_up : {i : ℕ} (j : ℕ) → i ≤ j → start_of ls i ≤ start_of ls j
  unfolding start_of
  start_up {i} = le_ind (λ j. start_of ls i ≤ start_of ls j) (omega arith) (λ m _ r. omega arith)

  -- one turn of a loop that adds up lengths: the sum, and that it is at most the whole
  pub start_step : (s i : ℕ) → s ≡ start_of ls i → s + get_or ls i 0 ≡ start_of ls (i + 1)
  start_step s i e = rw (add-one, start_next i, e)

  pub start_whole : (i : ℕ) → i < length ls → start_of ls i + get_or ls i 0 ≤ total ls
  start_whole i l = rw (← start_next i) (start_up (length ls) l)

  pub start_before : (i j : ℕ) → start_of ls i < start_of ls j → i < j
  start_before i j h = elim (dec_lt i j) [ yes l ↦ l | no n ↦ absurd (omega (arith, start_up {i = j} i (omega arith))) ]

  -- past the last piece there is nothing more
  pub start_past : (j : ℕ) → length ls ≤ j → start_of ls j ≡ total ls
  unfolding start_of
  start_past = le_ind (λ j. start_of ls j ≡ total ls) refl (λ m h r. omega (arith, get_or-eq_default ls 0 h))

  pub start_least : (j : ℕ) → start_of ls (min (length ls) j) ≡ start_of ls j
  start_least j = elim (dec_lt (length ls) j) [ yes l ↦ (let e : min (length ls) j ≡ length ls = omega arith in rw e (sym (start_past j (omega arith)))) | no n ↦ (let e : min (length ls) j ≡ j = omega arith in rw e) ]

  -- the library's sum of the first pieces
  pub start_sum : (n : ℕ) → n ≤ length ls → sum (take n ls) ≡ start_of ls n
  unfolding start_of
  start_sum zero l = refl
  start_sum (suc n) l = rw (take-suc ls n 0 l) (omega (arith, sum_by-append (λ (x : ℕ). x) (take n ls) (get_or ls n 0 ∷ []), start_sum n (omega arith)))
