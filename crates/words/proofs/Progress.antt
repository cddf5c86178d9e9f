-- The loop over the words of a text: what is read so far, and what is left, are all of it. Assumes nothing.
use Rattle.std.proofs.Common.{ℕ, suc, ◌+◌, ◌≤◌, ◌<◌, ◌≡◌, refl, Bool, true, ◌&&◌, List, [], ◌∷◌, map, leb, cond, length, set, drop, get_or, Option, is_some, unwrap_or, Ok, Err, arith, add-one, length-set, drop-cons, drop_of_length-le}
use mathlib.Core.Bool.{and_assoc, and-true}
use lib.Seq.{sets}
use Rattle.decimal.specs.Numbers.{number_of}
use Rattle.words.specs.Parts.{all_numbers, value_in, ReadWords}

-- the first n words are read, so many, into out
pub record SoFar (ws : List (List ℕ)) (first out : List ℕ) (n count : ℕ) (ok : Bool) : Type 0 where
  pub few : n ≤ length ws
  pub count_is : count ≡ n
  pub long : length out ≡ length first
  pub ok_is : ok && all_numbers (drop n ws) ≡ all_numbers ws
  pub numbers_are : sets out count (map value_in (drop n ws)) ≡ sets first 0 (map value_in ws)

module _ {ws : List (List ℕ)} {first : List ℕ} where
  -- one word more
  pub one_more : {out left : List ℕ} {n count : ℕ} {ok : Bool} {r : Option ℕ} (w : List ℕ) → SoFar ws first out n count ok → n < length ws → w ≡ get_or ws n w
      → r ≡ number_of w → left ≡ set out count (unwrap_or r 0) → SoFar ws first left (n + 1) (count + 1) (ok && is_some r)
  one_more {out} {left} {n} {count} {ok} {r} w s h p q l =
      let e : drop n ws ≡ w ∷ drop (suc n) ws = rw (← p) at (drop-cons ws n w h) in
      record {
        few = omega arith;
        count_is = omega (arith, s.count_is);
        long = rw (l, length-set) s.long;
        ok_is = rw (q, add-one n, and_assoc ok (is_some (number_of w)) (all_numbers (drop (suc n) ws))) (rw e at s.ok_is);
        numbers_are = rw (l, q, add-one n, add-one count) (rw e at s.numbers_are);
      }

  -- at the end nothing is left
  pub all_read : {out : List ℕ} {n count : ℕ} {ok : Bool} → SoFar ws first out n count ok → n ≡ length ws
      → ReadWords ws first (cond (ok && leb count (length out)) (Ok count) (Err (record { words = count }))) out
  all_read {out} {n} {count} {ok} s h =
      let none : drop n ws ≡ [] = drop_of_length-le ws (omega arith) in
      let k : count ≡ length ws = omega (arith, s.count_is) in
      record {
        answer_is = rw (s.long, ← rw (none, and-true) at s.ok_is, ← k);
        numbers_are = rw none at s.numbers_are;
      }
