-- Where a part of a text ends, and what words stand behind it. Assumes nothing.
use Rattle.std.proofs.Common.{ℕ, ◌+◌, ◌≤◌, ◌<◌, min, ◌≡◌, refl, sym, Bool, true, false, cond, List, [], ◌∷◌, eqb, ltb, length, drop, Some, None, arith, unwrap_or, position, drop_of_length-le, lt-ltb, le-ltb, ltb-false, take, ◌-◌, take_all, length-drop}
use native.Mathlib.Decide.{dec_le}
use native.Mathlib.Nat.{min-eq_left, min-eq_right}
use Rattle.std.specs.List.{position_or_len, slice_split}
use Rattle.std.proofs.lemmas.List.Recursion.{is_position_or_len}
use Rattle.words.specs.Parts.{before_mark, end_of, words_of, words_behind, in_front}

-- the words are what a cut at each space gives
pub words_split : (bs : List ℕ) → words_of bs ≡ slice_split (λ b. eqb b 32) bs
unfolding words_of
words_split [] = refl
words_split (b ∷ bs) = rw (words_split bs)

-- there are no more words than bytes and one
pub words_few : (bs : List ℕ) → length (words_of bs) ≤ length bs + 1
unfolding words_of
words_few [] = omega arith
words_few (b ∷ bs) = go (eqb b 32) (words_of bs) (words_few bs)
  where
    go : (t : Bool) (ws : List (List ℕ)) → length ws ≤ length bs + 1 → length (cond t ([] ∷ ws) (in_front b ws)) ≤ length (b ∷ bs) + 1
    go true ws h = omega arith
    go false [] h = omega arith
    go false (w ∷ ws) h = omega arith

before_short : (mark : ℕ) (bs : List ℕ) → length (before_mark mark bs) ≤ length bs
unfolding before_mark
before_short mark [] = omega arith
before_short mark (b ∷ bs) = go (eqb b mark) (before_short mark bs)
  where
    go : (t : Bool) → length (before_mark mark bs) ≤ length bs → length (cond t [] (b ∷ before_mark mark bs)) ≤ length (b ∷ bs)
    go true h = omega arith
    go false h = omega arith

-- what stands before the mark, by its place
before_is : (mark : ℕ) (bs : List ℕ) → length (before_mark mark bs) ≡ position_or_len (λ b. eqb b mark) bs
unfolding before_mark
before_is mark = is_position_or_len (λ bs. length (before_mark mark bs)) (λ b. eqb b mark) refl (λ b bs. go (eqb b mark) b bs)
  where
    go : (t : Bool) (b : ℕ) (bs : List ℕ) → length (cond t [] (b ∷ before_mark mark bs)) ≡ cond t 0 (1 + length (before_mark mark bs))
    go true b bs = refl
    go false b bs = omega arith

found_or_end : (mark : ℕ) (bs : List ℕ) → unwrap_or (position (λ b. eqb b mark) bs) (length bs) ≡ length (before_mark mark bs)
found_or_end mark bs =
    let n = position_or_len (λ b. eqb b mark) bs in
    go n (ltb n (length bs)) refl (before_is mark bs)
  where
    go : (n : ℕ) (t : Bool) → ltb n (length bs) ≡ t → length (before_mark mark bs) ≡ n → unwrap_or (cond t (Some n) None) (length bs) ≡ length (before_mark mark bs)
    go n true q e = sym e
    go n false q e = omega (arith, ltb-false n (length bs) q, before_short mark bs)

-- the part of a text from a place on
pub rest_is : (text : List ℕ) (from : ℕ) → take (length text - from) (drop from text) ≡ drop from text
rest_is text from = take_all (length text - from) (drop from text) (omega (arith, length-drop from text))

-- a place past the end leaves nothing, as the end does
from_end : (text : List ℕ) (from : ℕ) → drop (min from (length text)) text ≡ drop from text
from_end text from = elim (dec_le from (length text)) [ yes l ↦ rw (min-eq_left l) | no n ↦ let l : length text ≤ from = omega arith in rw (min-eq_right l, drop_of_length-le text l) (drop_of_length-le text (omega arith)) ]

pub end_is : (mark : ℕ) (text : List ℕ) (from : ℕ) → let m = min from (length text) in let rest = take (length text - m) (drop m text) in
    from + unwrap_or (position (λ b. eqb b mark) rest) (length rest) ≡ end_of mark text from
unfolding end_of
end_is mark text from = rw (rest_is text (min from (length text)), from_end text from, found_or_end mark (drop from text))

-- the words behind a place, where there are any
pub words_from : (line : List ℕ) (end : ℕ) → end < length line → words_of (take (length line - (end + 1)) (drop (end + 1) line)) ≡ words_behind line end
unfolding words_behind
words_from line end h = rw (rest_is line (end + 1), lt-ltb end (length line) h)

pub words_none : (line : List ℕ) (end : ℕ) → length line ≤ end → words_behind line end ≡ []
unfolding words_behind
words_none line end h = rw (le-ltb end (length line) h)
