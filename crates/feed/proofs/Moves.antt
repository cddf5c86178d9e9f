-- Bytes moved to the front of the memory that holds them. Assumes nothing.
use Rattle.std.proofs.Common.{ℕ, ◌+◌, ◌-◌, ◌≤◌, min, ◌≡◌, ap, sym, ◌∙◌, List, length, take, drop, arith, length-take, length-drop, drop_of_length-le, take_all}
use native.Mathlib.Nat.{min-eq_left, min-eq_right}
use native.Mathlib.Decide.{dec_le}
use lib.Seq.{slice, paste, take-length}
use Rattle.std.proofs.lemmas.List.{drop-take}
use Rattle.std.proofs.lemmas.List.Edits.{sets-eq}
use Rattle.feed.specs.Feeding.{MovedDown}

-- a slice that ends at the end of the text, or before it
pub slice_end : (from to : ℕ) (text : List ℕ) → slice from to text ≡ slice from (min to (length text)) text
slice_end from to text = ap (drop from) (go)
  where
    go : take to text ≡ take (min to (length text)) text
    go = elim (dec_le to (length text)) [ yes l ↦ rw (min-eq_left l) | no n ↦ let l : length text ≤ to = omega arith in rw (min-eq_right l, take_all to text l) (sym (take-length text)) ]

-- and one that begins past its end
part_is : (from end : ℕ) (text : List ℕ) → slice from end text ≡ take (end - min from end) (drop (min from end) text)
part_is from end text = elim (dec_le from end) [
  | yes l ↦ let e : from + (end - from) ≡ end = omega arith in rw (min-eq_left l) (rw e at (drop-take from (end - from) text))
  | no n ↦
      let l : end ≤ from = omega arith in
      let none : end - end ≡ 0 = omega arith in
      rw (min-eq_right l, none) (drop_of_length-le (take end text) {i = from} (omega (arith, length-take end text)))
]

pub moved : (text left : List ℕ) (from to end start : ℕ) → end ≡ min to (length text) → start ≡ min from end → left ≡ paste text 0 (drop start text) (end - start) → MovedDown text from to (end - start) left
moved text left from to end start e s l =
    let bytes = take (end - start) (drop start text) in
    let part : slice from to text ≡ bytes = rw (s, e) (slice_end from to text ∙ part_is from (min to (length text)) text) in
    let long : length bytes ≡ end - start = omega (arith, length-take (end - start) (drop start text), length-drop start text) in
    record { count_is = rw part (sym long); text_is = rw part (l ∙ sym (rw long at (sets-eq bytes text 0 (omega arith)))) }
