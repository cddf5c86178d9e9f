-- The parts of a text: what stands before a mark, and the words between spaces (words are separated by exactly one).
-- Assumes nothing.
use Rattle.std.specs.Prelude.{ℕ, ◌+◌, Bool, true, ◌&&◌, cond, List, [], ◌∷◌, map, ◌≡◌, leb, ltb, eqb, length, get_or, drop, is_some, unwrap_or, Result, Ok, Err}
use Rattle.std.proofs.lemmas.List.Edits.{sets}
use Rattle.decimal.specs.Numbers.{number_of}
use Rattle.words.specs.declared.Unread.{Unread}

-- what stands before the first mark
unfoldable pub before_mark : ℕ → List ℕ → List ℕ
before_mark mark [] = []
before_mark mark (b ∷ bs) = cond (eqb b mark) [] (b ∷ before_mark mark bs)

-- where the part that begins at a place ends: at the next mark, or at the end of the text
unfoldable pub end_of : ℕ → List ℕ → ℕ → ℕ
end_of mark text from = from + length (before_mark mark (drop from text))

-- a line that says nothing: an empty one, or one that begins with '#'
abbrev pub is_silent : List ℕ → Bool
is_silent line = cond (eqb (length line) 0) true (eqb (get_or line 0 0) 35)

-- a byte in front of the first word
abbrev pub in_front : ℕ → List (List ℕ) → List (List ℕ)
in_front b [] = (b ∷ []) ∷ []
in_front b (w ∷ ws) = (b ∷ w) ∷ ws

-- the words of a text: all that stands between its spaces, empty words included
unfoldable pub words_of : List ℕ → List (List ℕ)
words_of [] = [] ∷ []
words_of (b ∷ bs) = cond (eqb b 32) ([] ∷ words_of bs) (in_front b (words_of bs))

-- the words behind the one that ends at this place: none at the end of the line
unfoldable pub words_behind : List ℕ → ℕ → List (List ℕ)
words_behind line end = cond (ltb end (length line)) (words_of (drop (end + 1) line)) []

abbrev pub all_numbers : List (List ℕ) → Bool
all_numbers [] = true
all_numbers (w ∷ ws) = is_some (number_of w) && all_numbers ws

-- the number that a word writes, 0 where it writes none
abbrev pub value_in : List ℕ → ℕ
value_in w = unwrap_or (number_of w) 0

-- what reading these words as numbers into so many places answers: how many they are, on either side
abbrev pub read_of : List (List ℕ) → ℕ → Result ℕ Unread
read_of ws room = cond (all_numbers ws && leb (length ws) room) (Ok (length ws)) (Err (record { words = length ws }))

-- words read as numbers: the answer, and what is in the places afterwards (those past the end are not written)
pub record ReadWords (ws : List (List ℕ)) (out : List ℕ) (r : Result ℕ Unread) (left : List ℕ) : Type 0 where
  pub answer_is : r ≡ read_of ws (length out)
  pub numbers_are : left ≡ sets out 0 (map value_in ws)

-- the numbers behind a command: the answer, and what is in the places afterwards
abbrev pub ReadNumbers : List ℕ → ℕ → List ℕ → Result ℕ Unread → List ℕ → Type 0
ReadNumbers line end out r left = ReadWords (words_behind line end) out r left
