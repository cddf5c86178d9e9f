-- Bit fields of a word, over position and width. Bits count from 0 at the low end.
-- Assumes nothing.
use Rattle.std.specs.Prelude.{ℕ, ◌+◌, ◌*◌, ◌/◌, ◌%◌, ◌^◌, ◌<◌, Bool, true, false, ◌&&◌, ◌||◌, List, [], ◌∷◌, leb, eqb, get_or}

-- what a word reads as at a position and a width
abbrev pub field_of : ℕ → ℕ → ℕ → ℕ
field_of at width w = w / 2 ^ at % 2 ^ width

-- the low `width` bits of a value, placed at a position
abbrev pub placed : ℕ → ℕ → ℕ → ℕ
placed at width v = v % 2 ^ width * 2 ^ at

-- a word with a value's low bits in one field, and all else as it was
abbrev pub replaced : ℕ → ℕ → ℕ → ℕ → ℕ
replaced at width v w = w / 2 ^ (at + width) * 2 ^ (at + width) + w % 2 ^ at + placed at width v

-- a line of a word's table: position, width, value
pub record Part : Type 0 where
  pub at : ℕ
  pub width : ℕ
  pub value : ℕ

abbrev pub part : ℕ → ℕ → ℕ → Part
part a k v = record { at = a; width = k; value = v }

-- line i of a table
abbrev pub nth : List Part → ℕ → Part
nth ps i = get_or ps i (part 0 0 0)

-- a line of a table, still without its value
abbrev pub Line : Type 0
Line = ℕ → Part

-- what a word reads as at a line, as a number and as a flag, and a number that fits there
abbrev pub read_at : Line → ℕ → ℕ
read_at l w = field_of (l 0).at (l 0).width w

abbrev pub is_set : Line → ℕ → Bool
is_set l w = eqb (read_at l w) 1

abbrev pub Fits : Line → ℕ → Type 0
Fits l n = n < 2 ^ (l 0).width

-- the word of a table: the sum of its placed values
abbrev pub word_of : List Part → ℕ
word_of [] = 0
word_of (p ∷ ps) = placed p.at p.width p.value + word_of ps

-- a table's fields stand in rising order from j on, and none overlaps the one before
abbrev pub rising : ℕ → List Part → Bool
rising j [] = true
rising j (p ∷ ps) = leb j p.at && rising (p.at + p.width) ps

-- the first position past a table's last field
abbrev pub end_of : ℕ → List Part → ℕ
end_of j [] = j
end_of j (p ∷ ps) = end_of (p.at + p.width) ps

-- two fields share no bit
abbrev pub apart : ℕ → ℕ → ℕ → ℕ → Bool
apart at k at' k' = leb (at' + k') at || leb (k + at) at'

-- a field shares no bit with any line of a table
abbrev pub free : ℕ → ℕ → List Part → Bool
free at k [] = true
free at k (p ∷ ps) = apart p.at p.width at k && free at k ps

-- a flag as a number
abbrev pub bit : Bool → ℕ
bit true = 1
bit false = 0
