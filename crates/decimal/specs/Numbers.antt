-- Numbers as text: the number that a word of decimal digits writes.
-- Assumes nothing.
use Rattle.std.specs.Prelude.{ℕ, ◌+◌, ◌-◌, ◌*◌, ◌^◌, Bool, true, ◌&&◌, cond, List, [], ◌∷◌, leb, ltb, length, Option, Some, None}
use mathlib.Core.List.{foldl}

-- a decimal digit, '0' to '9'
abbrev pub is_digit : ℕ → Bool
is_digit b = leb 48 b && leb b 57

abbrev pub all_digits : List ℕ → Bool
all_digits [] = true
all_digits (b ∷ bs) = is_digit b && all_digits bs

-- a number with one digit more behind it
abbrev pub one_more : ℕ → ℕ → ℕ
one_more v b = v * 10 + (b - 48)

-- the number that digits write
abbrev pub value_of : List ℕ → ℕ
value_of ds = foldl one_more 0 ds

-- digits of a value below 2^64
abbrev pub fitting : List ℕ → Bool
fitting w = all_digits w && ltb (value_of w) (2 ^ 64)

-- a number: one to twenty decimal digits of a value below 2^64
abbrev pub is_number : List ℕ → Bool
is_number w = leb 1 (length w) && leb (length w) 20 && fitting w

-- what a word says
unfoldable pub number_of : List ℕ → Option ℕ
number_of w = cond (is_number w) (Some (value_of w)) None

-- one step of the reader: the number that is read so far, with one byte more
unfoldable pub next_read : ℕ → ℕ → Option ℕ
next_read v b = cond (is_digit b && ltb (one_more v b) (2 ^ 64)) (Some (one_more v b)) None

-- what digits behind a number make of it
abbrev pub read_behind : ℕ → List ℕ → Option ℕ
read_behind v w = cond (all_digits w && ltb (foldl one_more v w) (2 ^ 64)) (Some (foldl one_more v w)) None
