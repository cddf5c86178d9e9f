-- The sum of a list of 64-bit numbers: from 0, for each number a turn to the left by 7 bits, then exclusive or.
-- Assumes nothing.
use Rattle.std.specs.Prelude.{ℕ, ◌*◌, ◌/◌, ◌%◌, ◌^◌}
use mathlib.Core.List.{List, foldl}
use Rattle.std.specs.Int.Bits.{bit_or, bit_xor}

abbrev pub turned : ℕ → ℕ
turned h = bit_or (h * 2 ^ 7 % 2 ^ 64) (h / 2 ^ 57)

abbrev pub mixed : ℕ → ℕ → ℕ
mixed h x = bit_xor (turned h) x

abbrev pub sum_of : List ℕ → ℕ
sum_of xs = foldl mixed 0 xs
