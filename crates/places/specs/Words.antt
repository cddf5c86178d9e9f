-- The two words of a received slot, and what a take decides by (01, "Receiving").
-- Assumes nothing.
use Rattle.std.specs.Prelude.{ℕ, Bool}
use Rattle.field.specs.Field.{read_at, is_set}
use Rattle.places.specs.Places.{dd_place, eop_place, length_place}

-- the two words of a descriptor
pub record Words : Type 0 where
  pub word0 : ℕ
  pub word1 : ℕ

-- DD, EOP and the length, which take decides by
abbrev pub dd : Words → Bool
dd x = is_set dd_place x.word1

abbrev pub eop : Words → Bool
eop x = is_set eop_place x.word1

abbrev pub length_of : Words → ℕ
length_of x = read_at length_place x.word1
