-- Every field of the words at both of its ends, computed; that all numbers between them read back too is `data_back` and `context_back`.
-- Assumes nothing.
use Rattle.std.proofs.Common.{◌≡◌, refl, Bool, true, false, not, ◌&&◌, cond, List, [], ◌∷◌, ℕ, zero, suc, ◌-◌, ◌^◌, eqb, length}
use Rattle.field.specs.Field.{Part, part, field_of, word_of}
use Rattle.descriptor.specs.declared.Data.{Data}
use Rattle.descriptor.specs.Words.{data_parts, data_word, read_data, context_parts, context_word, read_context}

-- the highest number of a line
abbrev top : Part → ℕ
top p = 2 ^ p.width - 1

-- a table whose line i, counted from j, is at its top if f i and at 0 if not
abbrev filled : (ℕ → Bool) → ℕ → List Part → List Part
filled f j [] = []
filled f j (p ∷ ps) = part p.at p.width (cond (f j) (top p) 0) ∷ filled f (suc j) ps

-- each line of a table reads back from a word
abbrev all_read : ℕ → List Part → Bool
all_read w [] = true
all_read w (p ∷ ps) = eqb (field_of p.at p.width w) p.value && all_read w ps

abbrev backs : List Part → Bool
backs ps = all_read (word_of ps) ps

-- each of the first n lines at its top and all others at 0, and the other way round
abbrev ends : ℕ → List Part → Bool
ends zero ps = true
ends (suc i) ps = backs (filled (λ j. eqb i j) 0 ps) && backs (filled (λ j. not (eqb i j)) 0 ps) && ends i ps

abbrev nothing : Data
nothing = record { eop = false; rs = false; il2tag1 = false; iipt = 0; l4t = 0; maclen = 0; iplen = 0; l4len = 0; length = 0; tag = 0 }

pub data_ends : ends (length (data_parts nothing)) (data_parts nothing) ≡ true
data_ends = refl

pub context_ends : ends (length (context_parts (record { tlen = 0; mss = 0 }))) (context_parts (record { tlen = 0; mss = 0 })) ≡ true
context_ends = refl

-- all fields at their tops: the bits that are left are 3:0, 8, 11 and 15:14; all at 0: the CRC command is left
abbrev highest : Data
highest = record { eop = true; rs = true; il2tag1 = true; iipt = 3; l4t = 3; maclen = 127; iplen = 127; l4len = 15; length = 16383; tag = 65535 }

pub data_highest : (data_word highest ≡ 0xFFFF_FFFF_FFFF_36F0) × (read_data 0xFFFF_FFFF_FFFF_36F0 ≡ highest) × (data_word nothing ≡ 0x40) × (read_data 0x40 ≡ nothing)
data_highest = (refl, refl, refl, refl)

pub context_highest : (context_word (record { tlen = 262143; mss = 16383 }) ≡ 0xFFFC_FFFF_C000_0011) × (read_context 0xFFFC_FFFF_C000_0011 ≡ record { tlen = 262143; mss = 16383 })
context_highest = (refl, refl)
