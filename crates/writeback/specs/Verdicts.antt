-- What the two verdicts of a write-back tell, and what they do not (02, "Say whether the checksum may be believed").
-- Assumes nothing.
use Rattle.std.specs.Prelude.{ℕ, ◌≡◌, ◌≢◌, ◌⊎◌, true}
use Rattle.field.specs.Field.{Line, replaced}
use Rattle.family.specs.declared.Family.TheVariants.{Unknown}
use Rattle.places.specs.Places.{ipe_place, l4e_place}
use Rattle.places.specs.Words.{Words}
use Rattle.verdict.specs.declared.Verdict.TheVariants.{NotChecked}
use Rattle.writeback.specs.WriteBack.{write_back_of}

-- a verdict is good or bad only where L3L4P is set and the type known
abbrev pub OnlyProcessed : Type 0
OnlyProcessed = (x : Words) → ((write_back_of x).l3 ≢ NotChecked) ⊎ ((write_back_of x).l4 ≢ NotChecked) → ((write_back_of x).l3l4p ≡ true) × ((write_back_of x).family ≢ Unknown)

-- words with a value's low bits put at one place of word 1
abbrev pub having : Line → ℕ → Words → Words
having l v x = record { word0 = x.word0; word1 = replaced (l 0).at (l 0).width v x.word1 }

-- the two raw bits are seen through the verdicts alone: words that differ in IPE alone and have the same verdict for L3 have the same read; L4E and L4 alike
abbrev pub IpeThroughL3 : Type 0
IpeThroughL3 = (x : Words) (v : ℕ) → (write_back_of (having ipe_place v x)).l3 ≡ (write_back_of x).l3 → write_back_of (having ipe_place v x) ≡ write_back_of x

abbrev pub L4eThroughL4 : Type 0
L4eThroughL4 = (x : Words) (v : ℕ) → (write_back_of (having l4e_place v x)).l4 ≡ (write_back_of x).l4 → write_back_of (having l4e_place v x) ≡ write_back_of x

-- so have all words that differ in IPE alone, unless L3 is checked; in L4E alike
abbrev pub IpeUnseen : Type 0
IpeUnseen = (x : Words) (v : ℕ) → (write_back_of x).l3 ≡ NotChecked → write_back_of (having ipe_place v x) ≡ write_back_of x

abbrev pub L4eUnseen : Type 0
L4eUnseen = (x : Words) (v : ℕ) → (write_back_of x).l4 ≡ NotChecked → write_back_of (having l4e_place v x) ≡ write_back_of x
