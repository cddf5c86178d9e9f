-- Which pieces a segment touches, and whether some segment touches too many (document 01, "Sending"). Bytes are counted over
-- the whole packet: the header is its first bytes, and payload byte p is the packet's byte header + p. Assumes nothing.
use Rattle.std.specs.Prelude.{ℕ, zero, suc, ◌+◌, ◌*◌, ◌≤◌, ◌<◌, min, max, ◌⊎◌, Bool, false, cond, ◌&&◌, ◌||◌, List, leb, ltb, length, get_or}

-- answer 8: a segment touches more pieces than this
abbrev pub most_touched : ℕ
most_touched = 8

-- the header of a segmented send ends within this many pieces, the first
abbrev pub header_pieces : ℕ
header_pieces = 3

-- how many of 0, 1, .. n - 1 pass a test
unfoldable pub count_below : ℕ → (ℕ → Bool) → ℕ
count_below zero t = 0
count_below (suc n) t = cond (t n) 1 0 + count_below n t

-- whether one of 0, 1, .. n - 1 passes it
unfoldable pub some_below : ℕ → (ℕ → Bool) → Bool
some_below zero t = false
some_below (suc n) t = t n || some_below n t

-- the byte at which piece i begins, which is where piece i - 1 ends: the bytes of the first i pieces
unfoldable pub start_of : List ℕ → ℕ → ℕ
start_of ls zero = 0
start_of ls (suc i) = start_of ls i + get_or ls i 0

-- the bytes of all pieces
abbrev pub total : List ℕ → ℕ
total ls = start_of ls (length ls)

-- the header ends within the first three pieces
abbrev pub header_within : List ℕ → ℕ → Bool
header_within ls header = leb header (start_of ls header_pieces)

-- piece i holds one of the bytes from `from` up to `upto`: the later of the two beginnings is before the lesser of the two ends
abbrev pub holds : List ℕ → ℕ → ℕ → ℕ → Bool
holds ls from upto i = ltb (max (start_of ls i) from) (min (start_of ls (suc i)) upto)

-- byte b is in piece i
abbrev pub InPiece : List ℕ → ℕ → ℕ → Type 0
InPiece ls i b = (start_of ls i ≤ b) × (b < start_of ls (suc i))

-- segment k covers payload bytes k * mss up to the lesser of (k + 1) * mss and tlen: of the packet's bytes, those from here
abbrev pub covers_from : ℕ → ℕ → ℕ → ℕ
covers_from header mss k = header + k * mss

-- up to here
abbrev pub covers_upto : ℕ → ℕ → ℕ → ℕ → ℕ
covers_upto header mss tlen k = header + min ((k + 1) * mss) tlen

-- byte b is one of the header, or of the payload that segment k covers
abbrev pub OfSegment : ℕ → ℕ → ℕ → ℕ → ℕ → Type 0
OfSegment header mss tlen k b = (b < header) ⊎ ((covers_from header mss k ≤ b) × (b < covers_upto header mss tlen k))

-- segment k touches piece i: the piece holds a header byte, or one of the segment's payload bytes
abbrev pub touches : List ℕ → ℕ → ℕ → ℕ → ℕ → ℕ → Bool
touches ls header mss tlen k i = holds ls 0 header i || holds ls (covers_from header mss k) (covers_upto header mss tlen k) i

-- how many pieces segment k touches; a piece with both counts once
abbrev pub touched : List ℕ → ℕ → ℕ → ℕ → ℕ → ℕ
touched ls header mss tlen k = count_below (length ls) (touches ls header mss tlen k)

-- some segment, a k with k * mss < tlen, touches over 8; each such k is below tlen where mss is not 0, and where it is 0 all
-- segments are alike
unfoldable pub is_crowded : List ℕ → ℕ → ℕ → ℕ → Bool
is_crowded ls header mss tlen = some_below tlen (λ k. ltb (k * mss) tlen && ltb most_touched (touched ls header mss tlen k))
