-- The places of a write-back's words by name (01, "Receiving"), each a line of the word. Every other bit is reserved.
-- Assumes nothing.
use Rattle.std.specs.Prelude.{ℕ, ◌+◌, List, [], ◌∷◌}
use Rattle.field.specs.Field.{Part, part, Line}

-- word 0: L2TAG1 in 31:16, filter status in 63:32
abbrev pub l2tag1_place : Line
l2tag1_place v = part 16 16 v

abbrev pub filter_place : Line
filter_place v = part 32 32 v

-- word 1, status in 18:0
abbrev pub dd_place : Line
dd_place v = part 0 1 v

abbrev pub eop_place : Line
eop_place v = part 1 1 v

abbrev pub l2tag1p_place : Line
l2tag1p_place v = part 2 1 v

abbrev pub l3l4p_place : Line
l3l4p_place v = part 3 1 v

abbrev pub crcp_place : Line
crcp_place v = part 4 1 v

abbrev pub umbcast_place : Line
umbcast_place v = part 9 2 v

abbrev pub fltstat_place : Line
fltstat_place v = part 12 2 v

abbrev pub lpbk_place : Line
lpbk_place v = part 14 1 v

abbrev pub ipv6exadd_place : Line
ipv6exadd_place v = part 15 1 v

abbrev pub int_udp0_place : Line
int_udp0_place v = part 18 1 v

-- error in 26:19, its bits counted within their field
abbrev pub error_bit : ℕ → Line
error_bit n v = part (19 + n) 1 v

abbrev pub ipe_place : Line
ipe_place = error_bit 3

abbrev pub l4e_place : Line
l4e_place = error_bit 4

abbrev pub oversize_place : Line
oversize_place = error_bit 6

-- packet type in 37:30, length in 51:38
abbrev pub ptype_place : Line
ptype_place v = part 30 8 v

abbrev pub length_place : Line
length_place v = part 38 14 v

-- all places of word 0 and of word 1
abbrev pub places0 : List Part
places0 = l2tag1_place 0 ∷ filter_place 0 ∷ []

abbrev pub places1 : List Part
places1 =
    dd_place 0
    ∷ eop_place 0
    ∷ l2tag1p_place 0
    ∷ l3l4p_place 0
    ∷ crcp_place 0
    ∷ umbcast_place 0
    ∷ fltstat_place 0
    ∷ lpbk_place 0
    ∷ ipv6exadd_place 0
    ∷ int_udp0_place 0
    ∷ ipe_place 0
    ∷ l4e_place 0
    ∷ oversize_place 0
    ∷ ptype_place 0
    ∷ length_place 0
    ∷ []
