-- What inner contracts cite, and the table as the code has it: an entry is a number of four digits of 16.
-- Assumes nothing.
use Rattle.std.specs.Prelude.{ℕ, ◌/◌, ◌%◌, List, [], ◌∷◌, ◌++◌, eqb, get_or, replicate}
use Rattle.rules.specs.Rules.{◌is◌, listed_at}
use Rattle.family.specs.Types.{family_from}
use Rattle.packet_types.specs.declared.L4.{L4}
use Rattle.packet_types.specs.declared.L4.TheVariants.{None, Tcp, Sctp, Udp, Icmp}
use Rattle.packet_types.specs.declared.Entry.{Entry}
use Rattle.packet_types.specs.Table.{told}

-- the L4 kind that has such a number; any other number's is none
abbrev pub l4_from : ℕ → L4
l4_from n = listed_at (1 is Tcp ∷ 2 is Sctp ∷ 3 is Udp ∷ 4 is Icmp ∷ []) None n

-- what four digits say, from the lowest: the family, the IP version, 1 for a fragment, the L4 kind
abbrev pub unpacked : ℕ → Entry
unpacked x = told (family_from (x % 16)) (x / 16 % 16) (eqb (x / 256 % 16) 1) (l4_from (x / 4096))

-- n unknown numbers before others
abbrev gap : ℕ → List ℕ → List ℕ
gap n xs = replicate n 0 ++ xs

-- the 256 numbers of the table, from that of type 0 on
unfoldable pub table : List ℕ
table =
    0
    ∷ 0x0001
    ∷ gap 9
    (0x0002
    ∷ gap 10
    (0x0143
    ∷ 0x0043
    ∷ 0x3043
    ∷ 0
    ∷ 0x1043
    ∷ 0x2043
    ∷ 0x4043
    ∷ gap 59 (0x0164 ∷ 0x0064 ∷ 0x3064 ∷ 0 ∷ 0x1064 ∷ 0x2064 ∷ 0x4064 ∷ replicate 161 0)))

-- its entry of a packet type number
abbrev pub entry_at : ℕ → Entry
entry_at n = unpacked (get_or table n 0)
