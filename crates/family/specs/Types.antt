-- The family of a packet type number (01, "Receiving"; Intel's Table 2-4).
-- Assumes nothing.
use Rattle.std.specs.Prelude.{ℕ, ◌||◌, cond, [], ◌∷◌, eqb}
use Rattle.rules.specs.Rules.{within, ◌is◌, listed_at}
use Rattle.family.specs.declared.Family.{Family}
use Rattle.family.specs.declared.Family.TheVariants.{Unknown, Mac, Arp, Ipv4, Ipv6}

-- the family of a packet type number
unfoldable pub family_of : ℕ → Family
family_of n =
    cond (eqb n 1) Mac
    (cond (eqb n 11) Arp
    (cond (within 22 24 n || within 26 28 n) Ipv4
    (cond (within 88 90 n || within 92 94 n) Ipv6
    Unknown)))

-- a number for each family, 0 for unknown; the paper has none
abbrev pub family_number : Family → ℕ
family_number Unknown = 0
family_number Mac = 1
family_number Arp = 2
family_number Ipv4 = 3
family_number Ipv6 = 4

-- the family that has such a number; any other number's is unknown
abbrev pub family_from : ℕ → Family
family_from n = listed_at (1 is Mac ∷ 2 is Arp ∷ 3 is Ipv4 ∷ 4 is Ipv6 ∷ []) Unknown n
