-- What a packet type number tells (02, "The whole packet type table"; Intel's Table 2-4).
-- Assumes nothing.
use Rattle.std.specs.Prelude.{ℕ, ◌+◌, ◌≤◌, ◌<◌, ◌≡◌, Bool, true, false, List, [], ◌∷◌}
use Rattle.rules.specs.Rules.{Line, ◌is◌, listed_at}
use Rattle.family.specs.declared.Family.{Family}
use Rattle.family.specs.declared.Family.TheVariants.{Unknown, Mac, Arp, Ipv4, Ipv6}
use Rattle.family.specs.Types.{family_of}
use Rattle.packet_types.specs.declared.L4.{L4}
use Rattle.packet_types.specs.declared.L4.TheVariants.{None, Tcp, Sctp, Udp, Icmp}
use Rattle.packet_types.specs.declared.Entry.{Entry}

-- an entry: the family, the IP version or 0, whether it is a fragment, the L4 kind
abbrev pub told : Family → ℕ → Bool → L4 → Entry
told f v b k = record { family = f; version = v; fragment = b; l4 = k }

-- a type that tells a family alone
abbrev plain : Family → Entry
plain f = told f 0 false None

-- a packet of either IP version with its L4 kind, and a fragment, which has none
abbrev ipv4 : L4 → Entry
ipv4 k = told Ipv4 4 false k

abbrev ipv6 : L4 → Entry
ipv6 k = told Ipv6 6 false k

abbrev ipv4_fragment : Entry
ipv4_fragment = told Ipv4 4 true None

abbrev ipv6_fragment : Entry
ipv6_fragment = told Ipv6 6 true None

-- Table 2-4, but for the numbers that it reserves, 0, 25 and 91, and for 12, which "should be ignored"
abbrev pub lines : List (Line Entry)
lines =
    1 is plain Mac
    ∷ 11 is plain Arp
    ∷ 22 is ipv4_fragment
    ∷ 23 is ipv4 None
    ∷ 24 is ipv4 Udp
    ∷ 26 is ipv4 Tcp
    ∷ 27 is ipv4 Sctp
    ∷ 28 is ipv4 Icmp
    ∷ 88 is ipv6_fragment
    ∷ 89 is ipv6 None
    ∷ 90 is ipv6 Udp
    ∷ 92 is ipv6 Tcp
    ∷ 93 is ipv6 Sctp
    ∷ 94 is ipv6 Icmp
    ∷ []

-- a type that tells nothing: no family of 01, no version, no fragment, no L4 kind
abbrev pub unknown : Entry
unknown = plain Unknown

-- what a number tells; one without a line is unknown
unfoldable pub entry_of : ℕ → Entry
entry_of n = listed_at lines unknown n

-- a number for each L4 kind, 0 for no kind; the papers give them no numbers
abbrev pub l4_number : L4 → ℕ
l4_number None = 0
l4_number Tcp = 1
l4_number Sctp = 2
l4_number Udp = 3
l4_number Icmp = 4

-- ---- what 02 asks to be proved over the table, for every type number

-- it agrees with 01's families
abbrev pub AsFamilies : Type 0
AsFamilies = (n : ℕ) → n < 256 → (entry_of n).family ≡ family_of n

-- IPv6 entries 88 to 94 match IPv4 entries 22 to 28 in all but family and version
abbrev pub Ipv6AsIpv4 : Type 0
Ipv6AsIpv4 = (n : ℕ) → 22 ≤ n → n ≤ 28 → ((entry_of (n + 66)).fragment ≡ (entry_of n).fragment) × ((entry_of (n + 66)).l4 ≡ (entry_of n).l4)

-- no fragment has an L4 kind
abbrev pub NoFragmentL4 : Type 0
NoFragmentL4 = (n : ℕ) → n < 256 → (entry_of n).fragment ≡ true → (entry_of n).l4 ≡ None
