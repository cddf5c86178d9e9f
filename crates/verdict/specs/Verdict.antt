-- Whether a packet's checksums may be believed (02, "Say whether the checksum may be believed"; Intel's Section 2.1.6.3).
-- Assumes nothing.
use Rattle.std.specs.Prelude.{ℕ, Bool, false, not, ◌&&◌, ◌||◌, cond, List, [], ◌∷◌, eqb}
use Rattle.family.specs.declared.Family.TheVariants.{Unknown, Ipv4, Ipv6}
use Rattle.family.specs.Types.{family_number}
use Rattle.packet_types.specs.declared.L4.{L4}
use Rattle.packet_types.specs.declared.L4.TheVariants.{None, Udp, Icmp}
use Rattle.packet_types.specs.declared.Entry.{Entry}
use Rattle.packet_types.specs.Table.{told, l4_number}
use Rattle.verdict.specs.declared.Verdict.{Verdict}
use Rattle.verdict.specs.declared.Verdict.TheVariants.{NotChecked, Good, Bad}
use Rattle.verdict.specs.declared.Marks.{Marks}

infix 68 ◌if◌
-- a number for each verdict, 0 for not checked
abbrev pub verdict_number : Verdict → ℕ
verdict_number NotChecked = 0
verdict_number Good = 1
verdict_number Bad = 2

-- a rule: a verdict, and the cause that it is given for
pub record Rule : Type 0 where
  pub verdict : Verdict
  pub cause : Bool

abbrev pub ◌if◌ : Verdict → Bool → Rule
v if b = record { verdict = v; cause = b }

-- the rules in their order: the first whose cause holds decides, and a checksum is good where none does
abbrev pub decided : List Rule → Verdict
decided [] = Good
decided (r ∷ rs) = cond r.cause r.verdict (decided rs)

-- what the rules ask of a type
abbrev pub is_unknown : Entry → Bool
is_unknown e = eqb (family_number e.family) (family_number Unknown)

abbrev is_kind : L4 → Entry → Bool
is_kind k e = eqb (l4_number e.l4) (l4_number k)

abbrev is_version : ℕ → Entry → Bool
is_version v e = eqb e.version v

module _ (e : Entry) (m : Marks) where
  -- L3L4P clear, or an unknown type
  abbrev pub none_checked : Bool
  none_checked = not m.l3l4p || is_unknown e

  -- UDP with INT_UDP_0
  abbrev no_udp_checksum : Bool
  no_udp_checksum = is_kind Udp e && m.int_udp_0

  -- L3: for IPv4 types only
  abbrev pub l3_rules : List Rule
  l3_rules =
      NotChecked if none_checked
      ∷ NotChecked if not (is_version 4 e)
      ∷ Bad if m.ipe
      ∷ []

  -- L4: not for ICMP, without an L4 kind or for a fragment, nor for UDP of IPv4 with INT_UDP_0; of IPv6 that is bad, and this comes before IPV6EXADD
  abbrev pub l4_rules : List Rule
  l4_rules =
      NotChecked if none_checked
      ∷ NotChecked if (is_kind Icmp e || is_kind None e || e.fragment)
      ∷ NotChecked if (no_udp_checksum && is_version 4 e)
      ∷ Bad if (no_udp_checksum && is_version 6 e)
      ∷ NotChecked if m.ipv6exadd
      ∷ Bad if m.l4e
      ∷ []

  unfoldable pub l3_of : Verdict
  l3_of = decided l3_rules

  unfoldable pub l4_of : Verdict
  l4_of = decided l4_rules

-- a known type of this IP version and this L4 kind that is no fragment
abbrev pub typed : ℕ → L4 → Entry
typed v k = told (cond (eqb v 4) Ipv4 Ipv6) v false k
